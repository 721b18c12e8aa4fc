use Rattle.std.proofs.Common.{arith}
use Rattle.mold_feed.specs.Sent.{blocks_input, to_empty_input}
use Rattle.mold_feed.proofs.SameBytesLemmas.{SameBytesLaws, same_bytes, same_to_mark}
use Rattle.mold_feed.proofs.laws.same_bytes_law.Given.{Over}
use Rattle.mold_feed.proofs.laws.same_bytes_law.Goals.{After-blocks_to_empty_law}
use Rattle.mold_feed.proofs.laws.same_bytes_law.Goals as goal

laws : (g : Over) → After-blocks_to_empty_law g → SameBytesLaws
laws g c = record {
  messages = c.published_law.ensures.messages;
  before = c.published_law.ensures.before;
  spelled = c.blocks_law.ensures.spelled;
  to_empty = c.blocks_to_empty_law.ensures.spelled;
}

pub returns-clause-same : goal.returns-clause-same
returns-clause-same g c =
    λ reporting limit window turns burst journal input server a b requests arbitration a_left b_left requests_left left
    result old new sent opening fits anew hears ran.
    same_bytes (laws g c) limit journal opening input fits
    (c.session_law.ensures.blocks reporting limit 1 window turns burst journal (blocks_input input) server a b requests
    arbitration a_left b_left requests_left left result old new sent opening (omega arith) (omega arith) anew hears ran)

pub returns-clause-marked : goal.returns-clause-marked
returns-clause-marked g c =
    λ reporting limit window turns burst journal input server a b requests arbitration a_left b_left requests_left left
    result old new sent opening fits anew hears ran.
    same_to_mark (laws g c) limit journal opening input fits
    (c.session_law.ensures.to_empty reporting limit 1 window turns burst journal (to_empty_input input) server a b
    requests arbitration a_left b_left requests_left left result old new sent opening (omega arith) (omega arith) anew
    hears ran)
