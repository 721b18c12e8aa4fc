use Rattle.std.proofs.Common.{arith, refl}
use Rattle.mold_feed.specs.Sent.{blocks_input, lines_input, to_empty_input}
use Rattle.mold_feed.proofs.LinesPrintedLemmas.{all_lines}
use Rattle.mold_feed.proofs.OpeningLemmas.{left_by}
use Rattle.mold_feed.proofs.SameBytesLemmas.{SameBytesLaws, same_bytes, unrefused}
use Rattle.mold_input.specs.declared.message_format.MessageFormat.TheVariants.{Blocks, BlocksToEmpty, Lines}
use Rattle.mold_receive_law.proofs.EndedLemmas.{ReceiveLaws, all_blocks, all_lines_written, all_marked, broken_prints}
use Rattle.mold_receive_law.proofs.EndedLemmas.{ended_prints, prints_all, stopped_prints}
use Rattle.mold_receive_law.proofs.laws.receive_law.Given.{Over}
use Rattle.mold_receive_law.proofs.laws.receive_law.Goals.{After-lost_count_law}
use Rattle.mold_receive_law.proofs.laws.receive_law.Goals as goal

laws : (g : Over) → After-lost_count_law g → ReceiveLaws g.row.D-Peer.Denot
laws g c = record {
  repair = record {
    taken = c.taken_law.ensures;
    pieces = c.safe_law.ensures.pieces;
    honest = c.safe_law.ensures.honest;
    count = c.lost_count_law.ensures;
  };
  opening = record { answers = c.published_law.ensures.answers; begins = c.honest_stays_law.ensures.fresh };
  within = c.honest_stays_law.ensures.within;
  fed = c.fed_law.ensures;
}

bytes_laws : (g : Over) → After-lost_count_law g → SameBytesLaws
bytes_laws g c = record {
  messages = c.published_law.ensures.messages;
  before = c.published_law.ensures.before;
  spelled = c.blocks_law.ensures.spelled;
  to_empty = c.blocks_to_empty_law.ensures.spelled;
}

pub returns-clause-printed : goal.returns-clause-printed
returns-clause-printed g c =
    λ lines servers format given limit first window journal input old new before after held_old held_new status opening least
    most anew uncounted fed ended.
    ended_prints (laws g c) limit journal input opening first window least most old anew uncounted format lines servers
    given new before after held_old held_new status fed ended

pub returns-clause-all : goal.returns-clause-all
returns-clause-all g c =
    λ lines servers format given limit first window journal input old new before after held_old held_new opening least most
    anew uncounted fed ended.
    prints_all format (left_by journal input) first held_old held_new
    (ended_prints (laws g c) limit journal input opening first window least most old anew uncounted format lines servers
    given new before after held_old held_new 0 fed ended)

pub returns-clause-lines : goal.returns-clause-lines
returns-clause-lines g c =
    λ lines servers given limit first window journal published old new before after held_old held_new opening least most anew
    uncounted fed ended.
    let input = lines_input published in
    let left = left_by journal input in
    let all = prints_all Lines left first held_old held_new
    (ended_prints (laws g c) limit journal input opening first window least most old anew uncounted Lines lines servers
    given new before after held_old held_new 0 fed ended) in
    all_lines_written published left first held_old held_new
    (all_lines published left (c.published_law.ensures.messages limit journal input opening
    (unrefused (bytes_laws g c) limit journal opening input all.closed)))
    all

pub returns-clause-same_bytes : goal.returns-clause-same_bytes
returns-clause-same_bytes g c =
    λ lines servers given limit window journal bytes old new before after held_old held_new opening fits anew uncounted fed
    ended.
    let input = blocks_input bytes in
    same_bytes (bytes_laws g c) limit journal opening bytes fits
    (all_blocks (left_by journal input) held_old held_new
    (prints_all Blocks (left_by journal input) 1 held_old held_new
    (ended_prints (laws g c) limit journal input opening 1 window (omega arith) (omega arith) old anew uncounted Blocks
    lines servers given new before after held_old held_new 0 fed ended)))
    refl

pub returns-clause-marked : goal.returns-clause-marked
returns-clause-marked g c =
    λ lines servers given limit window journal bytes old new before after held_old held_new opening fits anew uncounted fed
    ended.
    let input = to_empty_input bytes in
    let left = left_by journal input in
    let all = prints_all BlocksToEmpty left 1 held_old held_new
    (ended_prints (laws g c) limit journal input opening 1 window (omega arith) (omega arith) old anew uncounted
    BlocksToEmpty lines servers given new before after held_old held_new 0 fed ended) in
    let has = c.published_law.ensures.messages limit journal input opening
    (unrefused (bytes_laws g c) limit journal opening input all.closed) in
    all_marked bytes left held_old held_new
    (c.blocks_to_empty_law.ensures.each left.messages bytes fits has.read).1
    (c.blocks_to_empty_law.ensures.spelled left.messages bytes fits has.read) all

pub returns-clause-stopped : goal.returns-clause-stopped
returns-clause-stopped g c =
    λ lines servers given limit first window journal input old new before after held_old held_new number opening least most
    anew uncounted fed stopped.
    stopped_prints (laws g c) limit journal input opening first window least most old anew uncounted BlocksToEmpty lines
    servers given new before after held_old held_new number fed stopped

pub returns-clause-broken : goal.returns-clause-broken
returns-clause-broken g c =
    λ lines servers format given limit first window journal input old before held_old held_new opening least most anew
    uncounted is fed.
    broken_prints (laws g c) limit journal input opening first window least most old anew uncounted format lines servers
    given before held_old held_new is fed
