use Rattle.mold_input.specs.declared.message_format.MessageFormat.TheVariants.{Blocks, BlocksToEmpty}
use Rattle.mold_feed.specs.Received.{CanReceive}
use Rattle.mold_feed.proofs.BlocksPrintedLemmas.{prints_blocks_among}
use Rattle.mold_feed.proofs.OpeningLemmas.{OpeningLaws, left_by}
use Rattle.mold_feed.proofs.SessionLawLemmas.{FeedLaws, session_prints_among, session_prints_messages}
use Rattle.mold_feed.proofs.ToEmptyLemmas.{prints_to_empty_among}
use Rattle.mold_feed.proofs.laws.session_law.Given.{Over}
use Rattle.mold_feed.proofs.laws.session_law.Goals.{After-honest_stays_law}
use Rattle.mold_feed.proofs.laws.session_law.Goals as goal
use Rattle.mold_listen.specs.Listening.{beginning}

opening_laws : (g : Over) → After-honest_stays_law g → OpeningLaws
opening_laws g c = record {
  answers = c.published_law.ensures.answers;
  begins = c.honest_stays_law.ensures.fresh;
}

laws : (g : Over) → After-honest_stays_law g → FeedLaws g.row.D-Peer.Denot
laws g c = record {
  opening = opening_laws g c;
  sent = record { published = c.published_law.ensures.sent; served = c.served_law.ensures };
  received = c.listened_law.ensures.received;
  plain = c.listened_law.ensures.plain;
  finished = c.listened_law.ensures.finished;
}

pub returns-clause-printed : goal.returns-clause-printed
returns-clause-printed g c =
    λ format reporting limit first window turns burst journal input server a b requests arbitration a_left b_left
    requests_left left result old new sent opening least within anew hears ran.
    session_prints_messages (laws g c) limit journal input opening first window least within arbitration anew format
    reporting burst turns server a b requests _ result old new sent ran hears

pub returns-clause-among : goal.returns-clause-among
returns-clause-among g c =
    λ format reporting limit first window turns burst journal input server a b requests arbitration a_left b_left
    requests_left left result old new sent opening least within anew hears ran.
    session_prints_among (laws g c) limit journal input opening first window least within arbitration anew format
    reporting burst turns server a b requests _ result old new sent ran hears

pub returns-clause-blocks : goal.returns-clause-blocks
returns-clause-blocks g c =
    λ reporting limit first window turns burst journal input server a b requests arbitration a_left b_left requests_left
    left result old new sent opening least within anew hears ran.
    prints_blocks_among (CanReceive (beginning Blocks a b requests arbitration)) (left_by journal input)
    (session_prints_among (laws g c) limit journal input opening first window least within arbitration anew Blocks
    reporting burst turns server a b requests _ result old new sent ran hears)

pub returns-clause-to_empty : goal.returns-clause-to_empty
returns-clause-to_empty g c =
    λ reporting limit first window turns burst journal input server a b requests arbitration a_left b_left requests_left
    left result old new sent opening least within anew hears ran.
    prints_to_empty_among (CanReceive (beginning BlocksToEmpty a b requests arbitration)) (left_by journal input)
    (session_prints_among (laws g c) limit journal input opening first window least within arbitration anew
    BlocksToEmpty reporting burst turns server a b requests _ result old new sent ran hears)
