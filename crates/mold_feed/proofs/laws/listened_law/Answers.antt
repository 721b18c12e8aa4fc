use Rattle.mold_feed.proofs.TakingLemmas.{HearingLaws}
use Rattle.mold_feed.proofs.ReceivedTurnLemmas.{run_finished, run_listened, run_plain}
use Rattle.mold_feed.proofs.laws.listened_law.Given.{Over}
use Rattle.mold_feed.proofs.laws.listened_law.Goals.{After-reading_law}
use Rattle.mold_feed.proofs.laws.listened_law.Goals as goal

laws : (g : Over) → After-reading_law g → HearingLaws
laws g c = record {
  take = c.honest_take_law.ensures;
  taken = c.taken_law.ensures;
  spelled = c.reading_law.ensures.spelled;
  fault = c.reading_law.ensures.fault;
}

pub returns-clause-received : goal.returns-clause-received
returns-clause-received g c = run_listened (laws g c)

pub returns-clause-plain : goal.returns-clause-plain
returns-clause-plain g c = run_plain (laws g c)

pub returns-clause-finished : goal.returns-clause-finished
returns-clause-finished g c = run_finished (laws g c)
