use Rattle.mold_feed.proofs.ServedLemmas.{ServingLaws, run_tells}
use Rattle.mold_feed.proofs.laws.served_law.Given.{Over}
use Rattle.mold_feed.proofs.laws.served_law.Goals.{After-sending_law}
use Rattle.mold_feed.proofs.laws.served_law.Goals as goal

laws : (g : Over) → After-sending_law g → ServingLaws
laws g c = record {
  answerable = c.answered_law.ensures.answerable;
  plan = c.answered_law.ensures.plan;
  within = c.answered_law.ensures.within;
  answer_is = c.answered_law.ensures.answer;
  told = c.sending_law.ensures.planned;
}

pub returns : goal.returns
returns g c = λ service choices start may so. run_tells (laws g c) service may choices start so
