use Rattle.mold_pacing.proofs.AttemptsLemmas.{attempts_counted}
use Rattle.mold_pacing.proofs.laws.attempts_law.Goals as goal

pub returns : goal.returns
returns c = attempts_counted
