use Rattle.mold_pacing.proofs.LawLemmas.{limited}
use Rattle.mold_pacing.proofs.laws.limit_law.Goals as goal

pub returns : goal.returns
returns c = limited
