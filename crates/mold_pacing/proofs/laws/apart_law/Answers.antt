use Rattle.mold_pacing.proofs.LawLemmas.{apart}
use Rattle.mold_pacing.proofs.laws.apart_law.Goals as goal

pub returns : goal.returns
returns c = apart
