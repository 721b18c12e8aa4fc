use Rattle.mold_pacing.proofs.FrugalRunLemmas.{frugal}
use Rattle.mold_pacing.proofs.laws.frugal_law.Goals as goal

pub returns : goal.returns
returns c = frugal
