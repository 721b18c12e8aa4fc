use Rattle.mold_pacing.proofs.PatienceLemmas.{advanced_ripened, fresh_ripened}
use Rattle.mold_pacing.proofs.laws.patience_law.Goals as goal

pub returns-clause-begins : goal.returns-clause-begins
returns-clause-begins c = fresh_ripened

pub returns-clause-stays : goal.returns-clause-stays
returns-clause-stays c = advanced_ripened
