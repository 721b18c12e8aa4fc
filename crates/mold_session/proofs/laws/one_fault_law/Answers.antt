use Rattle.mold_session.proofs.OneFaultLemmas.{one_fault}
use Rattle.mold_session.proofs.laws.one_fault_law.Goals as goal

pub returns : goal.returns
returns c = one_fault
