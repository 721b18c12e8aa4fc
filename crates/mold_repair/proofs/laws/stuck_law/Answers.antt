use Rattle.mold_repair.proofs.ReadyLemmas.{asks_then, ready_then}
use Rattle.mold_repair.proofs.laws.stuck_law.Goals as goal

pub returns-clause-ready : goal.returns-clause-ready
returns-clause-ready c = ready_then

pub returns-clause-asks : goal.returns-clause-asks
returns-clause-asks c = asks_then
