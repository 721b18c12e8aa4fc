use Rattle.mold_pacing.proofs.ReadyLemmas.{ready_first, ready_idle}
use Rattle.mold_pacing.proofs.laws.ready_law.Goals as goal

pub returns-clause-asks : goal.returns-clause-asks
returns-clause-asks c = ready_first

pub returns-clause-idle : goal.returns-clause-idle
returns-clause-idle c = ready_idle
