use Rattle.mold_receiver.proofs.HavingLemmas.{has_come, has_received, has_skipped}
use Rattle.mold_receiver.proofs.laws.having_law.Goals as goal

pub returns-clause-came : goal.returns-clause-came
returns-clause-came c = has_come

pub returns-clause-received : goal.returns-clause-received
returns-clause-received c = has_received

pub returns-clause-skipped : goal.returns-clause-skipped
returns-clause-skipped c = has_skipped
