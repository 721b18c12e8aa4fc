use Rattle.mold_repair.proofs.LawLemmas.{has_numbers, in_order}
use Rattle.mold_repair.proofs.laws.order_law.Goals as goal

pub returns-clause-order : goal.returns-clause-order
returns-clause-order c = in_order c.taken_law.ensures

pub returns-clause-messages : goal.returns-clause-messages
returns-clause-messages c = has_numbers c.taken_law.ensures
