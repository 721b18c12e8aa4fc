use Rattle.mold_wire.proofs.TruthLemmas.{true_closes, true_grows, published_at-longer}
use Rattle.mold_wire.proofs.laws.true_stays_law.Goals as goal

pub returns-clause-published : goal.returns-clause-published
returns-clause-published c packet published message few is = true_grows packet published message few is

pub returns-clause-closed : goal.returns-clause-closed
returns-clause-closed c packet published is = true_closes packet published is

pub returns-clause-message : goal.returns-clause-message
returns-clause-message c published behind number message is = published_at-longer published behind number message is
