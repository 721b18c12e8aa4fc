use Rattle.mold_rule.proofs.RefusalLemmas.{none_admitted, none_differs, none_refused}
use Rattle.mold_rule.proofs.laws.refusal_law.Goals as goal

pub returns-clause-none : goal.returns-clause-none
returns-clause-none c = none_refused

pub returns-clause-admitted : goal.returns-clause-admitted
returns-clause-admitted c = none_admitted

pub returns-clause-same : goal.returns-clause-same
returns-clause-same c = none_differs
