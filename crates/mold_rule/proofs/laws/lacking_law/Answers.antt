use Rattle.mold_rule.proofs.LackingLemmas.{all_lacking, lacking_parts, lacking_same, none_lacking}
use Rattle.mold_rule.proofs.laws.lacking_law.Goals as goal

pub returns-clause-parts : goal.returns-clause-parts
returns-clause-parts c = lacking_parts

pub returns-clause-all : goal.returns-clause-all
returns-clause-all c = all_lacking

pub returns-clause-none : goal.returns-clause-none
returns-clause-none c = none_lacking

pub returns-clause-same : goal.returns-clause-same
returns-clause-same c = lacking_same
