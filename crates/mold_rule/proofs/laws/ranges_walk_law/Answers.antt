use Rattle.mold_rule.proofs.RangeLemmas.{ranges_none, ranges_run, ranges_same, ranges_skip}
use Rattle.mold_rule.proofs.laws.ranges_walk_law.Goals as goal

pub returns-clause-none : goal.returns-clause-none
returns-clause-none c = ranges_none

pub returns-clause-skip : goal.returns-clause-skip
returns-clause-skip c = ranges_skip

pub returns-clause-run : goal.returns-clause-run
returns-clause-run c = ranges_run

pub returns-clause-same : goal.returns-clause-same
returns-clause-same c = ranges_same
