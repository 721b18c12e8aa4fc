use Rattle.mold_rule.proofs.LongestLemmas.{longest_among, ranges_ascend, ranges_longest}
use Rattle.mold_rule.proofs.laws.ranges_law.Goals as goal

pub returns-clause-longest : goal.returns-clause-longest
returns-clause-longest c = ranges_longest

pub returns-clause-each : goal.returns-clause-each
returns-clause-each c = longest_among

pub returns-clause-ascending : goal.returns-clause-ascending
returns-clause-ascending c = ranges_ascend
