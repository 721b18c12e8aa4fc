use Rattle.mold_capture.proofs.OutcomeLemmas.{some_outcome, one_outcome}
use Rattle.mold_capture.proofs.laws.outcome_law.Goals as goal

pub returns-clause-some : goal.returns-clause-some
returns-clause-some c = some_outcome c.reading_law.ensures.read (record {
  none = c.refusal_law.ensures.none;
  admitted = c.refusal_law.ensures.admitted;
  same = c.refusal_law.ensures.same;
}) c.reading_law.ensures.spelled

pub returns-clause-one : goal.returns-clause-one
returns-clause-one c = one_outcome c.reading_law.ensures.read
