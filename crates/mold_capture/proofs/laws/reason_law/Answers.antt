use Rattle.mold_capture.proofs.SumLemmas.{none_consistent, front_consistent, read_or_refused, accepted, not_refused}
use Rattle.mold_capture.proofs.laws.reason_law.Goals as goal

pub returns-clause-none : goal.returns-clause-none
returns-clause-none c = none_consistent

pub returns-clause-front : goal.returns-clause-front
returns-clause-front c = front_consistent

pub returns-clause-accepted : goal.returns-clause-accepted
returns-clause-accepted c = λ list bytes consistent is_bytes none.
    let found = read_or_refused list bytes none in
    accepted c.reading_law.ensures.read (record {
      none = c.refusal_law.ensures.none;
      admitted = c.refusal_law.ensures.admitted;
      same = c.refusal_law.ensures.same;
    }) list bytes found.0 consistent
    (c.reading_law.ensures.spelled found.0 bytes is_bytes found.1) none

pub returns-clause-refused : goal.returns-clause-refused
returns-clause-refused c = not_refused c.reading_law.ensures.read (record {
  none = c.refusal_law.ensures.none;
  admitted = c.refusal_law.ensures.admitted;
  same = c.refusal_law.ensures.same;
})
