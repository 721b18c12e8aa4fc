use Rattle.mold_digest.proofs.OutcomeLemmas.{outcome_back, outcome_digested}
use Rattle.mold_digest.proofs.SaidLemmas.{consistent_digested, whole_digested}
use Rattle.mold_digest.proofs.laws.digested_outcome_law.Goals as goal

pub returns-clause-consistent : goal.returns-clause-consistent
returns-clause-consistent c = consistent_digested c.reading_law.ensures.read

pub returns-clause-whole : goal.returns-clause-whole
returns-clause-whole c = whole_digested c.reading_law.ensures.read

pub returns-clause-outcome : goal.returns-clause-outcome
returns-clause-outcome c = outcome_digested (record {
  reads = c.reading_law.ensures.read;
  spelled = c.reading_law.ensures.spelled;
  refused = c.reason_law.ensures.refused;
  received = c.whole_is_one_law.ensures.received;
  whole = c.whole_is_one_law.ensures.whole;
  same = c.ranges_walk_law.ensures.same;
})

pub returns-clause-found : goal.returns-clause-found
returns-clause-found c = outcome_back (record {
  reads = c.reading_law.ensures.read;
  spelled = c.reading_law.ensures.spelled;
  refused = c.reason_law.ensures.refused;
  received = c.whole_is_one_law.ensures.received;
  whole = c.whole_is_one_law.ensures.whole;
  same = c.ranges_walk_law.ensures.same;
}) c.outcome_law.ensures.some c.outcome_law.ensures.one
