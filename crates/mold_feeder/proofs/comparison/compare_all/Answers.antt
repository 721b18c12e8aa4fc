use Rattle.std.proofs.Common.{arith, ◌∙◌}
use Rattle.mold_feeder.proofs.ComparisonLemmas.{compared_more}
use Rattle.mold_feeder.proofs.comparison.compare_all.Goals as goal

pub loop-at-preserved : goal.loop-at-preserved
loop-at-preserved g c = record {
  has = λ has. rw c.in-Same.is at (c.in_ok-stopped.ensures.messages (c.loop-at.invariant.has has));
  same = λ has.
      compared_more c.args.publisher.now.publisher.journal c.args.number c.loop-at.at _ _ _ c.loop-at.invariant.some
      (c.loop-at.invariant.same has)
      (rw c.in-Same.is at (c.in_ok-stopped.ensures.compared (c.loop-at.invariant.has has)));
  some = omega (arith, c.loop-at.invariant.some);
  within = omega (
    arith,
    c.loop-at-test.true,
    c.count.ensures.value,
  );
  failed = c.in_ok-stopped.ensures.failures.0 ∙ c.loop-at.invariant.failed;
  file = c.in_ok-stopped.ensures.failures.1 ∙ c.loop-at.invariant.file;
}
