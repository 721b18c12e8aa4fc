use Rattle.std.proofs.Common.{arith, get_or}
use Rattle.std.proofs.lemmas.List.{get_or_default}
use Rattle.mold_repair.specs.declared.step.RepairStep.TheVariants.{Pass}
use Rattle.mold_repair.proofs.RunLemmas.{can_next, repaired_next}
use Rattle.mold_repair.proofs.run.run.Goals as goal

pub loop-step-preserved : goal.loop-step-preserved
loop-step-preserved c =
    let i = c.loop-step.invariant in
    let steps = c.args.steps.now in
    let index = c.loop-step.step-index in
    let step = get_or steps index (Pass 0) in
    record {
      ran = repaired_next c.args.repairer.now c.loop-step.repairer c.apply-outcome.new.repairer steps index
          c.loop-step.outcomes.items c.push_reserved.new.self.items step c.apply-outcome.result c.loop-step-test.true
          (get_or_default steps index (Pass 0) step c.loop-step-test.true) i.ran
          (record {
            handed = c.apply-outcome.new.batch;
            stepped = c.apply-outcome.ensures.stepped;
            options = c.apply-outcome.ensures.options;
          }) c.push_reserved.ensures.items;
      count = omega (arith, c.push_reserved.ensures.len, i.count);
      room = omega (arith, c.push_reserved.ensures.capacity, i.room);
    }

pub apply-outcome-requires : goal.apply-outcome-requires
apply-outcome-requires c = can_next c.args.steps.now c.loop-step.step-index c.requires c.loop-step-test.true
