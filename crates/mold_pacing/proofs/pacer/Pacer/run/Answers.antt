use Rattle.std.proofs.Common.{◌∙◌, arith, get_or}
use Rattle.std.proofs.lemmas.List.{get_or_default}
use Rattle.mold_pacing.specs.declared.step.Step.TheVariants.{Advance}
use Rattle.mold_pacing.proofs.LawLemmas.{takes_options}
use Rattle.mold_pacing.proofs.RunLemmas.{can_next, run_next}
use Rattle.mold_pacing.proofs.pacer.Pacer.run.Goals as goal

pub loop-step-preserved : goal.loop-step-preserved
loop-step-preserved c =
    let i = c.loop-step.invariant in
    let steps = c.args.steps.now in
    let index = c.loop-step.step-index in
    let step = get_or steps index (Advance 0 0) in
    record {
      ran = run_next c.args.self.now c.loop-step.self c.apply-ask.new.self steps index c.loop-step.asks.items
          c.push_reserved.new.self.items step c.apply-ask.result c.loop-step-test.true
          (get_or_default steps index (Advance 0 0) step c.loop-step-test.true) i.ran c.apply-ask.ensures
          c.push_reserved.ensures.items;
      options = takes_options c.loop-step.self c.apply-ask.new.self step c.apply-ask.result c.apply-ask.ensures ∙ i.options;
      count = omega (arith, c.push_reserved.ensures.len, i.count);
      room = omega (arith, c.push_reserved.ensures.capacity, i.room);
    }

pub apply-ask-requires : goal.apply-ask-requires
apply-ask-requires c = can_next c.args.steps.now c.loop-step.step-index c.requires c.loop-step-test.true
