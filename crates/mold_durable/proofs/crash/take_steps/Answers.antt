use Rattle.mold_durable.specs.Crash.{IsLaterFile}
use Rattle.mold_durable.proofs.MomentLemmas.{joined}
use Rattle.mold_durable.proofs.crash.take_steps.Goals as goal

pub loop-step-preserved : goal.loop-step-preserved
loop-step-preserved g c = record {
  live = λ session messages live.
      c.take_step.ensures.live session messages (c.loop-step.invariant.live session messages live);
  any_moment = λ session messages live.
      joined g.S.Storage.moment g.S.Storage.left_since c.args.journal.now.storage c.loop-step.journal.storage
      c.take_step.new.journal.storage (IsLaterFile session messages)
      (c.loop-step.invariant.any_moment session messages live)
      (c.take_step.ensures.any_moment session messages (c.loop-step.invariant.live session messages live));
}
