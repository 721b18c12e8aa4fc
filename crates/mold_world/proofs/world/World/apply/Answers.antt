use Rattle.std.proofs.Common.{arith}
use Rattle.mold_world.proofs.ApplyLemmas.{applied_done, applied_received, applied_kept, applied_refused, applied_same, applied_steps}
use Rattle.mold_world.specs.Inside.{world_of}
use Rattle.mold_world.specs.Event.{seen}
use Rattle.mold_world.proofs.world.World.apply.Goals as goal

pub invariant_of-self : goal.invariant_of-self
invariant_of-self c = record {
  world =
      applied_kept c.run_law.ensures.kept (world_of c.self.inside.parts) (world_of c.change.new.self)
      (seen c.args.event.now) c.change.result c.self.invariant.world c.change.ensures.applied;
  serves =
      let serves = c.self.invariant.serves in
      let journal = c.change.ensures.serves.0 in
      let server = c.change.ensures.serves.1 in
      omega (arith, serves, journal, server);
}

pub returns-clause-done : goal.returns-clause-done
returns-clause-done c =
    rw (← c.self.view_is)
    (applied_done (world_of c.self.inside.parts) (world_of c.change.new.self) (seen c.args.event.now) c.change.result
    c.change.ensures.applied)

pub returns-clause-refused : goal.returns-clause-refused
returns-clause-refused c =
    rw (← c.self.view_is)
    (applied_refused (world_of c.self.inside.parts) (world_of c.change.new.self) (seen c.args.event.now)
    c.change.result c.change.ensures.applied)

pub returns-clause-same : goal.returns-clause-same
returns-clause-same c =
    rw (← c.self.view_is)
    (applied_same (world_of c.self.inside.parts) (world_of c.change.new.self) (seen c.args.event.now) c.change.result
    c.change.ensures.applied)

pub returns-clause-received : goal.returns-clause-received
returns-clause-received c =
    rw (← c.self.view_is)
    (applied_received c.delivery_law.ensures.received (world_of c.self.inside.parts) (world_of c.change.new.self)
    (seen c.args.event.now) c.change.result c.self.invariant.world c.change.ensures.applied)

pub returns-clause-step : goal.returns-clause-step
returns-clause-step c =
    rw (← c.self.view_is)
    (applied_steps c.run_law.ensures.steps (world_of c.self.inside.parts) (world_of c.change.new.self)
    (seen c.args.event.now) c.change.result c.self.invariant.world c.change.ensures.applied)
