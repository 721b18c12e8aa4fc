use Rattle.std.proofs.Common.{◌≡◌, map, take}
use Rattle.mold_world.specs.Effect.{run_events}
use Rattle.mold_world.specs.Event.{seen}
use Rattle.mold_world.proofs.world.World.run.Given as goal

-- The events so far were applied.
abbrev pub invariant-loop-at : goal.invariant-loop-at
invariant-loop-at l = l.self ≡ run_events l.fn.self (take l.at (map seen l.events))
