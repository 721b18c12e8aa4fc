use Rattle.std.proofs.Common.{◌≡◌, map, take}
use Rattle.mold_world.specs.World.{subscriber_at}
use Rattle.mold_world.proofs.beginning.make_subscribers.Given as goal

-- There is a receiver for each window so far.
abbrev pub invariant-loop-window : goal.invariant-loop-window
invariant-loop-window l = l.subscribers.items ≡ map (subscriber_at l.session) (take l.window-index l.windows)
