-- When a publisher sends heartbeats.
use Rattle.std.specs.Prelude.{ℕ, zero, suc, ◌+◌, ◌*◌}
use Rattle.mold_feeder.specs.declared.idle_clock.TheConstants.{MILLISECOND, NEVER}

-- The time at which the next heartbeat is due: `idle` milliseconds after the last datagram. With 0, none is ever due.
abbrev pub due_after : ℕ → ℕ → ℕ
due_after zero last = NEVER
due_after (suc idle) last = last + suc idle * MILLISECOND
