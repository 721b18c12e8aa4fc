-- The spans of time in the options of a receiver over ports.
use Rattle.std.specs.Prelude.{ℕ, ◌*◌, ◌==◌, if◌then◌else◌}
use Rattle.mold_receive.specs.declared.receive_options.TheConstants.{NEVER, SECOND}

-- The span of these seconds in nanoseconds. For 0 the span never ends.
abbrev pub span_of : ℕ → ℕ
span_of seconds = if seconds == 0 then NEVER else seconds * SECOND
