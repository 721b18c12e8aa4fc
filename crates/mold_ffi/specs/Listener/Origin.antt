-- The numbers by which a caller names lines and origins of datagrams.
use Rattle.std.specs.Prelude.{ℕ, ◌==◌, if◌then◌else◌, Option, None, Some}
use Rattle.mold_receiver.specs.declared.line.Line.{Line as TheLine}
use Rattle.mold_receiver.specs.declared.line.Line.TheVariants.{A, B}
use Rattle.mold_receiver.specs.declared.origin.Origin.{Origin}
use Rattle.mold_receiver.specs.declared.origin.Origin.TheVariants.{Line, Response}

-- The line with this number: 0 is A, and 1 is B. No other number names a line.
abbrev pub line_at : ℕ → Option TheLine
line_at number = if number == 0 then Some A else if number == 1 then Some B else None

-- The origin with this number: 0 is line A, 1 is line B, and 2 is a response. No other number names an origin.
abbrev pub origin_at : ℕ → Option Origin
origin_at number = if number == 0 then Some (Line A) else if number == 1 then Some (Line B)
    else if number == 2 then Some Response else None
