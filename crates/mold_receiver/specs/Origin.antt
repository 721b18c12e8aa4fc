-- The origin of a datagram as the receiving rule sees it.
use Rattle.std.specs.Prelude.{Option, None, Some}
use Rattle.mold_receiver.specs.declared.line.Line.{Line as TheLine}
use Rattle.mold_receiver.specs.declared.origin.Origin.{Origin}
use Rattle.mold_receiver.specs.declared.origin.Origin.TheVariants.{Line, Response}

-- The line that a datagram came on, or none if it is a server's response.
abbrev pub line_of : Origin → Option TheLine
line_of (Line line) = Some line
line_of Response = None
