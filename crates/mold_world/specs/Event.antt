-- The events of a world, with their bytes as lists.
use Rattle.std.specs.Prelude.{ℕ, List, Option, None, Some}
use Rattle.std.specs.Borrow.{Bor}
use Rattle.mold_receiver.specs.declared.line.Line.{Line as ReceiverLine}
use Rattle.mold_world.specs.declared.event.EventOf.{EventOf}
use Rattle.mold_world.specs.declared.event.EventOf.TheVariants.{Publish, Datagram, Heartbeat, Close, End}
use Rattle.mold_world.specs.declared.event.EventOf.TheVariants.{Request, Ask, Deliver, Noise, Restart}
use Rattle.mold_world.specs.declared.way.Way.{Way}
use Rattle.mold_world.specs.declared.way.Way.TheVariants.{Answer, Line}

-- The model of an event. If the event has bytes, the model has them as a list.
abbrev pub Happening : Type 0
Happening = EventOf (List ℕ)

-- The model of an event of the program. The program's event borrows its bytes.
abbrev pub seen : EventOf (Bor (List ℕ)) → Happening
seen (Publish message) = Publish message.now
seen Datagram = Datagram
seen Heartbeat = Heartbeat
seen Close = Close
seen End = End
seen (Request bytes) = Request bytes.now
seen (Ask receiver) = Ask receiver
seen (Deliver receiver way sent) = Deliver receiver way sent
seen (Noise receiver way bytes) = Noise receiver way bytes.now
seen (Restart receiver next) = Restart receiver next

-- The line that a datagram comes on, or none for a re-request server's response.
abbrev pub line_of : Way → Option ReceiverLine
line_of (Line line) = Some line
line_of Answer = None
