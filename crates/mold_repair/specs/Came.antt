-- The numbers that a datagram brought, and what the pacer learns of them.
use Rattle.std.specs.Prelude.{ℕ, ◌+◌, List, [], ◌∷◌, ◌++◌, find, length, min, nat_lt, if◌then◌else◌}
use Rattle.std.specs.Prelude.{Option, None, Some, Result, Ok, Err}
use Rattle.mold_pacing.specs.Flight.{covers}
use Rattle.mold_pacing.specs.declared.flight.Flight.{Flight}
use Rattle.mold_pacing.specs.declared.gap.Gap.{Gap}
use Rattle.mold_pacing.specs.declared.step.Step.{Step}
use Rattle.mold_pacing.specs.declared.step.Step.TheVariants.{Arrive, Respond}
use Rattle.mold_receiver.specs.Skip.{skipped_run}
use Rattle.mold_receiver.specs.View.{View}
use Rattle.mold_repair.specs.declared.origin.RepairOrigin.{RepairOrigin}
use Rattle.mold_repair.specs.declared.origin.RepairOrigin.TheVariants.{Line, Server}
use Rattle.mold_wire.specs.Packet.{top_of}
use Rattle.mold_wire.specs.Reading.{reading}
use Rattle.mold_wire.specs.declared.error.DecodeError.{DecodeError}
use Rattle.mold_wire.specs.declared.limits.TheConstants.{MAX_NUMBER}
use Rattle.mold_wire.specs.declared.packet.Packet.{Packet}

-- The range of numbers from `first` to `end - 1`.
abbrev pub range : ℕ → ℕ → Gap
range first end = record { first = first; end = end }

-- The numbers of the packet's messages. There are none if nothing was decoded.
abbrev pub numbers : Result Packet DecodeError → Gap
numbers (Ok packet) = range packet.sequence (min (top_of packet) MAX_NUMBER)
numbers (Err error) = range 0 0

-- Those that are below `limit`.
abbrev pub came_below : ℕ → Result Packet DecodeError → Gap
came_below limit read = range (numbers read).first (min (numbers read).end limit)

-- The first number at or above `from` that the view misses, or one more than the greatest known number.
abbrev pub held_end : View → ℕ → ℕ
held_end v from = if nat_lt from v.next then v.next else from + length (skipped_run v from)

-- The numbers from `from` on, up to the first one that the view misses.
abbrev pub held_from : View → ℕ → Gap
held_from v from = range from (held_end v from)

-- What the pacer learns of numbers that arrived as a server's response. On a line there is no response.
abbrev pub response_steps : RepairOrigin → Gap → List Step
response_steps (Line line) came = []
response_steps (Server server) came = Respond server came ∷ []

-- What the pacer learns of the request for the datagram's first number: the numbers that have arrived, from the
-- request's first one on. If other datagrams brought the rest, this is the whole request.
abbrev pub filled_steps : View → Option Flight → List Step
filled_steps v None = []
filled_steps v (Some request) = Arrive (held_from v request.first) ∷ []

-- What the pacer learns of a datagram that was accepted, if it has messages in the window: the response, and the
-- numbers that have arrived, both from the datagram's first number on and from the first number of the request for it.
-- `v` is the view after the datagram, and `request` the one that was in flight for its first number.
abbrev pub came_steps : RepairOrigin → Gap → View → Option Flight → List Step
came_steps origin came v request =
    if nat_lt came.first came.end
    then response_steps origin came ++ (Arrive (held_from v came.first) ∷ filled_steps v request)
    else []

-- The same for a datagram with these numbers, which arrived at the time `now`. `flights` are the requests before it.
abbrev pub noted_from : RepairOrigin → Gap → View → ℕ → List Flight → List Step
noted_from origin came v now flights = came_steps origin came v (find (covers now came.first) flights)

-- The same for a datagram's bytes.
abbrev pub noted : RepairOrigin → List ℕ → View → ℕ → List Flight → List Step
noted origin bytes v now flights = noted_from origin (came_below (v.next + v.window) (reading bytes)) v now flights
