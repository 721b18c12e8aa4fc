-- Whether the datagram that a check refuses has another destination than those before it.
use Rattle.std.specs.Prelude.{ℕ, ◌==◌, ◌&&◌, not, Bool, true, false, List, Option, None, Some}
use Rattle.std.specs.Str.{bytes_eq}
use Rattle.mold_frame.specs.Carried.{Datagram}

-- Where a datagram goes: an address and a port.
pub record Destination : Type 0 where
  pub address : List ℕ
  pub port : ℕ

-- Where the datagram goes.
abbrev pub destination_of : Datagram → Destination
destination_of datagram = record { address = datagram.target; port = datagram.target_port }

-- Whether the addresses or the ports differ.
abbrev pub differ : Destination → Destination → Bool
differ first other = not (bytes_eq first.address other.address && first.port == other.port)

-- What is kept of the destinations: that of the first accepted datagram, and whether the refused one has another.
pub record TargetState : Type 0 where
  pub first : Option Destination
  pub other : Bool

-- Before the first datagram.
abbrev pub no_targets : TargetState
no_targets = record { first = None; other = false }

-- The destination of the first datagram, if there was one before this one.
abbrev pub first_or : Option Destination → Destination → Destination
first_or None destination = destination
first_or (Some first) destination = first

-- Whether this destination is another than the first one. Without a first one it is not.
abbrev pub differs : Option Destination → Destination → Bool
differs None destination = false
differs (Some first) destination = differ first destination

-- After an accepted datagram.
abbrev pub accepted : TargetState → Destination → TargetState
accepted s destination = record { first = Some (first_or s.first destination); other = s.other }

-- After the refused datagram.
abbrev pub refused : TargetState → Destination → TargetState
refused s destination = record { first = s.first; other = differs s.first destination }

-- After one more datagram, given whether the judge had decided before and after it. Only a refusal decides. After it no
-- datagram counts.
abbrev pub aimed : TargetState → Bool → Bool → Destination → TargetState
aimed s true after destination = s
aimed s false false destination = accepted s destination
aimed s false true destination = refused s destination
