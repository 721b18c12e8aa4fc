-- The first packet of a session.
use Rattle.std.specs.Prelude.{◌≡◌, ℕ, ◌&&◌, Bool, true, false, not, is_some, List, [], ◌∷◌, ◌++◌, Option, None, Some}
use Rattle.std.specs.Prelude.{Result, Ok, Err, IfSome}
use Rattle.std.specs.Option.{option_map}
use Rattle.mold_port_set.specs.PortSet.{Given, PortSetState}
use Rattle.mold_receive.specs.Receiving.{datagram_of_first}
use Rattle.mold_receive.specs.declared.came.Came.{Came}
use Rattle.mold_receive.specs.declared.came.Came.TheVariants.{Nothing, Other, First}
use Rattle.mold_receive.specs.declared.first_packet.FirstPacket.{FirstPacket}
use Rattle.mold_repair.specs.declared.origin.RepairOrigin.{RepairOrigin}
use Rattle.mold_rule.specs.Refusals.{refusal_of}
use Rattle.mold_wire.specs.Reading.{reading}
use Rattle.mold_wire.specs.declared.error.DecodeError.{DecodeError}
use Rattle.mold_wire.specs.declared.packet.Body.{Body}
use Rattle.mold_wire.specs.declared.packet.Body.TheVariants.{Data, Heartbeat, End}
use Rattle.mold_wire.specs.declared.packet.Packet.{Packet}
use Rattle.mold_wire.specs.declared.session.Session.{Session}

-- Whether this is the body of an end packet.
abbrev pub is_end : Body → Bool
is_end (Data messages) = false
is_end Heartbeat = false
is_end End = true

-- Whether the packet opens the session: it is a data packet or a heartbeat, and its header is not refused. `session` is
-- the session, if it is known.
abbrev pub opens : Option (List ℕ) → Packet → Bool
opens session packet = not (is_end packet.body) && not (is_some (refusal_of session 0 None None packet))

-- Whether what was read is a packet that opens the session.
abbrev pub is_opener : Option (List ℕ) → Result Packet DecodeError → Bool
is_opener session (Ok packet) = opens session packet
is_opener session (Err fault) = false

-- Whether the bytes encode a packet that opens the session.
abbrev pub opens_with : Option Session → List ℕ → Bool
opens_with session bytes = is_opener (option_map (λ s. s.0) session) (reading bytes)

-- None of the datagrams encodes a packet that opens the session.
abbrev pub NoneOpens : Option Session → List Given → Type 0
NoneOpens session [] = Unit {0}
NoneOpens session (datagram ∷ datagrams) =
    (opens_with session datagram.bytes ≡ false) × NoneOpens session datagrams

-- The bytes encode a packet that opens the session. It is of the session `name`, and its sequence number is `number`.
pub record IsOpening (session : Option Session) (bytes : List ℕ) (name : Session) (number : ℕ) : Type 0 where
  pub packet : Packet
  pub read : reading bytes ≡ Ok packet
  pub opens : opens_with session bytes ≡ true
  pub named : packet.session ≡ name
  pub numbered : packet.sequence ≡ number

-- The first packet is that of its datagram, and opens the session.
abbrev pub IsFirst : Option Session → FirstPacket → Type 0
IsFirst session first = IsOpening session first.datagram.items first.session first.sequence

-- What a receive of a waiting receiver gave: nothing, these bytes, which do not open the session, or the first packet.
abbrev pub HasLooked : Option Session → RepairOrigin → List ℕ → Came → Type 0
HasLooked session origin bytes Nothing = ⊥
HasLooked session origin bytes Other = opens_with session bytes ≡ false
HasLooked session origin bytes (First first) =
    IsFirst session first × (first.origin ≡ origin) × (first.datagram.items ≡ bytes)

-- The first packet of what a receive gave, if it gave one.
abbrev pub first_in : Came → Option FirstPacket
first_in Nothing = None
first_in Other = None
first_in (First first) = Some first

-- A wait for a session ended. The ports gave some datagrams that do not open the session, and then the first packet, if
-- one arrived. Nothing was sent. What ports give is stated only if it is known, which it is for ports in memory.
pub record HasAwaited {P : Type 0} (lines : ℕ) (session : Option Session) (modeled : Bool) (old new : PortSetState P)
    (first : Option FirstPacket) : Type 0 where
  pub passed : List Given
  pub foreign : NoneOpens session passed
  pub given : modeled ≡ true → new.given ≡ old.given ++ (passed ++ datagram_of_first lines first)
  pub sent : modeled ≡ true → new.sent ≡ old.sent
  pub is : IfSome first (IsFirst session)
