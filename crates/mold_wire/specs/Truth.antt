-- The truth of a packet: it agrees with the messages that its session has published.
use Rattle.std.specs.Prelude.{◌≡◌, ℕ, ◌+◌, ◌-◌, ◌<◌, ◌≤◌, List, length, Option, Some, None, Bool, true, nat_le}
use Rattle.std.specs.Prelude.{if◌then◌else◌}
use Rattle.std.specs.List.{slice_get}
use Rattle.mold_wire.specs.Packet.{Spells, messages_of}
use Rattle.mold_wire.specs.declared.limits.TheConstants.{MAX_NUMBER}
use Rattle.mold_wire.specs.declared.packet.Packet.{Packet}
use Rattle.mold_wire.specs.declared.session.Session.{Session}
use Rattle.mold_wire.specs.declared.packet.Body.{Body}
use Rattle.mold_wire.specs.declared.packet.Body.TheVariants.{Data, Heartbeat, End}

-- The message with this number, if the first message of the list has the number `first`. The numbers are
-- consecutive.
abbrev pub message_at : ℕ → List (List ℕ) → ℕ → Option (List ℕ)
message_at first messages number = if nat_le first number then slice_get messages (number - first) else None

-- The packet carries `message` with this sequence number. The packet's first message has the packet's
-- sequence number, and the others have the following numbers, as the standard says.
abbrev pub Carries : Packet → ℕ → List ℕ → Type 0
Carries packet number message = message_at packet.sequence (messages_of packet.body) number ≡ Some message

-- The message that was published with this sequence number. The first message of a session has number 1.
abbrev pub published_at : List (List ℕ) → ℕ → Option (List ℕ)
published_at published number = message_at 1 published number

-- A body with this sequence number is true of a session. A data packet has a number of at least 1, and its
-- messages are those published with their numbers. A heartbeat's number is at least 1 and at most the next
-- one to publish. For an end packet, the session is closed, and the number is one more than that of the last
-- message. This number of an end packet is a choice of this project.
abbrev pub IsTrueBody : Body → ℕ → List (List ℕ) → Bool → Type 0
IsTrueBody (Data messages) sequence published closed =
    (1 ≤ sequence) × ((number : ℕ) (message : List ℕ) → message_at sequence messages number ≡ Some message →
    published_at published number ≡ Some message)
IsTrueBody Heartbeat sequence published closed = (1 ≤ sequence) × (sequence ≤ length published + 1)
IsTrueBody End sequence published closed = (closed ≡ true) × (sequence ≡ length published + 1)

-- The packet is true: it agrees with a session that has published these messages, and `closed` states whether that
-- session is closed. Each message was published with its number, a heartbeat has at most the next number, and an end
-- packet has exactly the next number of a closed session.
pub record IsTruePacket (packet : Packet) (published : List (List ℕ)) (closed : Bool) : Type 0 where
  -- The session has published fewer messages than `MAX_NUMBER`, so the next number fits in 64 bits.
  pub few : length published < MAX_NUMBER
  pub said : IsTrueBody packet.body packet.sequence published closed

-- The bytes do not encode a packet of the session.
abbrev pub AreForeign : Session → List ℕ → Type 0
AreForeign session bytes = (packet : Packet) → Spells packet bytes → packet.session ≡ session → ⊥
