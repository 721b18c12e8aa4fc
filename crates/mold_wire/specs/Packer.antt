-- The model of a packer: its limit and the packet that it has begun.
use Rattle.std.specs.Prelude.{◌≡◌, ℕ, ◌+◌, ◌≤◌, List, [], ◌∷◌, ◌++◌}
use Rattle.mold_wire.specs.Packet.{Spells}
use Rattle.mold_wire.specs.Packing.{packet_length, Fits}
use Rattle.mold_wire.specs.declared.limits.TheConstants.{MAX_LIMIT, MIN_LIMIT}
use Rattle.mold_wire.specs.declared.session.Session.{Session}
use Rattle.mold_wire.specs.declared.packet.Packet.{Packet}
use Rattle.mold_wire.specs.declared.packet.Body.{Body}
use Rattle.mold_wire.specs.declared.packet.Body.TheVariants.{Data, Heartbeat, End}

-- What a packer has begun: nothing yet, an open packet with its messages so far, or an end packet.
pub data Begun : Type 0 where
  Nothing : Begun
  Open : (session : Session) (sequence : ℕ) (messages : List (List ℕ)) → Begun
  Ended : (session : Session) (sequence : ℕ) → Begun

-- The state of a packer, as its users see it.
pub record PackerState : Type 0 where
  -- The greatest length of a datagram, in bytes.
  pub limit : ℕ
  -- The packet that was begun last.
  pub begun : Begun

-- The number is a valid datagram limit in bytes.
abbrev pub IsLimit : ℕ → Type 0
IsLimit limit = (MIN_LIMIT ≤ limit) × (limit ≤ MAX_LIMIT)

-- The body of an open packet with these messages. It is a heartbeat if there are none.
abbrev pub body_with : List (List ℕ) → Body
body_with [] = Heartbeat
body_with (message ∷ messages) = Data (message ∷ messages)

-- The packet that `start` opens and `add` extends.
abbrev pub open_packet : Session → ℕ → List (List ℕ) → Packet
open_packet session sequence messages = record { session = session; sequence = sequence; body = body_with messages }

-- The packet that `end` writes.
abbrev pub end_packet : Session → ℕ → Packet
end_packet session sequence = record { session = session; sequence = sequence; body = End }

-- The bytes are the encoding of the packet that was begun. If nothing was begun, there are no bytes.
abbrev pub SpellsBegun : Begun → List ℕ → Type 0
SpellsBegun Nothing bytes = bytes ≡ []
SpellsBegun (Open session sequence messages) bytes = Spells (open_packet session sequence messages) bytes
SpellsBegun (Ended session sequence) bytes = Spells (end_packet session sequence) bytes

-- The open packet with `message` appended. If no packet is open, nothing changes.
abbrev pub with_message : List ℕ → Begun → Begun
with_message message Nothing = Nothing
with_message message (Open session sequence messages) = Open session sequence (messages ++ message ∷ [])
with_message message (Ended session sequence) = Ended session sequence

-- A packet is open, and it stays within the limit if a message of `len` bytes is appended.
abbrev pub HasRoom : ℕ → Begun → ℕ → Type 0
HasRoom limit Nothing len = ⊥
HasRoom limit (Open session sequence messages) len = packet_length messages + (2 + len) ≤ limit
HasRoom limit (Ended session sequence) len = ⊥

-- If a packet is open, its messages fit the limit.
abbrev pub FitsBegun : ℕ → Begun → Type 0
FitsBegun limit Nothing = Unit {0}
FitsBegun limit (Open session sequence messages) = Fits limit messages
FitsBegun limit (Ended session sequence) = Unit {0}
