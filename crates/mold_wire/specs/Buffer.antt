-- How the fields of a packer represent the packet that it has begun.
use Rattle.std.specs.Prelude.{◌≡◌, ℕ, ◌+◌, ◌*◌, ◌≤◌, Bool, true, false, List, length, take, Result, Ok, Err}
use Rattle.std.specs.Box.{boxed_slice_items}
use Rattle.mold_wire.specs.Packet.{messages_of}
use Rattle.mold_wire.specs.Packer.{Begun, Nothing, Open, Ended, PackerState, IsLimit, SpellsBegun}
use Rattle.mold_wire.specs.Reading.{reading}
use Rattle.mold_wire.specs.declared.header.TheConstants.{HEADER_LENGTH}
use Rattle.mold_wire.specs.declared.packer.Packer.TheInside.{Inside}
use Rattle.mold_wire.specs.declared.packet.Packet.{Packet}
use Rattle.mold_wire.specs.declared.error.DecodeError.{DecodeError}

-- The fields of a packer, as the definitions see them.
pub record Fields : Type 0 where
  -- The whole buffer.
  pub items : List ℕ
  -- The length of the current packet in bytes.
  pub used : ℕ
  -- The number of messages of the open packet.
  pub count : ℕ
  -- Whether a packet is open, so that messages can be added.
  pub is_open : Bool

-- The fields of a packer: the bytes of its whole buffer, how many of them are used, the message count, and whether a
-- packet is open.
abbrev pub over : List ℕ → ℕ → ℕ → Bool → Fields
over items used count is_open = record { items = items; used = used; count = count; is_open = is_open }

-- The fields of the packer `p`, whose buffer is a boxed slice.
abbrev pub fields_of : Inside → Fields
fields_of p = record { items = boxed_slice_items p.buffer; used = p.used; count = p.count; is_open = p.is_open }

-- The packet that was begun, from the reading of the used bytes. If the bytes read as a fault, nothing was
-- begun.
abbrev pub begun_of : Bool → Result Packet DecodeError → Begun
begun_of true (Ok packet) = Open packet.session packet.sequence (messages_of packet.body)
begun_of false (Ok packet) = Ended packet.session packet.sequence
begun_of is_open (Err error) = Nothing

-- The packet that was begun, as the used bytes of the buffer encode it.
abbrev pub begun_in : Fields → Begun
begun_in fields = begun_of fields.is_open (reading (take fields.used fields.items))

-- The state of the packer that its users see. The limit is the length of the buffer.
abbrev pub state_of : Fields → PackerState
state_of fields = record { limit = length fields.items; begun = begun_in fields }

-- The fields `is_open` and `count` agree with the packet that was begun. If it is open, `count` is the number
-- of its messages.
abbrev pub IsTold : Bool → ℕ → Begun → Type 0
IsTold is_open count Nothing = is_open ≡ false
IsTold is_open count (Open session sequence messages) = (is_open ≡ true) × (count ≡ length messages)
IsTold is_open count (Ended session sequence) = is_open ≡ false

-- The used bytes of the buffer encode the packet that was begun, and the other fields agree with it.
pub record Holds (fields : Fields) (begun : Begun) : Type 0 where
  pub limit : IsLimit (length fields.items)
  pub within : fields.used ≤ length fields.items
  pub told : IsTold fields.is_open fields.count begun
  pub spelled : SpellsBegun begun (take fields.used fields.items)

-- A packer with this limit can have these values of `used`, `count` and `is_open`. The bytes of its buffer do not
-- matter.
pub record CanHold (limit used count : ℕ) (is_open : Bool) : Type 0 where
  pub is_limit : IsLimit limit
  pub within : used ≤ limit
  -- An open packet takes at least a header and the length fields of its blocks.
  pub laid : is_open ≡ true → HEADER_LENGTH + 2 * count ≤ used
