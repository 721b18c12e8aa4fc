-- The slots of the store. Slot i has the number of the first slot plus i.
use Rattle.std.specs.Prelude.{◌≡◌, ℕ, suc, ◌+◌, ◌<◌, ◌≤◌, ◌⊎◌, Bool, true, length, List, [], ◌∷◌, Option, None, Some}
use Rattle.std.specs.Prelude.{slice_get, map, is_some, if◌then◌else◌}
use Rattle.std.specs.FinMap as finite
use Rattle.std.specs.Option.{option_flatten, option_map}
use Rattle.mold_receiver.specs.Store.{Message, Store}
use Rattle.mold_wire.specs.declared.block.TheConstants.{LENGTH_BYTES}
use Rattle.mold_wire.specs.declared.limits.TheConstants.{MAX_WIDE_WINDOW}

-- A slot, which is empty or has a message.
abbrev pub Slot : Type 0
Slot = Option Message

-- The message in a slot, or none if the slot is empty or doesn't exist.
abbrev pub slot_at : List Slot → ℕ → Option Message
slot_at slots i = option_flatten (slice_get slots i)

-- The messages in the slots, each with its number. The first slot has the number `number`.
abbrev pub slot_entries : ℕ → List Slot → List (ℕ × Message)
slot_entries number [] = []
slot_entries number (None ∷ slots) = slot_entries (suc number) slots
slot_entries number (Some message ∷ slots) = (number, message) ∷ slot_entries (suc number) slots

-- The stored messages by number. The first slot has the number `number`.
abbrev pub store_of : ℕ → List Slot → Store
store_of number slots = finite.from_entries (slot_entries number slots)

-- The slots whose messages are represented in another form, given a function from that form to a message.
abbrev pub slots_of : {V : Type 0} → (V → Message) → List (Option V) → List Slot
slots_of bytes slots = map (option_map bytes) slots

-- The number of slots that have a message.
abbrev pub count_held : List Slot → ℕ
count_held [] = 0
count_held (slot ∷ slots) = (if is_some slot then 1 else 0) + count_held slots

-- The bytes of the messages in the slots and of the length fields of their blocks.
abbrev pub slots_bytes : List Slot → ℕ
slots_bytes [] = 0
slots_bytes (None ∷ slots) = slots_bytes slots
slots_bytes (Some message ∷ slots) = LENGTH_BYTES + length message + slots_bytes slots

-- Whether each slot has a message.
abbrev pub flags_of : List Slot → List Bool
flags_of slots = map is_some slots

-- The number of slots is a valid window. `count` slots have a message, and the
-- flags of these slots are set.
pub record AreSlots (slots : List Slot) (count : ℕ) (flags : List Bool) : Type 0 where
  pub some : 0 < length slots
  pub few : length slots ≤ MAX_WIDE_WINDOW
  pub counted : count ≡ count_held slots
  pub flagged : flags ≡ flags_of slots

-- The slots from `from` up to, but not including, `to` have no message.
abbrev pub AreEmpty : List Slot → ℕ → ℕ → Type 0
AreEmpty slots from to = (i : ℕ) → from ≤ i → i < to → slot_at slots i ≡ None

-- The slot is the first empty one from slot `from` on. Slots that don't exist are empty.
pub record IsFirstEmpty (slots : List Slot) (from slot : ℕ) : Type 0 where
  pub after : from ≤ slot
  pub held : (i : ℕ) → from ≤ i → i < slot → is_some (slot_at slots i) ≡ true
  pub empty : slot_at slots slot ≡ None

-- The slot is the first one with a message from slot `from` on and below slot `to`. It is `to` if there is none.
pub record IsNextHeld (slots : List Slot) (from to slot : ℕ) : Type 0 where
  pub after : from ≤ slot
  pub within : slot ≤ to
  pub none : (i : ℕ) → from ≤ i → i < slot → slot_at slots i ≡ None
  pub stops : (slot ≡ to) ⊎ (is_some (slot_at slots slot) ≡ true)
