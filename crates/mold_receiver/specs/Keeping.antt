-- Definitions for the functions that put a packet's messages into the store.
use Rattle.std.specs.Prelude.{ℕ, suc, ◌+◌, ◌≤◌, Bool, ◌&&◌, nat_lt, is_none, List, [], ◌∷◌, length, map, Some}
use Rattle.std.specs.Prelude.{slice_set, if◌then◌else◌}
use Rattle.std.specs.List.{filter}
use Rattle.mold_receiver.specs.Slots.{AreEmpty, Slot, slot_at}
use Rattle.mold_receiver.specs.Store.{Message, numbered}

-- The slot exists and is empty.
abbrev pub is_fresh : List Slot → ℕ → Bool
is_fresh slots slot = nat_lt slot (length slots) && is_none (slot_at slots slot)

-- These `count` slots exist and are empty. The first one is `first`.
abbrev pub AreFree : List Slot → ℕ → ℕ → Type 0
AreFree slots first count = (first + count ≤ length slots) × AreEmpty slots first (first + count)

-- The messages for which the slot exists and is empty, each with its slot. The slot of the first message is `first`.
abbrev pub fresh : List Slot → ℕ → List Message → List (ℕ × Message)
fresh slots first messages = filter (λ pair. is_fresh slots pair.0) (numbered first messages)

-- The number of messages whose slot is empty or doesn't exist. The slot of the first message is `first`.
abbrev pub count_absent : List Slot → ℕ → List Message → ℕ
count_absent slots first messages = length (filter (λ pair. is_none (slot_at slots pair.0)) (numbered first messages))

-- These messages without their slots.
abbrev pub fresh_messages : List Slot → ℕ → List Message → List Message
fresh_messages slots first messages = map (λ pair. pair.1) (fresh slots first messages)

-- The slots after a message was put into a slot. They are unchanged unless the slot exists and is empty.
abbrev pub put_fresh : List Slot → ℕ → Message → List Slot
put_fresh slots slot message = if is_fresh slots slot then slice_set slots slot (Some message) else slots

-- The slots after each message was put into its own slot, if that exists and is empty. The first message has the slot
-- `first`.
abbrev pub filled : List Slot → ℕ → List Message → List Slot
filled slots first [] = slots
filled slots first (message ∷ messages) = filled (put_fresh slots first message) (suc first) messages
