-- How parts of a buffer represent messages.
use Rattle.std.specs.Prelude.{ℕ, ◌≤◌, List, length}
use Rattle.mold_messages.specs.Offsets.{pieces, IsRising, start_at}
use Rattle.mold_messages.specs.declared.parts.TheConstants.{SPACING}

-- A list of messages that are parts of some bytes.
pub record Marked : Type 0 where
  -- The messages of the list, in order.
  pub messages : List (List ℕ)
  -- The offset at which the last message ends, or 0 if there is none.
  pub end : ℕ
  -- All bytes, including those that belong to no message.
  pub bytes : List ℕ

-- The last of the offsets, or 0 if there is none.
abbrev pub end_of : List ℕ → ℕ
end_of ends = start_at 0 ends (length ends)

-- The messages that end at these offsets, each after `SPACING` other bytes, are within `total` bytes.
abbrev pub AreWithin : List ℕ → ℕ → Type 0
AreWithin ends total = IsRising SPACING 0 ends (end_of ends) × (end_of ends ≤ total)

-- The list of messages that these offsets and bytes represent.
abbrev pub marked_by : List ℕ → List ℕ → Marked
marked_by ends bytes = record { messages = pieces SPACING 0 ends bytes; end = end_of ends; bytes = bytes }
