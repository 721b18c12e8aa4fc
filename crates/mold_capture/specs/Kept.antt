-- How joined bytes and the offsets at which messages end represent the messages.
use Rattle.std.specs.Prelude.{◌≡◌, ℕ, suc, ◌-◌, ◌<◌, ◌≤◌, List, length, take, drop, map}
use Rattle.std.specs.List.{range_with_len}
use Rattle.mold_capture.specs.Ends.{end_of}

-- The message at an index.
abbrev pub piece : List ℕ → List ℕ → ℕ → List ℕ
piece ends bytes i = take (end_of ends (suc i) - end_of ends i) (drop (end_of ends i) bytes)

-- The messages that end at the offsets of the list, in order. The first one starts at offset 0.
unfoldable pub pieces : List ℕ → List ℕ → List (List ℕ)
pieces ends bytes = map (piece ends bytes) (range_with_len 0 (length ends))

-- The messages that end at these offsets are all of the bytes.
pub record AreEnds (ends bytes : List ℕ) : Type 0 where
  -- no message ends before it starts
  pub ordered : (i : ℕ) → i < length ends → end_of ends i ≤ end_of ends (suc i)
  -- the last message ends at the end of the bytes
  pub last : end_of ends (length ends) ≡ length bytes
