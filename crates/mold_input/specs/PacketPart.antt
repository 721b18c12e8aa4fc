-- What is kept of a packet's line that can only be refused.
use Rattle.std.specs.Prelude.{◌≡◌, ℕ, ◌*◌, ◌/◌, ◌%◌, ◌<◌, ◌==◌, ◌⊎◌, true, false, if◌then◌else◌, List, [], ◌∷◌}
use Rattle.std.specs.Prelude.{◌++◌, length, take, Option, None, Some, Result, Ok, Err}
use Rattle.std.specs.List.{list_all}
use Rattle.hex.specs.Hex.{decode_of, is_hex_digit}
use Rattle.hex.specs.declared.error.FromHexError.{FromHexError}
use Rattle.mold_wire.specs.Fault.{IsTrailing}
use Rattle.mold_wire.specs.Reading.{reading}
use Rattle.mold_wire.specs.declared.error.DecodeError.{DecodeError}
use Rattle.mold_wire.specs.declared.error.DecodeError.TheVariants.{Short, BlockCut, Trailing}
use Rattle.mold_wire.specs.declared.packet.Packet.{Packet}

-- The digits encode a packet of `at` bytes, and at least one more byte.
pub record IsTooLong (at : ℕ) (line : List ℕ) : Type 0 where
  pub bytes : List ℕ
  pub decoded : decode_of line ≡ Ok bytes
  pub trailing : IsTrailing at bytes

-- A line that starts with these bytes can only be refused: one of them is not a digit, or they are too long.
abbrev pub IsRefused : List ℕ → Type 0
IsRefused line = (list_all is_hex_digit line ≡ false) ⊎ ((at : ℕ) × IsTooLong at line)

-- What is kept of a line that can only be refused: an even number of bytes, by which it is refused, and one more digit
-- if the line has an odd number of bytes.
pub record IsDecided (kept : List ℕ) : Type 0 where
  pub base : List ℕ
  pub odd : List ℕ
  pub parts : kept ≡ base ++ odd
  pub even : length base % 2 ≡ 0
  pub few : length odd < 2
  pub digits : list_all is_hex_digit odd ≡ true
  pub refused : IsRefused base

-- The longest prefix with an even number of bytes.
abbrev pub even_part : List ℕ → List ℕ
even_part line = take (length line / 2 * 2) line

-- One digit if the number is odd.
abbrev pub odd_digit : ℕ → List ℕ
odd_digit number = if number % 2 == 1 then 48 ∷ [] else []

-- Where the packet ends, if more bytes follow it.
abbrev pub end_in : Result Packet DecodeError → Option ℕ
end_in (Ok packet) = None
end_in (Err (Short len)) = None
end_in (Err (BlockCut index)) = None
end_in (Err (Trailing at)) = Some at

-- Where the packet of the decoded digits ends, if more bytes follow it.
abbrev pub end_of_digits : Result (List ℕ) FromHexError → Option ℕ
end_of_digits (Ok bytes) = end_in (reading bytes)
end_of_digits (Err _) = None
