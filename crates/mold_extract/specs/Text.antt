-- What is written for the carried messages.
use Rattle.std.specs.Prelude.{ℕ, List, [], ◌∷◌, decimal}
use Rattle.std.specs.List.{flat_map}
use Rattle.mold_text.specs.Line.{line_of, message_digits}
use Rattle.mold_wire.specs.Block.{block}
use Rattle.mold_capture.specs.Seen.{Pairs}
use Rattle.mold_extract.specs.Carried.{carried_in}
use Rattle.mold_extract.specs.declared.number_range.NumberRange.{NumberRange}

-- The line of a message: its number and its bytes as lower-case hexadecimal digits, or `-` if it is empty.
abbrev pub entry_line : ℕ × List ℕ → List ℕ
entry_line entry = line_of (decimal entry.0 ∷ message_digits entry.1 ∷ [])

-- The block of a message.
abbrev pub entry_block : ℕ × List ℕ → List ℕ
entry_block entry = block entry.1

-- The lines of the carried messages whose numbers are in the range.
abbrev pub lines_in : Pairs → NumberRange → List ℕ
lines_in pairs range = flat_map entry_line (carried_in pairs range)

-- The blocks of the carried messages whose numbers are in the range.
abbrev pub blocks_in : Pairs → NumberRange → List ℕ
blocks_in pairs range = flat_map entry_block (carried_in pairs range)
