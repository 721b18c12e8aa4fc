-- The lines of the input.
use Rattle.std.specs.Prelude.{◌≡◌, ℕ, ◌+◌, ◌*◌, ◌<◌, Bool, true, false, List, [], ◌∷◌, ◌==◌, if◌then◌else◌, Option}
use Rattle.std.specs.Prelude.{None, Some, length, take, drop, get_or, ⊤}

-- The lines with the byte added at the start of the first line. If there are no lines, the byte is a line.
abbrev pub onto_first : ℕ → List (List ℕ) → List (List ℕ)
onto_first byte [] = (byte ∷ []) ∷ []
onto_first byte (line ∷ lines) = (byte ∷ line) ∷ lines

-- The lines of the input: each byte 0A ends a line, and bytes after the last 0A are a line too.
abbrev pub lines_of : List ℕ → List (List ℕ)
lines_of [] = []
lines_of (byte ∷ bytes) = if byte == 10 then [] ∷ lines_of bytes else onto_first byte (lines_of bytes)

-- If `found` is true, `line` was the first line of the remaining input, and the other lines still remain. If
-- `found` is false, no input remained. If the input is not known, the relation states nothing.
abbrev pub GivesLine : Option (List ℕ) → Option (List ℕ) → Bool → List ℕ → Type 0
GivesLine None new found line = ⊤
GivesLine (Some xs) None found line = ⊥
GivesLine (Some xs) (Some ys) true line = lines_of xs ≡ line ∷ lines_of ys
GivesLine (Some xs) (Some ys) false line = xs ≡ []

-- The model of a reader of lines.
pub record LineState : Type 0 where
  -- The line that was found last.
  pub line : List ℕ
  -- The bytes that were read from the source but not yet returned in a line.
  pub rest : List ℕ

-- The line that was found: the first `len` bytes of the piece, or otherwise the joined bytes.
abbrev pub line_in : Option ℕ → List ℕ → List ℕ → List ℕ
line_in None joined piece = joined
line_in (Some len) joined piece = take len piece

-- The bytes of the piece after that line and the byte that ends it.
abbrev pub rest_in : Option ℕ → List ℕ → List ℕ
rest_in None piece = piece
rest_in (Some len) piece = drop (len + 1) piece

-- The bytes contain no end of line.
abbrev pub HasNoEnd : List ℕ → Type 0
HasNoEnd bytes = (k : ℕ) → k < length bytes → (get_or bytes k 0 == 10) ≡ true → ⊥

-- An upper bound of the work that remains for a loop over the lines, which shows that the loop ends. It counts the
-- reads that the source still allows, and the bytes that were read and not used.
abbrev pub work_left : ℕ → List ℕ → ℕ
work_left bound rest = bound * 65537 + length rest
