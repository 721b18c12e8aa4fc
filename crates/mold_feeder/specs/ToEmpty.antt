-- An input of blocks that comes in pieces, and ends before its first empty block.
use Rattle.std.specs.Prelude.{◌≡◌, ℕ, zero, suc, ◌+◌, ◌≤◌, ◌==◌, nat_lt, Bool, true, false, if◌then◌else◌, List, [], ◌∷◌}
use Rattle.std.specs.Prelude.{◌++◌, length, take, drop, Option, None, Some}
use Rattle.byteorder.specs.Endian.{big_number}
use Rattle.mold_feeder.specs.declared.piece_source.PieceSource.{PieceSource}

-- The blocks before the first empty block, of at most `most` blocks. If no block is empty, the byte 0 follows the whole
-- blocks. It is a part of a block, so a reader of blocks refuses it as cut.
unfoldable pub marked_in : ℕ → List ℕ → List ℕ
marked_in most [] = 0 ∷ []
marked_in zero (byte ∷ bytes) = 0 ∷ []
marked_in (suc most) (byte ∷ bytes) =
    if nat_lt (length (byte ∷ bytes)) (2 + big_number 2 (byte ∷ bytes)) then 0 ∷ []
    else (if big_number 2 (byte ∷ bytes) == 0 then []
    else (take (2 + big_number 2 (byte ∷ bytes)) (byte ∷ bytes)
    ++ marked_in most (drop (2 + big_number 2 (byte ∷ bytes)) (byte ∷ bytes))))

-- The bytes of an input that ends before its first empty block. A block takes at least two bytes, so there are no more
-- blocks than bytes.
unfoldable pub marked : List ℕ → List ℕ
marked bytes = marked_in (length bytes) bytes

-- The bytes are whole blocks and not empty ones, whatever follows them.
abbrev pub MarksAfter : List ℕ → Type 0
MarksAfter bytes = (more : List ℕ) → marked (bytes ++ more) ≡ bytes ++ marked more

-- The bytes start with an empty block.
abbrev pub StartsEmpty : List ℕ → Type 0
StartsEmpty bytes = (2 ≤ length bytes) × (big_number 2 bytes ≡ 0)

-- The remaining bytes of an input, if they are known. `left` are those of its source, and `tail` was read of it before.
-- The Booleans state whether the input ends before its first empty block, and whether it has ended there.
abbrev pub left_at : Bool → Bool → List ℕ → Option (List ℕ) → Option (List ℕ)
left_at false over tail left = left
left_at true true tail left = Some []
left_at true false tail None = None
left_at true false tail (Some left) = Some (marked (tail ++ left))

-- The remaining bytes that a source of pieces gives. `left` states those of the source that it reads.
abbrev pub source_left : {K : Type 0} → (K → Option (List ℕ)) → PieceSource K → Option (List ℕ)
source_left left source = left_at source.to_empty source.over source.tail.kept (left source.source)

-- The bytes that a source of pieces gave last.
abbrev pub bytes_in : {K : Type 0} → PieceSource K → List ℕ
bytes_in source = if source.to_empty then source.whole.kept else source.piece.value
