-- Message blocks that are read from an input, one after the other, to its end.
use Rattle.std.specs.Prelude.{ℕ, zero, suc, ◌+◌, ◌-◌, ◌<◌, ◌≤◌, nat_lt, if◌then◌else◌, List, [], ◌∷◌, length, take}
use Rattle.std.specs.Prelude.{drop, Option, None, Some, Ok, Err}
use Rattle.byteorder.specs.Endian.{big_number}
use Rattle.mold_input.specs.Entries.{Entry}
use Rattle.mold_input.specs.declared.input_fault.InputFault.TheVariants.{Cut}

-- The bytes end within their first block: within its length, or within its message.
abbrev pub IsCut : List ℕ → Type 0
IsCut bytes = length bytes < 2 + big_number 2 bytes

-- The entries of at most `most` blocks at the start of the bytes. A block that is cut is the last entry.
unfoldable pub entries_in : ℕ → List ℕ → List Entry
entries_in most [] = []
entries_in zero (byte ∷ bytes) = []
entries_in (suc most) (byte ∷ bytes) =
    if nat_lt (length (byte ∷ bytes)) (2 + big_number 2 (byte ∷ bytes)) then Err Cut ∷ []
    else (Ok (take (big_number 2 (byte ∷ bytes)) (drop 2 (byte ∷ bytes)))
    ∷ entries_in most (drop (2 + big_number 2 (byte ∷ bytes)) (byte ∷ bytes)))

-- The entries of an input of blocks. A block takes at least two bytes, so there are no more blocks than bytes.
unfoldable pub block_entries : List ℕ → List Entry
block_entries bytes = entries_in (length bytes) bytes

-- The message that was found: the first `len` bytes after the length at the start of the piece, or otherwise the bytes
-- after the length of the joined block.
abbrev pub message_in : Option ℕ → List ℕ → List ℕ → List ℕ
message_in None joined piece = drop 2 joined
message_in (Some len) joined piece = take len (drop 2 piece)

-- The bytes of the piece after that block.
abbrev pub unread_in : Option ℕ → List ℕ → List ℕ
unread_in None piece = piece
unread_in (Some len) piece = drop (2 + len) piece

-- The bytes are at most one block: they do not go past the end of the block that they start.
abbrev pub IsPartOfBlock : List ℕ → Type 0
IsPartOfBlock bytes = 2 ≤ length bytes → length bytes ≤ 2 + big_number 2 bytes

-- The number of bytes that the length of the block lacks, or once the length is whole, that the block lacks.
abbrev pub missing_of : List ℕ → ℕ
missing_of bytes = if nat_lt (length bytes) 2 then 2 - length bytes else 2 + big_number 2 bytes - length bytes
