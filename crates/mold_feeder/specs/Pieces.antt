-- Which bytes of the pieces of an input are whole entries.
use Rattle.std.specs.Prelude.{◌≡◌, ◌⊎◌, ℕ, List, [], ◌++◌}
use Rattle.mold_devices.specs.Lines.{HasNoEnd}
use Rattle.mold_input.specs.Blocks.{IsCut}
use Rattle.mold_input.specs.Entries.{Entry}
use Rattle.mold_input.specs.LongLines.{PartState, bytes_of}

-- The bytes are whole entries, whatever follows them.
abbrev pub AreWhole : (List ℕ → List Entry) → List ℕ → Type 0
AreWhole entries bytes = (more : List ℕ) → entries (bytes ++ more) ≡ entries bytes ++ entries more

-- The bytes are at most a part of one block.
abbrev pub IsBlockPart : List ℕ → Type 0
IsBlockPart bytes = (bytes ≡ []) ⊎ IsCut bytes

-- The bytes are at most a part of one line.
abbrev pub IsLinePart : PartState → Type 0
IsLinePart part = HasNoEnd (bytes_of part)

-- The bytes are at most a part of one block, and all of them are kept.
abbrev pub IsPartOfBlocks : PartState → Type 0
IsPartOfBlocks part = (part.counted ≡ 0) × IsBlockPart part.kept
