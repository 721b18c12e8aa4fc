-- What is written for a range of numbers.
use Rattle.std.specs.Prelude.{◌≡◌, ℕ, List, [], length, Option}
use Rattle.std.specs.Io.KnownBytes.{Appends}
use Rattle.mold_capture.specs.Seen.{Seen}
use Rattle.mold_extract.specs.Carried.{IsInFull, carried_in}
use Rattle.mold_extract.specs.Text.{blocks_in}
use Rattle.mold_extract.specs.declared.extracted.Extracted.{Extracted}
use Rattle.mold_extract.specs.declared.extracted.Extracted.TheVariants.{All, Holes}
use Rattle.mold_extract.specs.declared.number_range.NumberRange.{NumberRange}

-- The range is carried in full and its blocks were written, or it isn't and nothing was written.
abbrev pub ExtractsBlocks : Option (List ℕ) → Option (List ℕ) → Seen → NumberRange → Extracted → Type 0
ExtractsBlocks old new seen range (All messages) =
    IsInFull seen range × Appends old new (blocks_in seen.pairs range)
    × (messages ≡ length (carried_in seen.pairs range))
ExtractsBlocks old new seen range Holes = (IsInFull seen range → ⊥) × Appends old new []
