-- Lines of which only a part is kept.
use Rattle.std.specs.Prelude.{◌≡◌, ℕ, ◌==◌, Bool, List, ◌++◌, length, replicate, Option, Ok, Err}
use Rattle.mold_devices.specs.Lines.{GivesLine, HasNoEnd}
use Rattle.mold_input.specs.Entries.{Entry}
use Rattle.mold_input.specs.declared.next.Next.{Next}
use Rattle.mold_input.specs.declared.next.Next.TheVariants.{Message, Fault, End}

-- The part of an entry that has been read.
pub record PartState : Type 0 where
  -- the number of digits that were counted and not kept, before the kept bytes
  pub counted : ℕ
  pub kept : List ℕ

-- The bytes of the part. Each counted digit reads as the digit 0.
abbrev pub bytes_of : PartState → List ℕ
bytes_of part = replicate part.counted 48 ++ part.kept

-- Whatever follows, a line that starts with `one` means the same as one that starts with `other`.
pub record IsSameStart {M : Type 0} (meaning : List ℕ → M) (one other : List ℕ) : Type 0 where
  pub same : (more : List ℕ) → meaning (one ++ more) ≡ meaning (other ++ more)
  -- both are empty, or neither is
  pub empty : (length one == 0) ≡ (length other == 0)
  -- no line ends in `one` if none ends in `other`
  pub no_end : HasNoEnd other → HasNoEnd one

-- The entry was read as `next`. `message` is the message that the reader then holds.
abbrev pub IsEntry : Entry → Next → List ℕ → Type 0
IsEntry entry Message message = entry ≡ Ok message
IsEntry entry (Fault why) message = entry ≡ Err why
IsEntry entry End message = ⊥

-- A line that means the same as `line` was the first one of the remaining input, as `GivesLine` states.
pub record GivesStart {M : Type 0} (meaning : List ℕ → M) (old new : Option (List ℕ)) (found : Bool) (line : List ℕ) :
    Type 0 where
  -- the line itself
  pub whole : List ℕ
  pub gives : GivesLine old new found whole
  pub same : meaning line ≡ meaning whole
