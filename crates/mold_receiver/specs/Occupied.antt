-- A ring of flags, kept as bits, and its next flag that is set or not.
use Rattle.std.specs.Prelude.{◌≡◌, ◌≢◌, ℕ, ◌+◌, ◌-◌, ◌*◌, ◌/◌, ◌%◌, ◌<◌, ◌≤◌, ◌⊎◌, min, nat_eq, not, Bool, true}
use Rattle.std.specs.Prelude.{false, List, length, slice_index, slice_index_or, Option, None, Some}
use Rattle.std.specs.Int.{bit_at}
use Rattle.mold_receiver.specs.declared.occupied.Levels.{Levels}
use Rattle.mold_receiver.specs.Ring.{ring_in}

-- The flag of a slot. It is false if the slot doesn't exist.
abbrev pub flag_at : List Bool → ℕ → Bool
flag_at flags slot = slice_index_or flags slot false

-- No flag is set from slot `from` on and below slot `to`.
abbrev pub AreUnset : List Bool → ℕ → ℕ → Type 0
AreUnset flags from to = (i : ℕ) → from ≤ i → i < to → flag_at flags i ≡ false

-- The slot is the first one from slot `from` on whose flag is `set`. It is the number of flags if there is none.
pub record IsFirstFlag (flags : List Bool) (from : ℕ) (set : Bool) (slot : ℕ) : Type 0 where
  pub after : from ≤ slot
  pub within : slot ≤ length flags
  pub others : (i : ℕ) → from ≤ i → i < slot → flag_at flags i ≡ not set
  pub stops : (slot ≡ length flags) ⊎ (flag_at flags slot ≡ set)

-- Bit `i` of words of 64 bits, which is 0 or 1. It is 0 if no word has it.
unfoldable pub bit_of : List ℕ → ℕ → ℕ
bit_of words i = bit_at (slice_index words (i / 64)) (i % 64)

-- Between the words `old` and the words `new`, only the bits from bit `from` on and below bit `to` may differ. They are
-- `bit` in the new words.
pub record AreWritten (old new : List ℕ) (from to bit : ℕ) : Type 0 where
  pub size : length new ≡ length old
  pub written : (i : ℕ) → from ≤ i → i < to → bit_of new i ≡ bit
  pub before : (i : ℕ) → i < from → bit_of new i ≡ bit_of old i
  pub after : (i : ℕ) → to ≤ i → bit_of new i ≡ bit_of old i

-- The same for bits of one word. If it changed from 0 to another value, or from another value to 0, `turned` is true,
-- and the word now has a set bit exactly if `bit` is 1.
pub record IsWrite (old new : List ℕ) (from to bit : ℕ) (turned : Bool) : Type 0 where
  pub bits : AreWritten old new from to bit
  pub others : (k : ℕ) → k ≢ from / 64 → slice_index new k ≡ slice_index old k
  pub turns : turned ≡ true → min 1 (slice_index new (from / 64)) ≡ bit
  pub stays : turned ≡ false → min 1 (slice_index new (from / 64)) ≡ min 1 (slice_index old (from / 64))

-- No bit is set from bit `from` on and below bit `to`.
abbrev pub AreClear : List ℕ → ℕ → ℕ → Type 0
AreClear words from to = (i : ℕ) → from ≤ i → i < to → bit_of words i ≡ 0

-- The bit is the first set one from bit `from` on.
pub record IsNextSet (words : List ℕ) (from bit : ℕ) : Type 0 where
  pub after : from ≤ bit
  pub set : bit_of words bit ≡ 1
  pub clear : AreClear words from bit

-- It is the first set bit from bit `from` on, or none if no such bit is set.
abbrev pub IsNext : List ℕ → ℕ → Option ℕ → Type 0
IsNext words from None = (to : ℕ) → AreClear words from to
IsNext words from (Some bit) = IsNextSet words from bit

-- It is the first set bit from bit `from` on, or none if no such bit of the same word is set.
abbrev pub IsNextInWord : List ℕ → ℕ → Option ℕ → Type 0
IsNextInWord words from None = AreClear words from (64 * (from / 64 + 1))
IsNextInWord words from (Some bit) = IsNextSet words from bit

-- It is the first bit from bit `from` on and below bit `to` that is `bit`, which is 0 or 1. It is `to` if there is
-- none.
pub record IsFirstBit (words : List ℕ) (from to bit at : ℕ) : Type 0 where
  pub after : from ≤ at
  pub within : at ≤ to
  pub others : (i : ℕ) → from ≤ i → i < at → bit_of words i ≡ 1 - bit
  pub stops : (at ≡ to) ⊎ (bit_of words at ≡ bit)

-- Bit `k` of the summary is set exactly if word `k` has a set bit.
abbrev pub IsSummary : List ℕ → List ℕ → Type 0
IsSummary words summary = (k : ℕ) → bit_of summary k ≡ min 1 (slice_index words k)

-- Each level has a bit for each word of the level below it, and summarizes these words. The top level is one word.
pub record AreLevels (levels : Levels) : Type 0 where
  pub words : IsSummary levels.bits.items levels.words.items
  pub groups : IsSummary levels.words.items levels.groups.items
  pub top : IsSummary levels.groups.items levels.top
  pub words_fit : length levels.bits.items ≤ 64 * length levels.words.items
  pub groups_fit : length levels.words.items ≤ 64 * length levels.groups.items
  pub top_fits : length levels.groups.items ≤ 64
  pub one : length levels.top ≡ 1

-- The flags of a ring of `count` bits whose first slot has the bit `head`, in the order of its slots.
abbrev pub flags_in : List ℕ → ℕ → ℕ → List Bool
flags_in words head count = ring_in (λ i. nat_eq (bit_of words i) 1) head count

-- The fields of a ring of flags are consistent. Bits from bit `count` on are never set.
pub record IsRing (levels : Levels) (head count : ℕ) : Type 0 where
  pub sound : AreLevels levels
  pub room : count ≤ 64 * length levels.bits.items
  pub inside : head < count
  pub unused : (i : ℕ) → count ≤ i → bit_of levels.bits.items i ≡ 0
