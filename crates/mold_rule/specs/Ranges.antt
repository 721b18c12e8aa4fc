-- Ranges of consecutive missing numbers. A test of each number states whether it is missing.
use Rattle.std.specs.Prelude.{◌≡◌, ℕ, zero, suc, ◌+◌, ◌-◌, ◌<◌, ◌≤◌, Bool, true, false, List, [], ◌∷◌, ◌==◌}
use Rattle.std.specs.Prelude.{if◌then◌else◌}

-- The numbers from `first` to `last`, both included.
pub record Range : Type 0 where
  pub first : ℕ
  pub last : ℕ

-- The range from `first` to `last`.
abbrev pub range : ℕ → ℕ → Range
range first last = record { first = first; last = last }

-- How many numbers the range has.
abbrev pub size : Range → ℕ
size r = suc r.last - r.first

-- The ranges with `number` added before them. If the first range starts at the next number, it is extended.
-- Otherwise a range of one number is added.
abbrev pub joined : ℕ → List Range → List Range
joined number [] = range number number ∷ []
joined number (r ∷ rs) =
    if r.first == suc number then range number r.last ∷ rs else range number number ∷ r ∷ rs

-- The longest ranges of missing numbers among the `count` numbers from `low` on, in ascending order. `lacks`
-- states which numbers are missing.
unfoldable pub ranges : (ℕ → Bool) → ℕ → ℕ → List Range
ranges lacks low zero = []
ranges lacks low (suc count) =
    if lacks low then joined low (ranges lacks (suc low) count) else ranges lacks (suc low) count

-- How many of the `count` numbers from `low` on are missing.
unfoldable pub lacking : (ℕ → Bool) → ℕ → ℕ → ℕ
lacking lacks low zero = 0
lacking lacks low (suc count) = (if lacks low then 1 else 0) + lacking lacks (suc low) count

-- All numbers of the range are missing, and are at least `low` and below `high`. The range cannot be extended: each of
-- the two numbers next to it is present, or is outside these bounds.
pub record IsLongest (lacks : ℕ → Bool) (low high : ℕ) (r : Range) : Type 0 where
  pub begins : low ≤ r.first
  pub ordered : r.first ≤ r.last
  pub ends : r.last < high
  pub all : (number : ℕ) → r.first ≤ number → number ≤ r.last → lacks number ≡ true
  pub before : (number : ℕ) → low ≤ number → suc number ≡ r.first → lacks number ≡ false
  pub behind : suc r.last < high → lacks (suc r.last) ≡ false
