-- Sums over the keys of segments.
use Rattle.std.proofs.Common.{◌≡◌, ℕ, zero, suc, ◌+◌, ◌-◌, ◌*◌, ◌<◌, ◌≤◌, ◌^◌, List, [], ◌∷◌, length}
use Rattle.std.proofs.Common.{refl, sym, ap, subst, inl, inr, arith}
use Rattle.std.specs.Prelude.{Option, None, Some, slice_index_or}
use Rattle.std.proofs.lemmas.Bool.{cases_eq, cases_lt}
use Rattle.slab.specs.Slab.{SameValues, Slab, Updates, get}
use Rattle.mold_receiver.specs.declared.segment.Segment.{Segment}
use Rattle.mold_receiver.specs.Segments.{count_used, used_of}

-- The sum of a function over `count` keys from `at` on.
abbrev pub sum_from : (ℕ → ℕ) → ℕ → ℕ → ℕ
sum_from f at zero = 0
sum_from f at (suc count) = f at + sum_from f (at + 1) count

pub sum_zero : (at count : ℕ) → sum_from (λ _. 0) at count ≡ 0
sum_zero at zero = refl
sum_zero at (suc count) = omega (arith, sum_zero (at + 1) count)

pub sum_both : (f g : ℕ → ℕ) (at count : ℕ) →
    sum_from (λ key. f key + g key) at count ≡ sum_from f at count + sum_from g at count
sum_both f g at zero = refl
sum_both f g at (suc count) = omega (arith, sum_both f g (at + 1) count)

pub sum_none : (f : ℕ → ℕ) (at count : ℕ) → ((i : ℕ) → f (at + i) ≡ 0) → sum_from f at count ≡ 0
sum_none f at zero none = refl
sum_none f at (suc count) none =
    let here : at + 0 ≡ at = omega arith in
    omega (
      arith,
      subst (λ (n : ℕ). f n ≡ 0) here (none 0),
      sum_none f (at + 1) count (λ i.
          let next : at + suc i ≡ at + 1 + i = omega arith in
          subst (λ (n : ℕ). f n ≡ 0) next (none (suc i))),
    )

-- The sum over the segments is a sum over keys.
pub used_sum : (f : ℕ → ℕ) (at : ℕ) (slots : List (Option Segment)) (count : ℕ)
    → ((i : ℕ) → f (at + i) ≡ count_used (slice_index_or slots i None)) → length slots ≤ count
    → sum_from f at count ≡ used_of slots
used_sum f at [] count each fits = sum_none f at count each
used_sum f at (slot ∷ slots) zero each fits = absurd (omega (arith, fits))
used_sum f at (slot ∷ slots) (suc count) each fits =
    let here : at + 0 ≡ at = omega arith in
    omega (
      arith,
      subst (λ (n : ℕ). f n ≡ count_used slot) here (each 0),
      used_sum f (at + 1) slots count (λ i.
          let next : at + suc i ≡ at + 1 + i = omega arith in
          subst (λ (n : ℕ). f n ≡ count_used (slice_index_or slots i None)) next (each (suc i))) (omega (arith, fits)),
    )

abbrev used_at : Slab Segment → ℕ → ℕ
used_at table key = count_used (get table key)

used_keys : (table : Slab Segment) (count : ℕ) → length table.slots ≤ count →
    sum_from (used_at table) 0 count ≡ used_of table.slots
used_keys table count fits =
    used_sum (used_at table) 0 table.slots count
    (λ i. ap (used_at table) (let e : 0 + i ≡ i = omega arith in e)) fits

-- Two sums that differ at one key.
sum_past : (f g : ℕ → ℕ) (key at count : ℕ) → ((k : ℕ) → (k ≡ key → ⊥) → f k ≡ g k) → key < at →
    sum_from f at count ≡ sum_from g at count
sum_past f g key at zero same past = refl
sum_past f g key at (suc count) same past =
    omega (
      arith,
      same at (λ e. omega (arith, e, past)),
      sum_past f g key (at + 1) count same (omega (arith, past)),
    )

sum_but : (f g : ℕ → ℕ) (key at count : ℕ) → ((k : ℕ) → (k ≡ key → ⊥) → f k ≡ g k) → at ≤ key → key < at + count →
    sum_from f at count + g key ≡ sum_from g at count + f key
sum_but f g key at zero same low high = absurd (omega (arith, low, high))
sum_but f g key at (suc count) same low high =
    elim (cases_eq key at) [
      | inl here ↦
          omega (arith, ap f here, ap g here, sum_past f g key (at + 1) count same (omega (arith, here)))
      | inr other ↦
          omega (
            arith,
            same at (λ e. other (sym e)),
            sum_but f g key (at + 1) count same (omega (arith, low, other)) (omega (arith, high)),
          )
    ]

-- The bytes in use after one segment changed.
pub used_updates : (old new : Slab Segment) (key : ℕ) (slot : Option Segment) → Updates old new key slot →
    used_of new.slots + count_used (get old key) ≡ used_of old.slots + count_used slot
used_updates old new key slot up =
    let count : ℕ = length old.slots + length new.slots + key + 1 in
    omega (
      arith,
      sum_but (used_at new) (used_at old) key 0 count (λ k other. ap count_used (up.others k other)) (omega arith)
          (omega arith),
      used_keys old count (omega arith),
      used_keys new count (omega arith),
      ap count_used up.changed,
    )

sum_same : (f g : ℕ → ℕ) (at count : ℕ) → ((k : ℕ) → f k ≡ g k) → sum_from f at count ≡ sum_from g at count
sum_same f g at zero same = refl
sum_same f g at (suc count) same = omega (arith, same at, sum_same f g (at + 1) count same)

pub used_same : (old new : Slab Segment) → SameValues old new → used_of new.slots ≡ used_of old.slots
used_same old new same =
    let count : ℕ = length old.slots + length new.slots in
    omega (
      arith,
      sum_same (used_at new) (used_at old) 0 count (λ k. ap count_used (same k)),
      used_keys old count (omega arith),
      used_keys new count (omega arith),
    )

sum_few : (f : ℕ → ℕ) (at count : ℕ) → ((k : ℕ) → f k ≤ 4294967295) → ((k : ℕ) → 4294967296 ≤ k → f k ≡ 0) →
    sum_from f at count ≤ 4294967295 * (4294967296 - at)
sum_few f at zero few none = omega arith
sum_few f at (suc count) few none =
    elim (cases_lt at 4294967296) [
      | inl low ↦ omega (arith, few at, sum_few f (at + 1) count few none, low)
      | inr past ↦ omega (arith, none at past, sum_few f (at + 1) count few none, past)
    ]

-- All bytes in use can be counted in 64 bits.
pub used_few : (table : Slab Segment)
    → ((key : ℕ) (segment : Segment) → get table key ≡ Some segment → segment.used ≤ 4294967295)
    → ((key : ℕ) (segment : Segment) → get table key ≡ Some segment → key < 4294967296)
    → used_of table.slots < 2 ^ 64
used_few table few keys =
    omega (
      arith,
      used_keys table (length table.slots) (omega arith),
      sum_few (used_at table) 0 (length table.slots) (λ k. at_most k (get table k) refl)
          (λ k past. at_none k past (get table k) refl),
    )
  where
    at_most : (k : ℕ) (o : Option Segment) → get table k ≡ o → count_used o ≤ 4294967295
    at_most k None is = omega arith
    at_most k (Some s) is = few k s is

    at_none : (k : ℕ) → 4294967296 ≤ k → (o : Option Segment) → get table k ≡ o → count_used o ≡ 0
    at_none k past None is = refl
    at_none k past (Some s) is = absurd (omega (arith, past, keys k s is))
