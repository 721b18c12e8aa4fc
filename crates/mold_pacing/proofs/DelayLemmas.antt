-- The greatest of the last delays.
use Rattle.std.proofs.Common.{◌≡◌, ℕ, zero, suc, ◌<◌, ◌≤◌, List, [], ◌∷◌, Some, arith, inl, inr, length, max, set, slice_get}
use Rattle.std.proofs.Common.{◌||◌, ◌∙◌, Bool, cond, ◌*◌, ◌/◌, ap, min, nat_lt, refl, replicate, sym}
use Rattle.std.proofs.lemmas.Bool.{cases_lt}
use Rattle.std.proofs.lemmas.Bool.Decides.{nat_tests}
use Rattle.std.specs.List.{list_any}
use Rattle.mold_pacing.specs.Delays.{greatest_of, greatest_stamp, is_delay, no_delay, patience_for}
use Rattle.mold_pacing.specs.declared.delay.Delay.{Delay}
use Rattle.mold_pacing.specs.declared.delays.TheConstants.{FIRST_PATIENCE, GREATEST_PATIENCE, LEAST_PATIENCE}

-- The greatest stamp has the greatest delay.
pub greatest_is : (delays : List Delay) → greatest_of delays ≡ greatest_stamp delays / 4
greatest_is [] = omega arith
greatest_is (d ∷ ds) = omega (arith, greatest_is ds)

any_or : (stamp greatest : ℕ) (rest : Bool) → rest ≡ nat_lt 0 greatest →
    (nat_lt 0 stamp || rest) ≡ nat_lt 0 (max stamp greatest)
any_or stamp greatest rest is = grind (arith, nat_tests, is)

-- A delay is known exactly when the greatest stamp is not 0.
pub any_is : (delays : List Delay) → list_any is_delay delays ≡ nat_lt 0 (greatest_stamp delays)
any_is [] = refl
any_is (d ∷ ds) = any_or d.stamp (greatest_stamp ds) (list_any is_delay ds) (any_is ds)

patience_at : ℕ → ℕ
patience_at greatest = cond (nat_lt 0 greatest)
    (max LEAST_PATIENCE (min (greatest / 4 * 2) GREATEST_PATIENCE)) FIRST_PATIENCE

-- The patience by the greatest stamp.
patience_by : (delays : List Delay) → patience_for delays ≡ patience_at (greatest_stamp delays)
unfolding patience_at
patience_by delays = λ i. cond (any_is delays i)
    (max LEAST_PATIENCE (min (greatest_is delays i * 2) GREATEST_PATIENCE)) FIRST_PATIENCE

pub patience_same : (delays after : List Delay) → greatest_stamp after ≡ greatest_stamp delays →
    patience_for after ≡ patience_for delays
patience_same delays after is = patience_by after ∙ ap patience_at is ∙ sym (patience_by delays)

at_none : patience_at 0 ≡ FIRST_PATIENCE
unfolding patience_at
at_none = refl

at_some : (greatest : ℕ) → 0 < greatest →
    patience_at greatest ≡ max LEAST_PATIENCE (min (greatest / 4 * 2) GREATEST_PATIENCE)
unfolding patience_at
at_some greatest some = grind (arith, nat_tests, some)

pub patience_none : (delays : List Delay) → greatest_stamp delays ≡ 0 → patience_for delays ≡ FIRST_PATIENCE
patience_none delays none = patience_by delays ∙ ap patience_at none ∙ at_none

pub patience_some : (delays : List Delay) → 0 < greatest_stamp delays → patience_for delays
    ≡ max LEAST_PATIENCE (min (greatest_stamp delays / 4 * 2) GREATEST_PATIENCE)
patience_some delays some = patience_by delays ∙ at_some (greatest_stamp delays) some

pub set_most : (delays : List Delay) (index : ℕ) (delay : Delay) →
    greatest_stamp (set delays index delay) ≤ max (greatest_stamp delays) delay.stamp
set_most [] index delay = omega arith
set_most (d ∷ ds) zero delay = omega arith
set_most (d ∷ ds) (suc index) delay = omega (arith, set_most ds index delay)

pub set_least : (delays : List Delay) (index : ℕ) (delay : Delay) → index < length delays →
    delay.stamp ≤ greatest_stamp (set delays index delay)
set_least [] index delay within = absurd (omega (arith, within))
set_least (d ∷ ds) zero delay within = omega arith
set_least (d ∷ ds) (suc index) delay within = omega (arith, set_least ds index delay (omega (arith, within)))

-- A stamp that is at least the greatest one is the greatest after it replaced another.
pub greatest_new : (delays : List Delay) (index : ℕ) (delay : Delay) → index < length delays →
    greatest_stamp delays ≤ delay.stamp → greatest_stamp (set delays index delay) ≡ delay.stamp
greatest_new delays index delay within above =
    omega (arith, above, set_most delays index delay, set_least delays index delay within)

-- If neither the new stamp nor the one that it replaces is the greatest, the greatest stays.
pub greatest_kept : (delays : List Delay) (index : ℕ) (delay left : Delay) → slice_get delays index ≡ Some left →
    left.stamp < greatest_stamp delays → delay.stamp < greatest_stamp delays →
    greatest_stamp (set delays index delay) ≡ greatest_stamp delays
greatest_kept [] index delay left there below less = cc
greatest_kept (d ∷ ds) zero delay left there below less =
    let is : d ≡ left = grind (arith, there) in
    let same = ap (λ (x : Delay). x.stamp) is in
    omega (arith, same, below, less)
greatest_kept (d ∷ ds) (suc index) delay left there below less =
    elim (cases_lt left.stamp (greatest_stamp ds)) [
      | inl under ↦ elim (cases_lt delay.stamp (greatest_stamp ds)) [
        | inl small ↦ omega (arith, greatest_kept ds index delay left there under small)
        | inr large ↦ omega (arith, large, less, set_most ds index delay)
      ]
      | inr over ↦ omega (arith, over, below, less, set_most ds index delay)
    ]

-- The greatest stamp of a list that repeats `no_delay` is 0.
-- For the prover: the count is a variable, so that the list of 1,024 records is not unfolded.
none_greatest : (count : ℕ) → greatest_stamp (replicate count no_delay) ≡ 0
none_greatest zero = refl
none_greatest (suc count) = omega (arith, none_greatest count)

pub repeated_greatest : (count : ℕ) (delays : List Delay) → delays ≡ replicate count no_delay →
    greatest_stamp delays ≡ 0
repeated_greatest count delays is = ap greatest_stamp is ∙ none_greatest count

pub repeated_patience : (count : ℕ) (delays : List Delay) → delays ≡ replicate count no_delay →
    patience_for delays ≡ FIRST_PATIENCE
repeated_patience count delays is = patience_none delays (repeated_greatest count delays is)
