-- The length of the gap at `next`.
use Rattle.std.proofs.Common.{◌≡◌, ℕ, zero, suc, ◌+◌, ◌-◌, ◌<◌, ◌≤◌, min, Bool, true, cond, List, sym, ap, subst, ◌∙◌}
use Rattle.std.proofs.Common.{inl, inr, arith}
use Rattle.std.specs.Prelude.{Option, None, Some, is_some}
use Rattle.std.specs.FinMap as finite
use Rattle.mold_receiver.specs.Slots.{Slot, slot_at, store_of, IsNextHeld}
use Rattle.mold_receiver.specs.Store.{Message}
use Rattle.mold_receiver.specs.Wanted.{lacking_run}
use Rattle.mold_receiver.proofs.ViewLemmas.{get_from}

pub lacking_short : (look : ℕ → Option Message) (number most : ℕ) → lacking_run look number most ≤ most
unfolding lacking_run
lacking_short look number zero = omega arith
lacking_short look number (suc most) =
    elim (look number) as (λ o. cond (is_some o) 0 (suc (lacking_run look (suc number) most)) ≤ suc most) [
      | None ↦ omega (arith, lacking_short look (suc number) most)
      | Some m ↦ omega arith
    ]

-- The gap goes on while no number has a message.
pub lacking_long : (look : ℕ → Option Message) (number most count : ℕ) → count ≤ most →
    ((i : ℕ) → i < count → look (number + i) ≡ None) → count ≤ lacking_run look number most
unfolding lacking_run
lacking_long look number zero count few none = omega (arith, few)
lacking_long look number (suc most) zero few none = omega arith
lacking_long look number (suc most) (suc count) few none =
    let here : number + 0 ≡ number = omega arith in
    let empty : look number ≡ None = subst (λ (n : ℕ). look n ≡ None) here (none 0 (omega arith)) in
    let rest = lacking_long look (suc number) most count (omega (arith, few))
    (λ i below. let at : number + suc i ≡ suc number + i =
    omega arith in subst (λ (n : ℕ). look n ≡ None) at (none (suc i) (omega (arith, below)))) in
    subst (λ (n : ℕ). suc count ≤ n)
    (sym (ap (λ (o : Option Message). cond (is_some o) 0 (suc (lacking_run look (suc number) most))) empty))
    (omega (arith, rest))

-- It ends at a number that has one.
pub lacking_ends : (look : ℕ → Option Message) (number most count : ℕ) → count ≤ most →
    is_some (look (number + count)) ≡ true → lacking_run look number most ≤ count
unfolding lacking_run
lacking_ends look number zero count few some = omega arith
lacking_ends look number (suc most) zero few some =
    let here : number + 0 ≡ number = omega arith in
    subst (λ (n : ℕ). n ≤ 0)
    (sym (ap (λ (b : Bool). cond b 0 (suc (lacking_run look (suc number) most)))
    (subst (λ (n : ℕ). is_some (look n) ≡ true) here some))) (omega arith)
lacking_ends look number (suc most) (suc count) few some =
    let at : number + suc count ≡ suc number + count = omega arith in
    let rest = lacking_ends look (suc number) most count (omega (arith, few))
    (subst (λ (n : ℕ). is_some (look n) ≡ true) at some) in
    elim (look number) as (λ o. cond (is_some o) 0 (suc (lacking_run look (suc number) most)) ≤ suc count) [
      | None ↦ omega (arith, rest)
      | Some m ↦ omega arith
    ]

-- The first slot with a message below a limit is the length of the gap, up to that limit.
pub gap_found : (next known bound : ℕ) (slots : List Slot) (slot : ℕ) →
    IsNextHeld slots 0 (min (known - next) bound) slot
    → min bound (next + lacking_run (finite.get (store_of next slots)) next (known - next) - next) ≡ slot
gap_found next known bound slots slot first =
    let look = finite.get (store_of next slots) in
    let at : (i : ℕ) → look (next + i) ≡ slot_at slots i = λ i. get_from next slots (next + i) (omega arith)
    ∙ ap (slot_at slots) (let e : next + i - next ≡ i = omega arith in e) in
    let short = lacking_short look next (known - next) in
    let long = lacking_long look next (known - next) slot (omega (arith, first.within)) (λ i below. at i
    ∙ first.none i (omega arith) below) in
    elim first.stops [
      | inl whole ↦ omega (arith, whole, short, long)
      | inr some ↦ omega (
        arith,
        lacking_ends look next (known - next) slot (omega (arith, first.within)) (ap is_some (at slot) ∙ some),
        long,
        first.within,
      )
    ]
