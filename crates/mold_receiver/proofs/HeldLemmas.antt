-- Each segment has a stored message, so the stored messages bound the segments.
use Rattle.std.proofs.Common.{◌≡◌, ℕ, zero, suc, ◌+◌, ◌<◌, ◌≤◌, Bool, cond, List, [], ◌∷◌, length, length-take}
use Rattle.std.proofs.Common.{refl, sym, ap, subst, inl, inr, arith}
use Rattle.std.specs.Prelude.{Option, None, Some, slice_index_or}
use Rattle.std.proofs.lemmas.Bool.{cases_eq, eq-eqb, ne_eqb}
use Rattle.slab.proofs.SlabLemmas.{length-entries}
use Rattle.slab.specs.Slab.{entries_from, get, slab_len}
use Rattle.mold_receiver.specs.declared.place.Place.{Place}
use Rattle.mold_receiver.specs.declared.segment.Segment.{Segment}
use Rattle.mold_receiver.specs.declared.segments.Segments.{Segments}
use Rattle.mold_receiver.specs.declared.shelf.Shelf.{Shelf}
use Rattle.mold_receiver.specs.Places.{count_in}
use Rattle.mold_receiver.specs.Segments.{bytes_of, one_at}
use Rattle.mold_receiver.specs.Shelf.{IsKept, slots_in, slots_on}
use Rattle.mold_receiver.specs.Slots.{count_held}
use Rattle.mold_receiver.specs.Tight.{IsTight}
use Rattle.mold_receiver.proofs.SumLemmas.{sum_both, sum_from, sum_zero}
use Rattle.mold_receiver.proofs.TightLemmas.{count_nonzero}

one_is : (key : ℕ) → one_at key key ≡ 1
one_is key = ap {B = ℕ} (λ (b : Bool). cond b 1 0) (eq-eqb key key refl)

one_not : (key at : ℕ) → (key ≡ at → ⊥) → one_at key at ≡ 0
one_not key at other = ap {B = ℕ} (λ (b : Bool). cond b 1 0) (ne_eqb key at other)

sum_past : (key at count : ℕ) → key < at → sum_from (one_at key) at count ≡ 0
sum_past key at zero past = refl
sum_past key at (suc count) past =
    omega (arith, one_not key at (λ e. omega (arith, e, past)), sum_past key (at + 1) count (omega (arith, past)))

-- A key is counted once at most.
sum_one : (key at count : ℕ) → sum_from (one_at key) at count ≤ 1
sum_one key at zero = omega arith
sum_one key at (suc count) =
    elim (cases_eq key at) [
      | inl same ↦
          omega (
            arith,
            subst (λ (n : ℕ). one_at key n ≡ 1) same (one_is key),
            sum_past key (at + 1) count (omega (arith, same)),
          )
      | inr other ↦ omega (arith, one_not key at other, sum_one key (at + 1) count)
    ]

-- All segments together have at most as many places as there are messages.
sum_places : (segments : Segments) (places : List (Option Place)) (at count : ℕ) →
    sum_from (λ key. count_in key places) at count ≤ count_held (slots_in segments places)
sum_places segments [] at count = omega (arith, sum_zero at count)
sum_places segments (None ∷ places) at count = omega (arith, sum_places segments places at count)
sum_places segments (Some place ∷ places) at count =
    omega (
      arith,
      sum_both (one_at place.segment) (λ key. count_in key places) at count,
      sum_one place.segment at count,
      sum_places segments places at count,
    )

some_counts : (f : ℕ → ℕ) (at : ℕ) (slots : List (Option Segment))
    → ((i : ℕ) (segment : Segment) → slice_index_or slots i None ≡ Some segment → 0 < f (at + i))
    → length (entries_from at slots) ≤ sum_from f at (length slots)
some_counts f at [] each = omega arith
some_counts f at (None ∷ slots) each =
    omega (
      arith,
      some_counts f (at + 1) slots (λ i s is.
          let next : at + suc i ≡ at + 1 + i = omega arith in
          subst (λ (n : ℕ). 0 < f n) next (each (suc i) s is)),
    )
some_counts f at (Some segment ∷ slots) each =
    let here : at + 0 ≡ at = omega arith in
    omega (
      arith,
      subst (λ (n : ℕ). 0 < f n) here (each 0 segment refl),
      some_counts f (at + 1) slots (λ i s is.
          let next : at + suc i ≡ at + 1 + i = omega arith in
          subst (λ (n : ℕ). 0 < f n) next (each (suc i) s is)),
    )

-- Each segment has a stored message.
held_there : (shelf : Shelf) (key : ℕ) (segment : Segment) → IsKept shelf → IsTight shelf →
    get shelf.segments.table key ≡ Some segment → 0 < count_in key shelf.ring
held_there shelf key segment kept tight is =
    let some = kept.segments.each key segment is in
    count_nonzero shelf.segments shelf.ring key (omega (
      arith,
      tight.exact key,
      ap (λ (o : Option Segment). length (bytes_of o)) is,
      length-take segment.used segment.bytes.items,
      some.some,
      some.used,
    ))

-- There are at most as many segments as stored messages.
pub segments_few : (shelf : Shelf) → IsKept shelf → IsTight shelf →
    slab_len shelf.segments.table ≤ count_held (slots_on shelf)
segments_few shelf kept tight =
    let table = shelf.segments.table in
    let places = shelf.ring in
    let f : ℕ → ℕ = λ key. count_in key places in
    let each : (i : ℕ) (segment : Segment) → slice_index_or table.slots i None ≡ Some segment → 0 < f (0 + i) =
    λ i segment is.
    let key : 0 + i ≡ i = omega arith in
    subst (λ (n : ℕ). 0 < f n) (sym key) (held_there shelf i segment kept tight is) in
    omega (
      arith,
      length-entries table,
      some_counts f 0 table.slots each,
      sum_places shelf.segments places 0 (length table.slots),
    )
