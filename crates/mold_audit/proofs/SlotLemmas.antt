-- The slots of an audit.
use Rattle.std.proofs.Common.{◌≡◌, ℕ, suc, ◌+◌, ◌-◌, ◌/◌, ◌%◌, ◌<◌, ◌≤◌, List, length, replicate, slice_set, get_or}
use Rattle.std.proofs.Common.{sym, ap, ◌∙◌, inl, inr, ◌⊎◌, arith}
use Rattle.std.proofs.Math.Nat.{div-add-mod, mul-le-mul_left, mul-suc}
use Rattle.std.proofs.lemmas.Bool.{cases_lt, cases_order}
use Rattle.std.proofs.lemmas.List.{get_or-replicate, get_or-set_other, get_or-set_same, length-replicate, length-set}
use Rattle.mold_audit.specs.Kept.{AreEmptied, slot_at}

-- Two numbers that are closer than the number of slots have different slots.
pub apart : (a b size : ℕ) → a < b → b < a + size → a % size ≡ b % size → ⊥
apart a b size below near same =
    elim (cases_lt (a / size) (b / size)) [
      | inl less ↦
          let more : suc (a / size) ≤ b / size = omega arith in
          omega (
            arith,
            mul-le-mul_left size more,
            mul-suc size (a / size),
            div-add-mod a size,
            div-add-mod b size,
            same,
          )
      | inr least ↦
          omega (arith, mul-le-mul_left size least, div-add-mod a size, div-add-mod b size, same)
    ]

written :
    (slots : List ℕ) (size at value number : ℕ) → length slots ≡ size →
    slot_at (slice_set slots (at % size) value) number
    ≡ get_or (slice_set slots (at % size) value) (number % size) 0
written slots size at value number counted =
    ap (λ (n : ℕ). get_or (slice_set slots (at % size) value) (number % n) 0)
    (length-set slots (at % size) value ∙ counted)

-- A slot that is written has the value.
pub slot_here :
    (slots : List ℕ) (size at value number : ℕ) → length slots ≡ size → 0 < size → number % size ≡ at % size →
    slot_at (slice_set slots (at % size) value) number ≡ value
slot_here slots size at value number counted some same =
    written slots size at value number counted
    ∙ ap (λ (i : ℕ). get_or (slice_set slots (at % size) value) i 0) same
    ∙ get_or-set_same slots (at % size) value 0 (omega arith)

-- Another slot stays the same.
pub slot_there :
    (slots : List ℕ) (size at value number : ℕ) → length slots ≡ size → (number % size ≡ at % size → ⊥) →
    slot_at (slice_set slots (at % size) value) number ≡ slot_at slots number
slot_there slots size at value number counted other =
    written slots size at value number counted
    ∙ get_or-set_other slots (at % size) (number % size) value 0 other
    ∙ ap (λ (n : ℕ). get_or slots (number % n) 0) (sym counted)

unlike : (a b : ℕ) → (a < b) ⊎ (b < a) → a ≡ b → ⊥
unlike a b (inl below) same = omega (arith, below, same)
unlike a b (inr above) same = omega (arith, above, same)

first_below : (number at size : ℕ) → (number % size ≡ at % size → ⊥) → number < at + 1 → number < at
first_below number at size other under =
    elim (cases_order number at) [
      | inl same ↦ absurd (other (ap (λ (n : ℕ). n % size) same))
      | inr (inl below) ↦ below
      | inr (inr above) ↦ absurd (omega arith)
    ]

-- One more slot is emptied.
pub emptied_more :
    (old new : List ℕ) (from at to : ℕ) → 0 < length old → from ≤ at → at < to → AreEmptied old new from at to →
    AreEmptied old (slice_set new (at % length old) 0) from (at + 1) to
emptied_more old new from at to some low below is = record {
  size = length-set new (at % length old) 0 ∙ is.size;
  empty = λ number above under.
      elim (cases_order (number % length old) (at % length old)) [
        | inl same ↦ slot_here new (length old) at 0 number is.size some same
        | inr other ↦
            let ne : number % length old ≡ at % length old → ⊥ = unlike _ _ other in
            let before : number < at = first_below number at (length old) ne under in
            slot_there new (length old) at 0 number is.size ne ∙ is.empty number above before
      ];
  same = λ number under recent.
      slot_there new (length old) at 0 number is.size (apart number at (length old) (omega arith) (omega arith))
      ∙ is.same number under recent;
}

empty_at : (size number : ℕ) → 0 < size → slot_at (replicate size 0) number ≡ 0
empty_at size number some =
    let index = number % length (replicate size 0) in
    get_or-replicate size index 0 0 (omega (arith, some, length-replicate {A = ℕ} size 0))

-- If there are at least as many numbers as slots, all slots are emptied.
pub emptied_all :
    (old new : List ℕ) (from to : ℕ) → new ≡ replicate (length old) 0 → length old ≤ to - from → 0 < length old →
    AreEmptied old new from to to
emptied_all old new from to none many some = record {
  size = ap length none ∙ length-replicate {A = ℕ} (length old) 0;
  empty = λ number above below. ap (λ (s : List ℕ). slot_at s number) none ∙ empty_at (length old) number some;
  same = λ number below recent. absurd (omega (arith, below, recent, many, some));
}
