-- Whether all numbers of a range are carried.
use Rattle.std.proofs.Common.{◌≡◌, ℕ, ◌+◌, ◌-◌, ◌<◌, ◌≤◌, List, [], length, sym, ap, ◌∙◌, inl, inr, arith, get_or}
use Rattle.std.specs.Prelude.{Option, None, Some, slice_get}
use Rattle.std.specs.FinMap as finite
use Rattle.std.proofs.lemmas.Bool.{cases_lt}
use Rattle.std.proofs.lemmas.Option.{none-some, slice_get-get_or}
use Rattle.mold_capture.specs.Seen.{Pairs, Seen}
use Rattle.mold_extract.specs.Carried.{IsBeforeEnd, IsFull, end_before}

-- Each number from `first` up to, but not including, `next` is carried.
pub record IsCarriedTo (pairs : Pairs) (first next : ℕ) : Type 0 where
  pub from : first ≤ next
  pub each : (k : ℕ) → first ≤ k → k < next → (message : List ℕ) × (finite.get pairs k ≡ Some message)

pub carried_none : (pairs : Pairs) (first : ℕ) → IsCarriedTo pairs first first
carried_none pairs first = record { from = omega arith; each = λ k low high. absurd (omega (arith, low, high)) }

-- A run goes on where the numbers so far end.
pub carried_more : (pairs : Pairs) (first next start count : ℕ) (messages : List (List ℕ)) →
    IsCarriedTo pairs first next → start ≡ next → count ≡ length messages →
    ((i : ℕ) → i < length messages → finite.get pairs (start + i) ≡ slice_get messages i) →
    IsCarriedTo pairs first (next + count)
carried_more pairs first next start count messages so_far same counted agrees = record {
  from = omega (arith, so_far.from);
  each = λ k low high. elim (cases_lt k next) [
    | inl before ↦ so_far.each k low before
    | inr from ↦
        let index : start + (k - next) ≡ k = omega (arith, same, from) in
        let there : k - next < length messages = omega (arith, counted, high, from) in (
          get_or messages (k - next) [],
          ap (finite.get pairs) (sym index) ∙ agrees (k - next) there ∙ slice_get-get_or messages (k - next) [] there,
        )
  ];
}

before_end : (ended : Option ℕ) (below k : ℕ) → k < below → IsBeforeEnd ended k → k < end_before ended below
before_end None below k high before = high
before_end (Some end) below k high before = omega (arith, high, before)

within_end : (ended : Option ℕ) (below k : ℕ) → k < end_before ended below → (k < below) × IsBeforeEnd ended k
within_end None below k high = (high, tt)
within_end (Some end) below k high = (omega (arith, high), omega (arith, high))

pub full_from : (seen : Seen) (first below next : ℕ) → IsCarriedTo seen.pairs first next →
    end_before seen.ended below ≤ next → IsFull seen first below
full_from seen first below next carried enough = λ k low high before.
    let within = before_end seen.ended below k high before in
    carried.each k low (omega (arith, within, enough))

-- A number of the range that is not carried is a hole.
pub hole_at : (seen : Seen) (first below k : ℕ) → first ≤ k → k < end_before seen.ended below →
    finite.get seen.pairs k ≡ None → IsFull seen first below → ⊥
hole_at seen first below k low high none full =
    let within = within_end seen.ended below k high in
    let found = full k low within.0 within.1 in
    none-some found.0 (sym none ∙ found.1)
