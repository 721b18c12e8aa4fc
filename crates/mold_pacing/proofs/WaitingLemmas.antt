-- The times at which requests are over.
use Rattle.std.proofs.Common.{◌≡◌, ℕ, suc, ◌+◌, ◌<◌, ◌≤◌, Bool, true, false, List, [], ◌∷◌, Some, arith, ap, ◌∙◌, sym, refl, slice_get, inl, inr, max, min, nat_lt, cond}
use Rattle.std.proofs.lemmas.Bool.{cases_lt}
use Rattle.std.proofs.lemmas.Bool.Decides.{nat_tests}
use Rattle.std.specs.List.{list_all, list_any}
use Rattle.mold_pacing.proofs.TableLemmas.{any_at, any_none}
use Rattle.mold_pacing.specs.Flight.{asks_for, covers, in_flight, is_over}
use Rattle.mold_pacing.specs.declared.flight.Flight.{Flight}

-- The requests before the index that ask for the number are over from the time on, and it is in flight before.
pub record IsFreeFrom (fs : List Flight) (number index from : ℕ) : Type 0 where
  pub over : (i : ℕ) (f : Flight) → i < index → slice_get fs i ≡ Some f → asks_for number f ≡ true → f.until ≤ from
  pub busy : (time : ℕ) → time < from → in_flight time number fs ≡ true

pub free_none : (fs : List Flight) (number : ℕ) → IsFreeFrom fs number 0 0
free_none fs number = record {
  over = λ i f before there asks. absurd (omega (arith, before));
  busy = λ time before. absurd (omega (arith, before));
}

pub same_at : (fs : List Flight) (i index : ℕ) (f g : Flight) → slice_get fs index ≡ Some f →
    slice_get fs i ≡ Some g → i < index + 1 → index ≤ i → g ≡ f
same_at fs i index f g there other before after =
    let at : i ≡ index = omega (arith, before, after) in
    let same : Some g ≡ Some f = sym other ∙ ap (slice_get fs) at ∙ there in
    grind (arith, same)

pub free_later : (fs : List Flight) (number index from : ℕ) (f : Flight) → slice_get fs index ≡ Some f →
    IsFreeFrom fs number index from → asks_for number f ≡ true → IsFreeFrom fs number (index + 1) (max from f.until)
free_later fs number index from f there is asks = record {
  over = λ i g before other asked.
      elim (cases_lt i index) [
        | inl earlier ↦ omega (arith, is.over i g earlier other asked)
        | inr after ↦ omega (arith, ap (λ (h : Flight). h.until) (same_at fs i index f g there other before after))
      ];
  busy = λ time before.
      elim (cases_lt time from) [
        | inl earlier ↦ is.busy time earlier
        | inr after ↦
            let later : time < f.until = omega (arith, before, after) in
            any_at (covers time number) fs index f there
            (let covered : covers time number f ≡ true = grind (arith, nat_tests, later, asks) in covered)
      ];
}

pub free_same : (fs : List Flight) (number index from : ℕ) (f : Flight) → slice_get fs index ≡ Some f →
    IsFreeFrom fs number index from → asks_for number f ≡ false → IsFreeFrom fs number (index + 1) from
free_same fs number index from f there is off = record {
  over = λ i g before other asked.
      elim (cases_lt i index) [
        | inl earlier ↦ is.over i g earlier other asked
        | inr after ↦
            let same = same_at fs i index f g there other before after in
            let both : true ≡ false = sym asked ∙ ap (asks_for number) same ∙ off in
            absurd (let none : ⊥ = cc in none)
      ];
  busy = is.busy;
}

pub not_covers_by : (time number : ℕ) (f : Flight) (b : Bool) → asks_for number f ≡ b →
    (asks_for number f ≡ true → f.until ≤ time) → covers time number f ≡ false
not_covers_by time number f true is past = grind (arith, nat_tests, past is)
not_covers_by time number f false is past = grind (arith, nat_tests, is)

pub not_covers : (time number : ℕ) (f : Flight) → (asks_for number f ≡ true → f.until ≤ time) →
    covers time number f ≡ false
not_covers time number f past = not_covers_by time number f (asks_for number f) refl past

pub free_time : (fs : List Flight) (number index from time : ℕ) → IsFreeFrom fs number index from →
    ((i : ℕ) (f : Flight) → slice_get fs i ≡ Some f → i < index) → from ≤ time → in_flight time number fs ≡ false
free_time fs number index from time is all past = any_none (covers time number) fs (λ i f there.
    not_covers time number f (λ asks. omega (arith, past, is.over i f (all i f there) there asks)))

-- The requests before the index are not over before the time, and one request of the table is over from then on.
pub record IsOverFrom (fs : List Flight) (index from : ℕ) : Type 0 where
  pub waits : (i : ℕ) (f : Flight) → i < index → slice_get fs i ≡ Some f → from ≤ f.until
  pub over : (time : ℕ) → from ≤ time → list_any (is_over time) fs ≡ true

pub over_at : (fs : List Flight) (index time : ℕ) (f : Flight) → slice_get fs index ≡ Some f → f.until ≤ time →
    list_any (is_over time) fs ≡ true
over_at fs index time f there past =
    any_at (is_over time) fs index f there (let over : is_over time f ≡ true = grind (arith, nat_tests, past) in over)

pub over_first : (fs : List Flight) (f : Flight) → slice_get fs 0 ≡ Some f → IsOverFrom fs 0 f.until
over_first fs f there = record {
  waits = λ i g before other. absurd (omega (arith, before));
  over = λ time past. over_at fs 0 time f there past;
}

pub over_more : (fs : List Flight) (index from : ℕ) (f : Flight) → slice_get fs index ≡ Some f →
    IsOverFrom fs index from → IsOverFrom fs (index + 1) (min from f.until)
over_more fs index from f there is = record {
  waits = λ i g before other.
      elim (cases_lt i index) [
        | inl earlier ↦ omega (arith, is.waits i g earlier other)
        | inr after ↦ omega (arith, ap (λ (h : Flight). h.until) (same_at fs i index f g there other before after))
      ];
  over = λ time past.
      elim (cases_lt time from) [
        | inl before ↦ over_at fs index time f there (omega (arith, before, past))
        | inr after ↦ is.over time after
      ];
}

pub none_over : (fs : List Flight) (index from time : ℕ) → IsOverFrom fs index from →
    ((i : ℕ) (f : Flight) → slice_get fs i ≡ Some f → i < index) → time < from → list_any (is_over time) fs ≡ false
none_over fs index from time is all before = any_none (is_over time) fs (λ i f there.
    let later : time < f.until = omega (arith, before, is.waits i f (all i f there) there) in
    (let off : is_over time f ≡ false = grind (arith, nat_tests, later) in off))

-- The requests in flight before the index are not over before the time `over`.
pub record IsNextOver (fs : List Flight) (now index over : ℕ) : Type 0 where
  pub later : now < over
  pub waits : (i : ℕ) (f : Flight) → i < index → slice_get fs i ≡ Some f → now < f.until → over ≤ f.until

pub next_over_more : (fs : List Flight) (now index over end : ℕ) (f : Flight) → slice_get fs index ≡ Some f →
    IsNextOver fs now index over → (now < f.until → end ≡ f.until) → now < end →
    IsNextOver fs now (index + 1) (min over end)
next_over_more fs now index over end f there is flies after = record {
  later = omega (arith, is.later, after);
  waits = λ i g before other busy.
      elim (cases_lt i index) [
        | inl earlier ↦ omega (arith, is.waits i g earlier other busy)
        | inr from ↦
            let same = ap (λ (h : Flight). h.until) (same_at fs i index f g there other before from) in
            omega (arith, same, flies (omega (arith, same, busy)))
      ];
}

pub covers_still : (now time number : ℕ) (f : Flight) → (now < f.until → time < f.until) →
    covers now number f ≡ true → covers time number f ≡ true
covers_still now time number f later covered =
    let busy : now < f.until = grind (arith, nat_tests, covered) in
    grind (arith, nat_tests, covered, later busy)

pub any_still : (now time number : ℕ) (fs : List Flight)
    → ((i : ℕ) (f : Flight) → slice_get fs i ≡ Some f → now < f.until → time < f.until)
    → in_flight now number fs ≡ true → in_flight time number fs ≡ true
any_still now time number [] later busy = busy
any_still now time number (f ∷ fs) later busy =
    elim (covers now number f) as (λ b. covers now number f ≡ b → in_flight time number (f ∷ fs) ≡ true) [
      | true ↦ λ covered. any_at (covers time number) (f ∷ fs) 0 f refl
          (covers_still now time number f (later 0 f refl) covered)
      | false ↦ λ off.
          let rest : in_flight now number fs ≡ true = grind (arith, busy, off) in
          let still = any_still now time number fs (λ i g there. later (suc i) g there) rest in
          grind (arith, still)
    ] refl

pub still_bound : (now last number over : ℕ) (fs : List Flight)
    → ((i : ℕ) (f : Flight) → slice_get fs i ≡ Some f → now < f.until → over ≤ f.until)
    → in_flight now number fs ≡ true → list_all (is_over last) fs ≡ true → over ≤ last
still_bound now last number over [] waits busy all = absurd (let none : ⊥ = cc in none)
still_bound now last number over (f ∷ fs) waits busy all =
    elim (covers now number f) as (λ b. covers now number f ≡ b → over ≤ last) [
      | true ↦ λ covered.
          let flies : now < f.until = grind (arith, nat_tests, covered) in
          let ends : is_over last f ≡ true = grind (arith, all) in
          let past : f.until ≤ last = grind (arith, nat_tests, ends) in
          omega (arith, past, waits 0 f refl flies)
      | false ↦ λ off.
          let rest : in_flight now number fs ≡ true = grind (arith, busy, off) in
          let others : list_all (is_over last) fs ≡ true = grind (arith, all) in
          still_bound now last number over fs (λ i g there. waits (suc i) g there) rest others
    ] refl

pub end_flies : (now until most end : ℕ) → end ≡ cond (nat_lt now until) until most → now < until → end ≡ until
end_flies now until most end is flies = grind (arith, nat_tests, is, flies)

pub end_later : (now until most end : ℕ) → end ≡ cond (nat_lt now until) until most → now < most → now < end
end_later now until most end is fits =
    elim (nat_lt now until) as (λ b. nat_lt now until ≡ b → end ≡ cond b until most → now < end) [
      | true ↦ λ test same. (let flies : now < until = grind (arith, nat_tests, test) in omega (arith, same, flies))
      | false ↦ λ test same. omega (arith, same, fits)
    ] refl is
