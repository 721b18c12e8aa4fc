-- The table of requests, by index.
use Rattle.std.proofs.Common.{◌≡◌, ℕ, zero, suc, ◌<◌, ◌≤◌, Bool, true, false, List, [], ◌∷◌, Some, arith}
use Rattle.std.proofs.Common.{◌&&◌, nat_lt, refl, ap, ◌∙◌, ◌+◌, ◌-◌, sym, slice_get, length, inl, inr, get_or}
use Rattle.std.proofs.lemmas.Bool.{cases_lt}
use Rattle.std.proofs.lemmas.Bool.Decides.{nat_tests}
use Rattle.std.proofs.lemmas.Option.{slice_get-get_or, slice_get_within}
use Rattle.std.specs.List.{list_any}
use Rattle.mold_pacing.specs.Flight.{AllInFlight, NoneInFlight, ArePassed, covers, in_flight, is_ascending}
use Rattle.mold_pacing.specs.declared.flight.Flight.{Flight}

pub any_at : {X : Type 0} (p : X → Bool) (xs : List X) (i : ℕ) (x : X) → slice_get xs i ≡ Some x → p x ≡ true →
    list_any p xs ≡ true
any_at p [] i x there holds = cc
any_at p (y ∷ ys) zero x there holds = grind (arith, there, holds)
any_at p (y ∷ ys) (suc i) x there holds = grind (arith, any_at p ys i x there holds)

pub any_none : {X : Type 0} (p : X → Bool) (xs : List X)
    → ((i : ℕ) (x : X) → slice_get xs i ≡ Some x → p x ≡ false) → list_any p xs ≡ false
any_none p [] fails = refl
any_none p (y ∷ ys) fails = grind (arith, fails 0 y refl, any_none p ys (λ i x there. fails (suc i) x there))

pub none_any : {X : Type 0} (p : X → Bool) (xs : List X) (i : ℕ) (x : X) → list_any p xs ≡ false →
    slice_get xs i ≡ Some x → p x ≡ false
none_any p [] i x none there = cc
none_any p (y ∷ ys) zero x none there = grind (arith, there, none)
none_any p (y ∷ ys) (suc i) x none there = grind (arith, none_any p ys i x (grind (arith, none)) there)

-- The requests from an index on begin at or above the one there.
pub ascending_low : (low : ℕ) (fs : List Flight) (i : ℕ) (f : Flight) → is_ascending low fs ≡ true →
    slice_get fs i ≡ Some f → low ≤ f.first
ascending_low low [] i f sorted there = cc
ascending_low low (g ∷ gs) zero f sorted there = grind (arith, nat_tests, sorted, there)
ascending_low low (g ∷ gs) (suc i) f sorted there =
    let rest : is_ascending g.first gs ≡ true = grind (arith, sorted) in
    let here : low ≤ g.first = grind (arith, nat_tests, sorted) in
    omega (arith, here, ascending_low g.first gs i f rest there)

pub ascending_at : (low : ℕ) (fs : List Flight) (i j : ℕ) (f g : Flight) → is_ascending low fs ≡ true → i ≤ j →
    slice_get fs i ≡ Some f → slice_get fs j ≡ Some g → f.first ≤ g.first
ascending_at low [] i j f g sorted order there other = cc
ascending_at low (h ∷ hs) zero zero f g sorted order there other =
    let same : Some f ≡ Some g = sym there ∙ other in grind (arith, same)
ascending_at low (h ∷ hs) zero (suc j) f g sorted order there other =
    let rest : is_ascending h.first hs ≡ true = grind (arith, sorted) in
    let here : f ≡ h = grind (arith, there) in
    let low : h.first ≤ g.first = ascending_low h.first hs j g rest other in
    grind (arith, here, low)
ascending_at low (h ∷ hs) (suc i) zero f g sorted order there other = absurd (omega (arith, order))
ascending_at low (h ∷ hs) (suc i) (suc j) f g sorted order there other =
    let rest : is_ascending h.first hs ≡ true = grind (arith, sorted) in
    ascending_at h.first hs i j f g rest (omega (arith, order)) there other

pub above_from : (fs : List Flight) (index number : ℕ) (f : Flight) → is_ascending 0 fs ≡ true →
    slice_get fs index ≡ Some f → number < f.first →
    (i : ℕ) (g : Flight) → index ≤ i → slice_get fs i ≡ Some g → number < g.first
above_from fs index number f sorted there low i g order other =
    omega (arith, low, ascending_at 0 fs index i f g sorted order there other)

pub above_past : (fs : List Flight) (index number : ℕ) → length fs ≤ index →
    (i : ℕ) (g : Flight) → index ≤ i → slice_get fs i ≡ Some g → number < g.first
above_past fs index number past i g order other = absurd (omega (arith, past, order, slice_get_within fs i g other))

pub not_covers_past : (now number : ℕ) (f : Flight) → (now < f.until → f.end ≤ number) → covers now number f ≡ false
not_covers_past now number f past =
    elim (cases_lt now f.until) [ inl later ↦ grind (arith, nat_tests, past later) | inr over ↦ grind (arith, nat_tests, over) ]

pub not_covers_above : (now number : ℕ) (f : Flight) → number < f.first → covers now number f ≡ false
not_covers_above now number f above = grind (arith, nat_tests, above)

pub covers_within : (now number : ℕ) (f : Flight) → now < f.until → f.first ≤ number → number < f.end →
    covers now number f ≡ true
covers_within now number f later low high = grind (arith, nat_tests, later, low, high)

pub free_between : (fs : List Flight) (now index number : ℕ) → ArePassed fs now index number →
    ((i : ℕ) (g : Flight) → index ≤ i → slice_get fs i ≡ Some g → number < g.first) → in_flight now number fs ≡ false
free_between fs now index number passed above = any_none (covers now number) fs (λ i f there.
    elim (cases_lt i index) [
      | inl before ↦ not_covers_past now number f (passed i f before there)
      | inr from ↦ not_covers_above now number f (above i f from there)
    ])

pub passed_more : (fs : List Flight) (now index number more : ℕ) (f : Flight) → slice_get fs index ≡ Some f →
    ArePassed fs now index number → number ≤ more → (now < f.until → f.end ≤ more) → ArePassed fs now (index + 1) more
passed_more fs now index number more f there passed grows past i g before other later =
    elim (cases_lt i index) [
      | inl earlier ↦ omega (arith, grows, passed i g earlier other later)
      | inr from ↦
          let at : i ≡ index = omega (arith, before, from) in
          let same : Some g ≡ Some f = sym other ∙ ap (slice_get fs) at ∙ there in
          let is : g ≡ f = grind (arith, same) in
          rw (ap (λ (h : Flight). h.end) is) (past (rw (ap (λ (h : Flight). h.until) (sym is)) later))
    ]

pub busy_more : (fs : List Flight) (now from number index more : ℕ) (f : Flight) → slice_get fs index ≡ Some f →
    f.first ≤ number → AllInFlight fs now from number → (number < more → (now < f.until) × (more ≤ f.end)) →
    AllInFlight fs now from more
busy_more fs now from number index more f there low busy within n above below =
    elim (cases_lt n number) [
      | inl before ↦ busy n above before
      | inr after ↦
          let grown = within (omega (arith, after, below)) in
          any_at (covers now n) fs index f there
          (covers_within now n f grown.0 (omega (arith, low, after)) (omega (arith, below, grown.1)))
    ]

-- No request before the index asks, in flight, for a number at or above `from`.
abbrev pub AreClear : List Flight → ℕ → ℕ → ℕ → Type 0
AreClear fs now index from = (i number : ℕ) (f : Flight) → i < index → slice_get fs i ≡ Some f → from ≤ number →
    covers now number f ≡ false

pub clear_passed : (fs : List Flight) (now index number : ℕ) → ArePassed fs now index number →
    AreClear fs now index number
clear_passed fs now index number passed i n f before there from =
    not_covers_past now n f (λ later. omega (arith, from, passed i f before there later))

pub clear_more : (fs : List Flight) (now index from : ℕ) (f : Flight) → slice_get fs index ≡ Some f →
    AreClear fs now index from → (nat_lt now f.until && nat_lt f.first f.end) ≡ false →
    AreClear fs now (index + 1) from
clear_more fs now index from f there clear off i n g before other low =
    elim (cases_lt i index) [
      | inl earlier ↦ clear i n g earlier other low
      | inr after ↦
          let at : i ≡ index = omega (arith, before, after) in
          let same : Some g ≡ Some f = sym other ∙ ap (slice_get fs) at ∙ there in
          let is : g ≡ f = grind (arith, same) in
          let none : covers now n f ≡ false = grind (arith, nat_tests, off) in
          ap (covers now n) is ∙ none
    ]

pub free_until : (fs : List Flight) (now index from end : ℕ) → AreClear fs now index from →
    ((i : ℕ) (g : Flight) → index ≤ i → slice_get fs i ≡ Some g → end ≤ g.first) → NoneInFlight fs now from end
free_until fs now index from end clear above n low high = any_none (covers now n) fs (λ i f there.
    elim (cases_lt i index) [
      | inl before ↦ clear i n f before there low
      | inr after ↦ not_covers_above now n f (omega (arith, high, above i f after there))
    ])

pub busy_there : (fs : List Flight) (now index : ℕ) (f : Flight) → slice_get fs index ≡ Some f →
    (nat_lt now f.until && nat_lt f.first f.end) ≡ true → in_flight now f.first fs ≡ true
busy_there fs now index f there on =
    let holds : covers now f.first f ≡ true = grind (arith, nat_tests, on) in
    any_at (covers now f.first) fs index f there holds

-- The request at an index of the table.
abbrev pub flight_at : List Flight → ℕ → Flight
flight_at fs index = get_or fs index (record { first = 0; end = 0; until = 0; pause = 0; server = 0; attempts = 0; reached = 0 })

pub below_last : (fs : List Flight) (number : ℕ) → is_ascending 0 fs ≡ true → 0 < length fs →
    nat_lt (flight_at fs (length fs - 1)).first number ≡ true → (i : ℕ) (f : Flight) → i < length fs →
    slice_get fs i ≡ Some f → f.first < number
below_last fs number sorted some test i f within there =
    let last = flight_at fs (length fs - 1) in
    let here = slice_get-get_or fs (length fs - 1) (record { first = 0; end = 0; until = 0; pause = 0; server = 0; attempts = 0; reached = 0 }) (omega (arith, some)) in
    let below : last.first < number = grind (arith, nat_tests, test) in
    omega (arith, below, ascending_at 0 fs i (length fs - 1) f last sorted (omega (arith, within)) there here)
