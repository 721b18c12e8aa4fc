-- All requests of the table are over at a later time.
use Rattle.std.proofs.Common.{◌≡◌, ◌⊎◌, ℕ, zero, suc, ◌+◌, ◌<◌, ◌≤◌, ◌||◌, Bool, true, false, List, [], ◌∷◌, Option, None, Some}
use Rattle.std.proofs.Common.{arith, refl, ap, ◌∙◌, cond, inl, inr, map, max, min, nat_le}
use Rattle.std.proofs.lemmas.Bool.Decides.{nat_tests}
use Rattle.std.specs.List.{list_all, remove}
use Rattle.mold_pacing.specs.Flight.{covers, in_flight, is_over}
use Rattle.mold_pacing.specs.Repeat.{flight_for, pause_for}
use Rattle.mold_pacing.specs.Responses.{after_arrival, after_response, has_come, is_response_to}
use Rattle.mold_pacing.specs.Table.{has_room, placed, without}
use Rattle.mold_pacing.specs.declared.ask.Ask.{Ask}
use Rattle.mold_pacing.specs.declared.flight.Flight.{Flight}
use Rattle.mold_pacing.specs.declared.options.PacerOptions.{PacerOptions}

pub all_first : (p : Flight → Bool) (f : Flight) (fs : List Flight) → list_all p (f ∷ fs) ≡ true → p f ≡ true
all_first p f fs all = grind (arith, all)

pub all_rest : (p : Flight → Bool) (f : Flight) (fs : List Flight) → list_all p (f ∷ fs) ≡ true → list_all p fs ≡ true
all_rest p f fs all = grind (arith, all)

pub all_both : (p : Flight → Bool) (f : Flight) (fs : List Flight) → p f ≡ true → list_all p fs ≡ true →
    list_all p (f ∷ fs) ≡ true
all_both p f fs here rest = grind (arith, here, rest)

pub all_map : (p q : Flight → Bool) (change : Flight → Flight) (fs : List Flight) →
    ((f : Flight) → p f ≡ true → q (change f) ≡ true) → list_all p fs ≡ true → list_all q (map change fs) ≡ true
all_map p q change [] keeps all = refl
all_map p q change (f ∷ fs) keeps all =
    all_both q (change f) (map change fs) (keeps f (all_first p f fs all))
    (all_map p q change fs keeps (all_rest p f fs all))

pub all_later : (time more : ℕ) (fs : List Flight) → time ≤ more → list_all (is_over time) fs ≡ true →
    list_all (is_over more) fs ≡ true
all_later time more [] later all = refl
all_later time more (f ∷ fs) later all =
    let here : is_over time f ≡ true = all_first (is_over time) f fs all in
    let then : is_over more f ≡ true = grind (arith, nat_tests, later, here) in
    all_both (is_over more) f fs then (all_later time more fs later (all_rest (is_over time) f fs all))

pub all_placed : (p : Flight → Bool) (sent : Flight) (fs : List Flight) → p sent ≡ true → list_all p fs ≡ true →
    list_all p (placed sent fs) ≡ true
all_placed p sent [] here all = all_both p sent [] here refl
all_placed p sent (f ∷ fs) here all =
    elim (nat_le sent.first f.first) as (λ b. list_all p (cond b (sent ∷ f ∷ fs) (f ∷ placed sent fs)) ≡ true) [
      | true ↦ all_both p sent (f ∷ fs) here all
      | false ↦ all_both p f (placed sent fs) (all_first p f fs all) (all_placed p sent fs here (all_rest p f fs all))
    ]

pub all_removed : (p : Flight → Bool) (fs : List Flight) (index : ℕ) → list_all p fs ≡ true →
    list_all p (remove fs index) ≡ true
all_removed p [] zero all = refl
all_removed p [] (suc index) all = refl
all_removed p (f ∷ fs) zero all = all_rest p f fs all
all_removed p (f ∷ fs) (suc index) all =
    all_both p f (remove fs index) (all_first p f fs all) (all_removed p fs index (all_rest p f fs all))

pub all_without : (p : Flight → Bool) (leaves : Option ℕ) (fs : List Flight) → list_all p fs ≡ true →
    list_all p (without leaves fs) ≡ true
all_without p None fs all = all
all_without p (Some index) fs all = all_removed p fs index all

pub pause_most : (options : PacerOptions) (before : Option Flight) → options.timeout ≤ options.ceiling →
    pause_for options before ≤ options.ceiling
pause_most options None order = omega (arith, order)
pause_most options (Some f) order = omega (arith, order)

pub sent_ends : (options : PacerOptions) (now : ℕ) (before : Option Flight) (ask : Ask) →
    options.timeout ≤ options.ceiling → is_over (now + options.ceiling) (flight_for options now before ask) ≡ true
sent_ends options now before ask order =
    let most : now + pause_for options before ≤ now + options.ceiling = omega (arith, pause_most options before order) in
    grind (arith, nat_tests, most)

pub until_response : (settle now first end : ℕ) (f : Flight) →
    ((after_response settle now first end f).until ≤ f.until) ⊎ ((after_response settle now first end f).until ≤ now)
until_response settle now first end f = elim (is_response_to now first end f) as (λ b. ((cond b (record f {
  until = cond (nat_le f.end end) now (min f.until (now + settle));
  pause = 0;
  attempts = 0;
  reached = max f.reached end;
}) f).until ≤ f.until) ⊎ ((cond b (record f {
  until = cond (nat_le f.end end) now (min f.until (now + settle));
  pause = 0;
  attempts = 0;
  reached = max f.reached end;
}) f).until ≤ now)) [
  | true ↦ elim (nat_le f.end end) as (λ d. (cond d now (min f.until (now + settle)) ≤ f.until)
      ⊎ (cond d now (min f.until (now + settle)) ≤ now)) [ true ↦ inr (omega arith) | false ↦ inl (omega arith) ]
  | false ↦ inl (omega arith)
]

pub ends_response : (settle now first end ceiling : ℕ) (f : Flight) → is_over (now + ceiling) f ≡ true →
    is_over (now + ceiling) (after_response settle now first end f) ≡ true
ends_response settle now first end ceiling f over =
    elim (until_response settle now first end f) [
      | inl less ↦ grind (arith, nat_tests, less, over)
      | inr less ↦ grind (arith, nat_tests, less)
    ]

pub ends_arrival : (now first end ceiling : ℕ) (f : Flight) → is_over (now + ceiling) f ≡ true →
    is_over (now + ceiling) (after_arrival now first end f) ≡ true
ends_arrival now first end ceiling f over = elim (has_come first end f) as (λ b. is_over (now + ceiling) (cond b (record f { until = min f.until now }) f) ≡ true) [
  | true ↦ grind (arith, nat_tests, over)
  | false ↦ over
]

pub none_in_flight : (time number : ℕ) (fs : List Flight) → list_all (is_over time) fs ≡ true →
    in_flight time number fs ≡ false
none_in_flight time number [] all = refl
none_in_flight time number (f ∷ fs) all =
    let here : is_over time f ≡ true = all_first (is_over time) f fs all in
    let off : covers time number f ≡ false = grind (arith, nat_tests, here) in
    ap (λ (b : Bool). b || in_flight time number fs) off ∙ none_in_flight time number fs (all_rest (is_over time) f fs all)

pub room_when_over : (places time : ℕ) (fs : List Flight) → 0 < places → list_all (is_over time) fs ≡ true →
    has_room places time fs ≡ true
room_when_over places time [] some all = grind (arith, nat_tests, some)
room_when_over places time (f ∷ fs) some all =
    let here : is_over time f ≡ true = all_first (is_over time) f fs all in
    grind (arith, here)

pub true_is_false : true ≡ false → ⊥
true_is_false same = cc
