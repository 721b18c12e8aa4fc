-- Each request that ended brought a number of its own.
use Rattle.std.proofs.Common.{◌≡◌, ◌⊎◌, ℕ, zero, suc, ◌+◌, ◌-◌, ◌<◌, ◌≤◌, ◌&&◌, ◌||◌, Bool, true, false, List, [], ◌∷◌, Option, None, Some}
use Rattle.std.proofs.Common.{arith, refl, ap, ◌∙◌, sym, subst, cond, inl, inr, length, map, max, min, nat_eq, nat_le, nat_lt}
use Rattle.std.proofs.lemmas.Bool.Decides.{nat_tests}
use Rattle.std.specs.List.{list_all, list_any, remove}
use Rattle.mold_pacing.proofs.EndLemmas.{all_first, all_rest, true_is_false}
use Rattle.mold_pacing.proofs.LawLemmas.{any_implies, or_cases, or_left, or_right}
use Rattle.mold_pacing.specs.Flight.{asks_for, covers, in_flight}
use Rattle.mold_pacing.specs.Frugal.{AreDistinct, count_in_flight}
use Rattle.mold_pacing.specs.Most.{ends_request}
use Rattle.mold_pacing.specs.Responses.{after_arrival, after_response, has_come, is_response_to}
use Rattle.mold_pacing.specs.Table.{placed, without}
use Rattle.mold_pacing.specs.declared.flight.Flight.{Flight}

pub implies_false : (a b : Bool) → (a ≡ true → b ≡ true) → b ≡ false → a ≡ false
implies_false true b implies off = absurd (true_is_false (sym (implies refl) ∙ off))
implies_false false b implies off = refl

pub not_true : (a : Bool) → (a ≡ true → ⊥) → a ≡ false
not_true true never = absurd (never refl)
not_true false never = refl

pub and_both : (a b : Bool) → a ≡ true → b ≡ true → (a && b) ≡ true
and_both a b here there = ap (λ (x : Bool). x && b) here ∙ there

pub and_left : (a b : Bool) → (a && b) ≡ true → a ≡ true
and_left true b both = refl
and_left false b both = both

pub and_right : (a b : Bool) → (a && b) ≡ true → b ≡ true
and_right true b both = both
and_right false b both = absurd (true_is_false (sym both))

pub or_none : (a b : Bool) → a ≡ false → b ≡ false → (a || b) ≡ false
or_none a b here there = ap (λ (x : Bool). x || b) here ∙ there

-- Whether the request asks for a number at all.
abbrev pub asks_some : Flight → Bool
asks_some f = nat_lt f.first f.end

-- No number is in two requests in flight.
abbrev pub AreDisjoint : ℕ → List Flight → Type 0
AreDisjoint now [] = Unit {0}
AreDisjoint now (f ∷ fs) = ((n : ℕ) → covers now n f ≡ true → in_flight now n fs ≡ false) × AreDisjoint now fs

pub any_less : (p q : Flight → Bool) (fs : List Flight) → ((f : Flight) → p f ≡ true → q f ≡ true) →
    list_any q fs ≡ false → list_any p fs ≡ false
any_less p q fs implies off = implies_false (list_any p fs) (list_any q fs) (any_implies p q fs implies) off

pub any_of_map : (p q : Flight → Bool) (change : Flight → Flight) (fs : List Flight) →
    ((f : Flight) → p (change f) ≡ true → q f ≡ true) → list_any p (map change fs) ≡ true → list_any q fs ≡ true
any_of_map p q change [] implies any = any
any_of_map p q change (f ∷ fs) implies any =
    elim (or_cases (p (change f)) (list_any p (map change fs)) any) [
      | inl here ↦ or_left (q f) (list_any q fs) (implies f here)
      | inr later ↦ or_right (q f) (list_any q fs) (any_of_map p q change fs implies later)
    ]

pub any_of_removed : (p : Flight → Bool) (fs : List Flight) (index : ℕ) → list_any p (remove fs index) ≡ true →
    list_any p fs ≡ true
any_of_removed p [] zero any = any
any_of_removed p [] (suc index) any = any
any_of_removed p (f ∷ fs) zero any = or_right (p f) (list_any p fs) any
any_of_removed p (f ∷ fs) (suc index) any =
    elim (or_cases (p f) (list_any p (remove fs index)) any) [
      | inl here ↦ or_left (p f) (list_any p fs) here
      | inr later ↦ or_right (p f) (list_any p fs) (any_of_removed p fs index later)
    ]

pub any_of_without : (p : Flight → Bool) (leaves : Option ℕ) (fs : List Flight) →
    list_any p (without leaves fs) ≡ true → list_any p fs ≡ true
any_of_without p None fs any = any
any_of_without p (Some index) fs any = any_of_removed p fs index any

pub any_of_placed_by : (p : Flight → Bool) (sent f : Flight) (fs : List Flight) (b : Bool) →
    (list_any p (placed sent fs) ≡ true → (p sent ≡ true) ⊎ (list_any p fs ≡ true)) →
    list_any p (cond b (sent ∷ f ∷ fs) (f ∷ placed sent fs)) ≡ true → (p sent ≡ true) ⊎ (list_any p (f ∷ fs) ≡ true)
any_of_placed_by p sent f fs true later any = or_cases (p sent) (list_any p (f ∷ fs)) any
any_of_placed_by p sent f fs false later any =
    elim (or_cases (p f) (list_any p (placed sent fs)) any) [
      | inl here ↦ inr (or_left (p f) (list_any p fs) here)
      | inr after ↦ elim (later after) [
        | inl new ↦ inl new
        | inr old ↦ inr (or_right (p f) (list_any p fs) old)
      ]
    ]

pub any_of_placed : (p : Flight → Bool) (sent : Flight) (fs : List Flight) → list_any p (placed sent fs) ≡ true →
    (p sent ≡ true) ⊎ (list_any p fs ≡ true)
any_of_placed p sent [] any = or_cases (p sent) false any
any_of_placed p sent (f ∷ fs) any =
    any_of_placed_by p sent f fs (nat_le sent.first f.first) (any_of_placed p sent fs) any

-- What a response or an arrival does to a request.
pub response_asks : (settle now first end number : ℕ) (f : Flight) →
    asks_for number (after_response settle now first end f) ≡ asks_for number f
response_asks settle now first end number f = elim (is_response_to now first end f) as (λ b. asks_for number (cond b (record f {
  until = cond (nat_le f.end end) now (min f.until (now + settle));
  pause = 0;
  attempts = 0;
  reached = max f.reached end;
}) f) ≡ asks_for number f) [ true ↦ refl | false ↦ refl ]

pub response_later_by : (settle now first end : ℕ) (f : Flight) (b : Bool) → is_response_to now first end f ≡ b →
    nat_lt now (cond b (record f {
      until = cond (nat_le f.end end) now (min f.until (now + settle));
      pause = 0;
      attempts = 0;
      reached = max f.reached end;
    }) f).until ≡ true → nat_lt now f.until ≡ true
response_later_by settle now first end f true is later = and_left (nat_lt now f.until) _ is
response_later_by settle now first end f false is later = later

pub covers_response : (settle now first end number : ℕ) (f : Flight) →
    covers now number (after_response settle now first end f) ≡ true → covers now number f ≡ true
covers_response settle now first end number f is =
    let after = after_response settle now first end f in
    let later = response_later_by settle now first end f (is_response_to now first end f) refl
    (and_left (nat_lt now after.until) (asks_for number after) is) in
    and_both (nat_lt now f.until) (asks_for number f) later
    (sym (response_asks settle now first end number f) ∙ and_right (nat_lt now after.until) (asks_for number after) is)

pub arrival_asks : (now first end number : ℕ) (f : Flight) →
    asks_for number (after_arrival now first end f) ≡ asks_for number f
arrival_asks now first end number f =
    elim (has_come first end f) as (λ b. asks_for number (cond b (record f { until = min f.until now }) f) ≡ asks_for number f)
    [ true ↦ refl | false ↦ refl ]

pub arrival_later_by : (now : ℕ) (f : Flight) (b : Bool) →
    nat_lt now (cond b (record f { until = min f.until now }) f).until ≡ true → nat_lt now f.until ≡ true
arrival_later_by now f true later = grind (arith, nat_tests, later)
arrival_later_by now f false later = later

pub covers_arrival : (now first end number : ℕ) (f : Flight) →
    covers now number (after_arrival now first end f) ≡ true → covers now number f ≡ true
covers_arrival now first end number f is =
    let after = after_arrival now first end f in
    let later = arrival_later_by now f (has_come first end f)
    (and_left (nat_lt now after.until) (asks_for number after) is) in
    and_both (nat_lt now f.until) (asks_for number f) later
    (sym (arrival_asks now first end number f) ∙ and_right (nat_lt now after.until) (asks_for number after) is)

-- Whether the request is in flight, and its whole range came.
abbrev pub ends_arrived : ℕ → ℕ → ℕ → Flight → Bool
ends_arrived now first end f = nat_lt now f.until && has_come first end f

-- What a step does to a request: it ends it if it passes the test, and otherwise leaves it in flight if it was.
pub record IsEnding (now : ℕ) (ends : Flight → Bool) (change : Flight → Flight) : Type 0 where
  pub flies : (f : Flight) → ends f ≡ true → nat_lt now f.until ≡ true
  pub over : (f : Flight) → ends f ≡ true → nat_lt now (change f).until ≡ false
  pub less : (n : ℕ) (f : Flight) → covers now n (change f) ≡ true → covers now n f ≡ true
  pub stays : (f : Flight) → ends f ≡ false → nat_lt now f.until ≡ true → nat_lt now (change f).until ≡ true
  pub asks : (f : Flight) → asks_some f ≡ true → asks_some (change f) ≡ true

pub response_over_by : (settle now first end : ℕ) (f : Flight) (b c : Bool) → is_response_to now first end f ≡ b →
    nat_le f.end end ≡ c → (b && c) ≡ true →
    nat_lt now (cond b (record f {
      until = cond c now (min f.until (now + settle));
      pause = 0;
      attempts = 0;
      reached = max f.reached end;
    }) f).until ≡ false
response_over_by settle now first end f true true is reaches ends = grind (arith, nat_tests)
response_over_by settle now first end f true false is reaches ends = absurd (true_is_false (sym ends))
response_over_by settle now first end f false c is reaches ends = absurd (true_is_false (sym ends))

pub response_stays_by : (settle now first end : ℕ) (f : Flight) (b c : Bool) → 0 < settle → (b && c) ≡ false →
    nat_lt now f.until ≡ true →
    nat_lt now (cond b (record f {
      until = cond c now (min f.until (now + settle));
      pause = 0;
      attempts = 0;
      reached = max f.reached end;
    }) f).until ≡ true
response_stays_by settle now first end f true true some ends flies = absurd (true_is_false ends)
response_stays_by settle now first end f true false some ends flies = grind (arith, nat_tests, flies, some)
response_stays_by settle now first end f false c some ends flies = flies

pub response_some : (settle now first end : ℕ) (f : Flight) → asks_some (after_response settle now first end f) ≡ asks_some f
response_some settle now first end f = elim (is_response_to now first end f) as (λ b. asks_some (cond b (record f {
  until = cond (nat_le f.end end) now (min f.until (now + settle));
  pause = 0;
  attempts = 0;
  reached = max f.reached end;
}) f) ≡ asks_some f) [ true ↦ refl | false ↦ refl ]

pub response_ending : (settle now first end : ℕ) → 0 < settle →
    IsEnding now (ends_request now first end) (after_response settle now first end)
response_ending settle now first end some = record {
  flies = λ f ends. and_left (nat_lt now f.until) _ (and_left (is_response_to now first end f) (nat_le f.end end) ends);
  over = λ f ends.
      response_over_by settle now first end f (is_response_to now first end f) (nat_le f.end end) refl refl ends;
  less = λ n f is. covers_response settle now first end n f is;
  stays = λ f ends flies.
      response_stays_by settle now first end f (is_response_to now first end f) (nat_le f.end end) some ends flies;
  asks = λ f is. response_some settle now first end f ∙ is;
}

pub arrival_over_by : (now : ℕ) (f : Flight) (b : Bool) → (nat_lt now f.until && b) ≡ true →
    nat_lt now (cond b (record f { until = min f.until now }) f).until ≡ false
arrival_over_by now f true ends = grind (arith, nat_tests)
arrival_over_by now f false ends = absurd (true_is_false (sym (and_right (nat_lt now f.until) false ends)))

pub arrival_stays_by : (now : ℕ) (f : Flight) (b : Bool) → (nat_lt now f.until && b) ≡ false →
    nat_lt now f.until ≡ true → nat_lt now (cond b (record f { until = min f.until now }) f).until ≡ true
arrival_stays_by now f true ends flies = absurd (true_is_false (sym (and_both (nat_lt now f.until) true flies refl) ∙ ends))
arrival_stays_by now f false ends flies = flies

pub arrival_some : (now first end : ℕ) (f : Flight) → asks_some (after_arrival now first end f) ≡ asks_some f
arrival_some now first end f =
    elim (has_come first end f) as (λ b. asks_some (cond b (record f { until = min f.until now }) f) ≡ asks_some f)
    [ true ↦ refl | false ↦ refl ]

pub arrival_ending : (now first end : ℕ) → IsEnding now (ends_arrived now first end) (after_arrival now first end)
arrival_ending now first end = record {
  flies = λ f ends. and_left (nat_lt now f.until) (has_come first end f) ends;
  over = λ f ends. arrival_over_by now f (has_come first end f) ends;
  less = λ n f is. covers_arrival now first end n f is;
  stays = λ f ends flies. arrival_stays_by now f (has_come first end f) ends flies;
  asks = λ f is. arrival_some now first end f ∙ is;
}

-- The last numbers of the requests that pass the test.
abbrev pub last_numbers : (Flight → Bool) → List Flight → List ℕ
last_numbers ends [] = []
last_numbers ends (f ∷ fs) = cond (ends f) ((f.end - 1) ∷ last_numbers ends fs) (last_numbers ends fs)

pub covers_last : (now : ℕ) (f : Flight) → asks_some f ≡ true → nat_lt now f.until ≡ true →
    covers now (f.end - 1) f ≡ true
covers_last now f some flies = grind (arith, nat_tests, some, flies)

pub same_number : (n m : ℕ) → nat_eq n m ≡ true → n ≡ m
same_number n m is = grind (arith, nat_tests, is)

pub covers_same : (now n m : ℕ) (f : Flight) → nat_eq n m ≡ true → covers now m f ≡ true → covers now n f ≡ true
covers_same now n m f is covered = ap (λ (k : ℕ). covers now k f) (same_number n m is) ∙ covered

-- Each of the last numbers is in flight.
pub last_busy_by : (now n : ℕ) (ends : Flight → Bool) (f : Flight) (fs : List Flight) (b : Bool) → ends f ≡ b →
    (ends f ≡ true → nat_lt now f.until ≡ true) → asks_some f ≡ true →
    (list_any (nat_eq n) (last_numbers ends fs) ≡ true → in_flight now n fs ≡ true) →
    list_any (nat_eq n) (cond b ((f.end - 1) ∷ last_numbers ends fs) (last_numbers ends fs)) ≡ true →
    in_flight now n (f ∷ fs) ≡ true
last_busy_by now n ends f fs true is flies some later any =
    elim (or_cases (nat_eq n (f.end - 1)) (list_any (nat_eq n) (last_numbers ends fs)) any) [
      | inl here ↦ or_left (covers now n f) (in_flight now n fs)
          (covers_same now n (f.end - 1) f here (covers_last now f some (flies is)))
      | inr after ↦ or_right (covers now n f) (in_flight now n fs) (later after)
    ]
last_busy_by now n ends f fs false is flies some later any =
    or_right (covers now n f) (in_flight now n fs) (later any)

pub last_busy : (now n : ℕ) (ends : Flight → Bool) (change : Flight → Flight) (fs : List Flight) →
    IsEnding now ends change → list_all asks_some fs ≡ true → list_any (nat_eq n) (last_numbers ends fs) ≡ true →
    in_flight now n fs ≡ true
last_busy now n ends change [] ending some any = absurd (true_is_false (sym any))
last_busy now n ends change (f ∷ fs) ending some any =
    last_busy_by now n ends f fs (ends f) refl (ending.flies f) (all_first asks_some f fs some)
    (last_busy now n ends change fs ending (all_rest asks_some f fs some)) any

-- No two of them are the same.
pub last_distinct_by : (now : ℕ) (ends : Flight → Bool) (f : Flight) (fs : List Flight) (b : Bool) → ends f ≡ b →
    (ends f ≡ true → nat_lt now f.until ≡ true) → asks_some f ≡ true →
    ((n : ℕ) → covers now n f ≡ true → in_flight now n fs ≡ false) →
    ((n : ℕ) → list_any (nat_eq n) (last_numbers ends fs) ≡ true → in_flight now n fs ≡ true) →
    AreDistinct (last_numbers ends fs) →
    AreDistinct (cond b ((f.end - 1) ∷ last_numbers ends fs) (last_numbers ends fs))
last_distinct_by now ends f fs true is flies some apart busy rest = (
  implies_false (list_any (nat_eq (f.end - 1)) (last_numbers ends fs)) (in_flight now (f.end - 1) fs) (busy (f.end - 1))
      (apart (f.end - 1) (covers_last now f some (flies is))),
  rest,
)
last_distinct_by now ends f fs false is flies some apart busy rest = rest

pub last_distinct : (now : ℕ) (ends : Flight → Bool) (change : Flight → Flight) (fs : List Flight) →
    IsEnding now ends change → list_all asks_some fs ≡ true → AreDisjoint now fs → AreDistinct (last_numbers ends fs)
last_distinct now ends change [] ending some apart = tt
last_distinct now ends change (f ∷ fs) ending some apart =
    last_distinct_by now ends f fs (ends f) refl (ending.flies f) (all_first asks_some f fs some) apart.0
    (λ n any. last_busy now n ends change fs ending (all_rest asks_some f fs some) any)
    (last_distinct now ends change fs ending (all_rest asks_some f fs some) apart.1)

pub not_in_rest : (now n : ℕ) (ends : Flight → Bool) (change : Flight → Flight) (f : Flight) (fs : List Flight) →
    IsEnding now ends change → ((m : ℕ) → covers now m f ≡ true → in_flight now m fs ≡ false) →
    in_flight now n fs ≡ true → covers now n (change f) ≡ false
not_in_rest now n ends change f fs ending apart busy =
    not_true (covers now n (change f)) (λ is. true_is_false (sym busy ∙ apart n (ending.less n f is)))

-- After the step none of them is in flight.
pub last_free_by : (now n : ℕ) (ends : Flight → Bool) (change : Flight → Flight) (f : Flight) (fs : List Flight)
    (b : Bool) → ends f ≡ b → IsEnding now ends change → asks_some f ≡ true →
    ((m : ℕ) → covers now m f ≡ true → in_flight now m fs ≡ false) →
    (list_any (nat_eq n) (last_numbers ends fs) ≡ true → in_flight now n fs ≡ true) →
    (list_any (nat_eq n) (last_numbers ends fs) ≡ true → in_flight now n (map change fs) ≡ false) →
    list_any (nat_eq n) (cond b ((f.end - 1) ∷ last_numbers ends fs) (last_numbers ends fs)) ≡ true →
    in_flight now n (map change (f ∷ fs)) ≡ false
last_free_by now n ends change f fs true is ending some apart busy later any =
    elim (or_cases (nat_eq n (f.end - 1)) (list_any (nat_eq n) (last_numbers ends fs)) any) [
      | inl here ↦
          let covered = covers_same now n (f.end - 1) f here (covers_last now f some (ending.flies f is)) in
          or_none (covers now n (change f)) (in_flight now n (map change fs))
          (ap (λ (x : Bool). x && asks_for n (change f)) (ending.over f is))
          (implies_false (in_flight now n (map change fs)) (in_flight now n fs)
          (any_of_map (covers now n) (covers now n) change fs (ending.less n)) (apart n covered))
      | inr after ↦
          or_none (covers now n (change f)) (in_flight now n (map change fs))
          (not_in_rest now n ends change f fs ending apart (busy after)) (later after)
    ]
last_free_by now n ends change f fs false is ending some apart busy later any =
    or_none (covers now n (change f)) (in_flight now n (map change fs))
    (not_in_rest now n ends change f fs ending apart (busy any)) (later any)

pub last_free : (now n : ℕ) (ends : Flight → Bool) (change : Flight → Flight) (fs : List Flight) →
    IsEnding now ends change → list_all asks_some fs ≡ true → AreDisjoint now fs →
    list_any (nat_eq n) (last_numbers ends fs) ≡ true → in_flight now n (map change fs) ≡ false
last_free now n ends change [] ending some apart any = refl
last_free now n ends change (f ∷ fs) ending some apart any =
    last_free_by now n ends change f fs (ends f) refl ending (all_first asks_some f fs some) apart.0
    (last_busy now n ends change fs ending (all_rest asks_some f fs some))
    (last_free now n ends change fs ending (all_rest asks_some f fs some) apart.1) any

-- Each request that was in flight is still in flight or has a last number.
pub count_step : (ends flies after : Bool) (here rest more left : ℕ) → (ends ≡ false → flies ≡ true → after ≡ true) →
    here ≡ cond flies (rest + 1) rest → rest ≤ more + left →
    here ≤ cond ends (more + 1) more + cond after (left + 1) left
count_step true true after here rest more left stays is few = elim after as (λ a. here ≤ more + 1 + cond a (left + 1) left)
    [ true ↦ omega (arith, is, few) | false ↦ omega (arith, is, few) ]
count_step true false after here rest more left stays is few = elim after as (λ a. here ≤ more + 1 + cond a (left + 1) left)
    [ true ↦ omega (arith, is, few) | false ↦ omega (arith, is, few) ]
count_step false true true here rest more left stays is few = omega (arith, is, few)
count_step false true false here rest more left stays is few = absurd (true_is_false (sym (stays refl refl)))
count_step false false after here rest more left stays is few = elim after as (λ a. here ≤ more + cond a (left + 1) left)
    [ true ↦ omega (arith, is, few) | false ↦ omega (arith, is, few) ]

pub length_last : (ends : Flight → Bool) (f : Flight) (fs : List Flight) → length (last_numbers ends (f ∷ fs))
    ≡ cond (ends f) (length (last_numbers ends fs) + 1) (length (last_numbers ends fs))
length_last ends f fs = elim (ends f) as (λ b. length (cond b ((f.end - 1) ∷ last_numbers ends fs) (last_numbers ends fs))
    ≡ cond b (length (last_numbers ends fs) + 1) (length (last_numbers ends fs))) [ true ↦ omega arith | false ↦ refl ]

pub count_ended : (now : ℕ) (ends : Flight → Bool) (change : Flight → Flight) (fs : List Flight) →
    IsEnding now ends change →
    count_in_flight now fs ≤ length (last_numbers ends fs) + count_in_flight now (map change fs)
count_ended now ends change [] ending = omega arith
count_ended now ends change (f ∷ fs) ending =
    let step = count_step (ends f) (nat_lt now f.until) (nat_lt now (change f).until) (count_in_flight now (f ∷ fs))
    (count_in_flight now fs) (length (last_numbers ends fs)) (count_in_flight now (map change fs)) (ending.stays f) refl
    (count_ended now ends change fs ending) in
    subst (λ (n : ℕ). count_in_flight now (f ∷ fs) ≤ n + count_in_flight now (map change (f ∷ fs)))
    (sym (length_last ends f fs)) step

-- Requests in flight stay disjoint.
pub disjoint_map : (now : ℕ) (ends : Flight → Bool) (change : Flight → Flight) (fs : List Flight) →
    IsEnding now ends change → AreDisjoint now fs → AreDisjoint now (map change fs)
disjoint_map now ends change [] ending apart = tt
disjoint_map now ends change (f ∷ fs) ending apart = (
  λ n is. implies_false (in_flight now n (map change fs)) (in_flight now n fs)
      (any_of_map (covers now n) (covers now n) change fs (ending.less n)) (apart.0 n (ending.less n f is)),
  disjoint_map now ends change fs ending apart.1,
)

pub covers_earlier : (now later n : ℕ) (f : Flight) → now ≤ later → covers later n f ≡ true → covers now n f ≡ true
covers_earlier now later n f order is = grind (arith, nat_tests, order, is)

pub disjoint_later : (now later : ℕ) (fs : List Flight) → now ≤ later → AreDisjoint now fs → AreDisjoint later fs
disjoint_later now later [] order apart = tt
disjoint_later now later (f ∷ fs) order apart = (
  λ n is. any_less (covers later n) (covers now n) fs (λ g. covers_earlier now later n g order)
      (apart.0 n (covers_earlier now later n f order is)),
  disjoint_later now later fs order apart.1,
)

pub disjoint_removed : (now : ℕ) (fs : List Flight) (index : ℕ) → AreDisjoint now fs → AreDisjoint now (remove fs index)
disjoint_removed now [] zero apart = tt
disjoint_removed now [] (suc index) apart = tt
disjoint_removed now (f ∷ fs) zero apart = apart.1
disjoint_removed now (f ∷ fs) (suc index) apart = (
  λ n is. implies_false (in_flight now n (remove fs index)) (in_flight now n fs)
      (any_of_removed (covers now n) fs index) (apart.0 n is),
  disjoint_removed now fs index apart.1,
)

pub disjoint_without : (now : ℕ) (leaves : Option ℕ) (fs : List Flight) → AreDisjoint now fs →
    AreDisjoint now (without leaves fs)
disjoint_without now None fs apart = apart
disjoint_without now (Some index) fs apart = disjoint_removed now fs index apart

pub free_of_both : (p : Flight → Bool) (sent : Flight) (fs : List Flight) → p sent ≡ false → list_any p fs ≡ false →
    list_any p (placed sent fs) ≡ false
free_of_both p sent fs here rest = not_true (list_any p (placed sent fs)) (λ any.
    elim (any_of_placed p sent fs any) [
      | inl new ↦ true_is_false (sym new ∙ here)
      | inr old ↦ true_is_false (sym old ∙ rest)
    ])

pub disjoint_placed_by : (now : ℕ) (sent f : Flight) (fs : List Flight) (b : Bool) →
    ((n : ℕ) → covers now n sent ≡ true → in_flight now n (f ∷ fs) ≡ false) → AreDisjoint now (f ∷ fs) →
    AreDisjoint now (placed sent fs) → AreDisjoint now (cond b (sent ∷ f ∷ fs) (f ∷ placed sent fs))
disjoint_placed_by now sent f fs true free apart rest = (free, apart)
disjoint_placed_by now sent f fs false free apart rest = (
  λ n is. free_of_both (covers now n) sent fs
      (not_true (covers now n sent) (λ covered.
      true_is_false (sym (or_left (covers now n f) (in_flight now n fs) is) ∙ free n covered)))
      (apart.0 n is),
  rest,
)

pub disjoint_placed : (now : ℕ) (sent : Flight) (fs : List Flight) →
    ((n : ℕ) → covers now n sent ≡ true → in_flight now n fs ≡ false) → AreDisjoint now fs →
    AreDisjoint now (placed sent fs)
disjoint_placed now sent [] free apart = (λ n is. refl, tt)
disjoint_placed now sent (f ∷ fs) free apart =
    disjoint_placed_by now sent f fs (nat_le sent.first f.first) free apart
    (disjoint_placed now sent fs
    (λ n is. implies_false (in_flight now n fs) (in_flight now n (f ∷ fs))
    (or_right (covers now n f) (in_flight now n fs)) (free n is)) apart.1)
