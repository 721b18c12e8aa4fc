-- A record counts no more attempts than there were requests for each of its numbers.
use Rattle.std.proofs.Common.{◌≡◌, ℕ, ◌+◌, ◌≤◌, ◌<◌, ◌&&◌, Bool, true, false, List, [], ◌∷◌, Option, None, Some}
use Rattle.std.proofs.Common.{arith, refl, ap, ◌∙◌, sym, cond, map, max, min, nat_le, nat_lt}
use Rattle.std.proofs.lemmas.Bool.Decides.{nat_tests}
use Rattle.std.specs.List.{find, list_all}
use Rattle.mold_pacing.proofs.EndLemmas.{all_both, all_first, all_map, all_placed, all_rest, all_without}
use Rattle.mold_pacing.proofs.LawLemmas.{some_is_none}
use Rattle.mold_pacing.proofs.PlaceLemmas.{find_passes}
use Rattle.mold_pacing.specs.Attempts.{count_asks_for}
use Rattle.mold_pacing.specs.Flight.{asks_for, is_stale}
use Rattle.mold_pacing.specs.Polls.{HasAsked, last_request}
use Rattle.mold_pacing.specs.Repeat.{attempts_for, attempts_of, end_for, flight_for}
use Rattle.mold_pacing.specs.Responses.{after_arrival, after_response, has_come, is_response_to}
use Rattle.mold_pacing.specs.Run.{IsRun, Takes}
use Rattle.mold_pacing.specs.Table.{without}
use Rattle.mold_pacing.specs.declared.ask.Ask.{Ask}
use Rattle.mold_pacing.specs.declared.flight.Flight.{Flight}
use Rattle.mold_pacing.specs.declared.gap.Gap.{Gap}
use Rattle.mold_pacing.specs.declared.pacer.Pacer.{Pacer}
use Rattle.mold_pacing.specs.declared.step.Step.{Step}
use Rattle.mold_pacing.specs.declared.step.Step.TheVariants.{Advance, Adapt, Poll, Respond, Arrive}

-- Whether the request counts at most `most` attempts, if it asks for the number.
abbrev pub is_counted : ℕ → ℕ → Flight → Bool
is_counted number most f = cond (asks_for number f) (nat_le f.attempts most) true

pub none_is_some : (f : Flight) → None ≡ Some f → ⊥
none_is_some f is = cc

pub all_find_by : (p q : Flight → Bool) (g : Flight) (gs : List Flight) (f : Flight) (b : Bool) → q g ≡ true →
    (find p gs ≡ Some f → q f ≡ true) → cond b (Some g) (find p gs) ≡ Some f → q f ≡ true
all_find_by p q g gs f true here later found =
    let same : g ≡ f = grind (arith, found) in
    sym (ap q same) ∙ here
all_find_by p q g gs f false here later found = later found

pub all_find : (p q : Flight → Bool) (fs : List Flight) (f : Flight) → list_all q fs ≡ true → find p fs ≡ Some f →
    q f ≡ true
all_find p q [] f all found = absurd (none_is_some f found)
all_find p q (g ∷ gs) f all found =
    all_find_by p q g gs f (p g) (all_first q g gs all) (all_find p q gs f (all_rest q g gs all)) found

-- What a response or an arrival does to the count.
pub counted_response : (number most settle now first end : ℕ) (f : Flight) → is_counted number most f ≡ true →
    is_counted number most (after_response settle now first end f) ≡ true
counted_response number most settle now first end f is =
    elim (is_response_to now first end f) as (λ b. is_counted number most (cond b (record f {
      until = cond (nat_le f.end end) now (min f.until (now + settle));
      pause = 0;
      attempts = 0;
      reached = max f.reached end;
    }) f) ≡ true) [
      | true ↦ elim (asks_for number f) as (λ b. cond b (nat_le 0 most) true ≡ true) [ true ↦ grind (arith, nat_tests) | false ↦ refl ]
      | false ↦ is
    ]

pub counted_arrival : (number most now first end : ℕ) (f : Flight) → is_counted number most f ≡ true →
    is_counted number most (after_arrival now first end f) ≡ true
counted_arrival number most now first end f is =
    elim (has_come first end f) as (λ b. is_counted number most (cond b (record f { until = min f.until now }) f) ≡ true)
    [ true ↦ is | false ↦ is ]

pub counted_more_by : (number most more attempts : ℕ) (b : Bool) → most ≤ more → cond b (nat_le attempts most) true ≡ true →
    cond b (nat_le attempts more) true ≡ true
counted_more_by number most more attempts true order is = grind (arith, nat_tests, order, is)
counted_more_by number most more attempts false order is = refl

pub counted_more : (number most more : ℕ) (fs : List Flight) → most ≤ more → list_all (is_counted number most) fs ≡ true →
    list_all (is_counted number more) fs ≡ true
counted_more number most more [] order all = refl
counted_more number most more (f ∷ fs) order all =
    all_both (is_counted number more) f fs
    (counted_more_by number most more f.attempts (asks_for number f) order (all_first (is_counted number most) f fs all))
    (counted_more number most more fs order (all_rest (is_counted number most) f fs all))

pub attempts_less_by : (number most limit : ℕ) (f : Flight) (ask : Ask) (b : Bool) → nat_lt 0 f.attempts ≡ b →
    ask.first ≤ number → number < ask.end → ask.end ≤ cond b (min limit f.end) limit → f.first ≤ ask.first →
    is_counted number most f ≡ true → min (f.attempts + 1) 4294967295 ≤ most + 1
attempts_less_by number most limit f ask true is low high end first counted =
    let from : f.first ≤ number = omega (arith, first, low) in
    let to : number < f.end = omega (arith, high, end) in
    let asks : asks_for number f ≡ true = grind (arith, nat_tests, from, to) in
    let less : nat_le f.attempts most ≡ true =
    sym (ap (λ (x : Bool). cond x (nat_le f.attempts most) true) asks) ∙ counted in
    let order : f.attempts ≤ most = grind (arith, nat_tests, less) in
    omega (arith, order)
attempts_less_by number most limit f ask false is low high end first counted =
    let none : f.attempts ≡ 0 = grind (arith, nat_tests, is) in
    omega (arith, none)

-- A request counts one more attempt than the last one for its first number, and asks for no other numbers, unless that
-- one had a response.
pub attempts_less : (number most limit : ℕ) (before : Option Flight) (ask : Ask) → ask.first ≤ number →
    number < ask.end → ask.end ≤ end_for limit before →
    ((f : Flight) → before ≡ Some f → (f.first ≤ ask.first) × (is_counted number most f ≡ true)) →
    attempts_for before ≤ most + 1
attempts_less number most limit None ask low high end counted = omega arith
attempts_less number most limit (Some f) ask low high end counted =
    attempts_less_by number most limit f ask (nat_lt 0 f.attempts) refl low high end (counted f refl).0 (counted f refl).1

pub sent_counted_by : (number most attempts : ℕ) (b : Bool) → (b ≡ true → attempts ≤ most + 1) →
    cond b (nat_le attempts (cond b (most + 1) most)) true ≡ true
sent_counted_by number most attempts true less = grind (arith, nat_tests, less refl)
sent_counted_by number most attempts false less = refl

pub asked_counted : (number most : ℕ) (old new : Pacer) (gaps : List Gap) (ask : Ask) → HasAsked old new gaps ask →
    list_all (is_counted number most) old.flights.items ≡ true →
    list_all (is_counted number (cond (nat_le ask.first number && nat_lt number ask.end) (most + 1) most))
    new.flights.items ≡ true
asked_counted number most old new gaps ask asked all =
    let fs = old.flights.items in
    let before = last_request old ask.first in
    let sent = flight_for old.options old.state.now before ask in
    let within = nat_le ask.first number && nat_lt number ask.end in
    let more = cond within (most + 1) most in
    let grows : most ≤ more = elim within as (λ b. most ≤ cond b (most + 1) most) [ true ↦ omega arith | false ↦ omega arith ] in
    let here : is_counted number more sent ≡ true =
    sent_counted_by number most (attempts_for before) within (λ is.
    let low : ask.first ≤ number = grind (arith, nat_tests, is) in
    let high : number < ask.end = grind (arith, nat_tests, is) in
    attempts_less number most asked.limit before ask low high asked.asks.high (λ f found.
    let stale = find_passes (is_stale old.state.now ask.first) fs f found in
    let first : f.first ≤ ask.first = grind (arith, nat_tests, stale) in
    (first, all_find (is_stale old.state.now ask.first) (is_counted number most) fs f all found))) in
    ap (list_all (is_counted number more)) asked.flights
    ∙ all_placed (is_counted number more) sent (without asked.leaves fs) here
    (all_without (is_counted number more) asked.leaves fs (counted_more number most more fs grows all))

-- The greatest count of a number after a step.
abbrev pub counted_after : ℕ → ℕ → Option Ask → ℕ
counted_after number most None = most
counted_after number most (Some ask) = cond (nat_le ask.first number && nat_lt number ask.end) (most + 1) most

pub same_counted : (number most : ℕ) (fs gs : List Flight) → gs ≡ fs → list_all (is_counted number most) fs ≡ true →
    list_all (is_counted number most) gs ≡ true
same_counted number most fs gs is all = ap (list_all (is_counted number most)) is ∙ all

pub takes_counted : (number most : ℕ) (old new : Pacer) (step : Step) (ask : Option Ask) → Takes old new step ask →
    list_all (is_counted number most) old.flights.items ≡ true →
    list_all (is_counted number (counted_after number most ask)) new.flights.items ≡ true
takes_counted number most old new (Advance time known) (Some ask) takes all = absurd (some_is_none ask takes.none)
takes_counted number most old new (Advance time known) None takes all =
    same_counted number most old.flights.items new.flights.items takes.table all
takes_counted number most old new (Adapt patience) (Some ask) takes all = absurd (some_is_none ask takes.none)
takes_counted number most old new (Adapt patience) None takes all =
    same_counted number most old.flights.items new.flights.items takes.table all
takes_counted number most old new (Poll gaps) None takes all =
    same_counted number most old.flights.items new.flights.items takes.flights all
takes_counted number most old new (Poll gaps) (Some ask) takes all =
    asked_counted number most old new gaps.now ask takes all
takes_counted number most old new (Respond server came) (Some ask) takes all = absurd (some_is_none ask takes.none)
takes_counted number most old new (Respond server came) None takes all =
    let change = after_response old.options.settle old.state.now came.first came.end in
    same_counted number most (map change old.flights.items) new.flights.items takes.table
    (all_map (is_counted number most) (is_counted number most) change old.flights.items
    (counted_response number most old.options.settle old.state.now came.first came.end) all)
takes_counted number most old new (Arrive came) (Some ask) takes all = absurd (some_is_none ask takes.none)
takes_counted number most old new (Arrive came) None takes all =
    let change = after_arrival old.state.now came.first came.end in
    same_counted number most (map change old.flights.items) new.flights.items takes.table
    (all_map (is_counted number most) (is_counted number most) change old.flights.items
    (counted_arrival number most old.state.now came.first came.end) all)

pub count_next : (number most : ℕ) (ask : Option Ask) (asks : List (Option Ask)) →
    counted_after number most ask + count_asks_for number asks ≡ most + count_asks_for number (ask ∷ asks)
count_next number most None asks = refl
count_next number most (Some ask) asks =
    elim (nat_le ask.first number && nat_lt number ask.end) as (λ b. cond b (most + 1) most + count_asks_for number asks
    ≡ most + cond b (count_asks_for number asks + 1) (count_asks_for number asks)) [
      | true ↦ omega arith
      | false ↦ refl
    ]

pub run_counted : (number most : ℕ) (old new : Pacer) (steps : List Step) (asks : List (Option Ask)) →
    IsRun old new steps asks → list_all (is_counted number most) old.flights.items ≡ true →
    list_all (is_counted number (most + count_asks_for number asks)) new.flights.items ≡ true
run_counted number most old new [] [] ran all =
    let none : most + 0 ≡ most = omega arith in
    ap (λ (n : ℕ). list_all (is_counted number n) new.flights.items) none
    ∙ same_counted number most old.flights.items new.flights.items (ap (λ (p : Pacer). p.flights.items) ran) all
run_counted number most old new [] (ask ∷ asks) ran all = absurd ran
run_counted number most old new (step ∷ steps) [] ran all = absurd ran
run_counted number most old new (step ∷ steps) (ask ∷ asks) ran all =
    ap (λ (n : ℕ). list_all (is_counted number n) new.flights.items) (sym (count_next number most ask asks))
    ∙ run_counted number (counted_after number most ask) ran.0 new steps asks ran.2
    (takes_counted number most old ran.0 step ask ran.1 all)

pub stale_counted : (number most now : ℕ) (fs : List Flight) (before : Option Flight) →
    find (is_stale now number) fs ≡ before → list_all (is_counted number most) fs ≡ true → attempts_of before ≤ most
stale_counted number most now fs None found all = omega arith
stale_counted number most now fs (Some f) found all =
    let stale = find_passes (is_stale now number) fs f found in
    let asks : asks_for number f ≡ true = grind (arith, stale) in
    let counted = all_find (is_stale now number) (is_counted number most) fs f all found in
    let less : nat_le f.attempts most ≡ true =
    sym (ap (λ (x : Bool). cond x (nat_le f.attempts most) true) asks) ∙ counted in
    grind (arith, nat_tests, less)

pub attempts_counted : (old new : Pacer) (steps : List Step) (asks : List (Option Ask)) (number : ℕ) →
    IsRun old new steps asks → old.flights.items ≡ [] →
    attempts_of (last_request new number) ≤ count_asks_for number asks
attempts_counted old new steps asks number ran empty =
    let all = run_counted number 0 old new steps asks ran (ap (list_all (is_counted number 0)) empty) in
    omega (
      arith,
      stale_counted number (0 + count_asks_for number asks) new.state.now new.flights.items (last_request new number) refl all,
    )
