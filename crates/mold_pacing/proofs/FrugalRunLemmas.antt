-- Requests of a run are frugal.
use Rattle.std.proofs.Common.{◌≡◌, ℕ, zero, suc, ◌+◌, ◌-◌, ◌<◌, ◌≤◌, ◌&&◌, Bool, true, false, List, [], ◌∷◌, ◌++◌, Option, None, Some}
use Rattle.std.proofs.Common.{arith, refl, ap, ◌∙◌, sym, subst, cond, inl, inr, length, map, max, min, nat_eq, nat_le, nat_lt, slice_get}
use Rattle.std.proofs.lemmas.Bool.Decides.{nat_tests}
use Rattle.std.proofs.lemmas.List.{length-append}
use Rattle.std.proofs.lemmas.List.Folds.{list_any-append}
use Rattle.std.specs.List.{list_all, list_any, remove}
use Rattle.mold_pacing.proofs.EndLemmas.{all_first, all_map, all_placed, all_rest, all_without, true_is_false}
use Rattle.mold_pacing.proofs.FrugalLemmas.{AreDisjoint, IsEnding, any_less, any_of_map, any_of_without, arrival_ending, asks_some}
use Rattle.mold_pacing.proofs.FrugalLemmas.{count_ended, count_step, covers_earlier, disjoint_later, disjoint_map, disjoint_placed, disjoint_without, ends_arrived}
use Rattle.mold_pacing.proofs.FrugalLemmas.{free_of_both, implies_false, last_busy, last_distinct, last_free, last_numbers, not_true, or_none, response_ending}
use Rattle.mold_pacing.proofs.FrugalLemmas.{same_number}
use Rattle.mold_pacing.proofs.LawLemmas.{count_more, or_cases, or_left, or_right, pause_least, some_is_none, takes_time}
use Rattle.mold_pacing.proofs.TableLemmas.{any_at}
use Rattle.mold_pacing.specs.Flight.{covers, in_flight}
use Rattle.mold_pacing.specs.Frugal.{AreDistinct, AreMissingOnce, ComesInFlight, IsFrugal, IsNeverMissing, comes, count_flights, count_in_flight}
use Rattle.mold_pacing.specs.Frugal.{count_run_out, has, runs_out, total_run_out}
use Rattle.mold_pacing.specs.Laws.{count_asks}
use Rattle.mold_pacing.specs.Most.{ends_request}
use Rattle.mold_pacing.specs.Polls.{HasAsked, last_request}
use Rattle.mold_pacing.specs.Repeat.{end_for, flight_for, pause_for}
use Rattle.mold_pacing.specs.Responses.{after_arrival, after_response}
use Rattle.mold_pacing.specs.Run.{IsRun, Takes}
use Rattle.mold_pacing.specs.Table.{CanLeave, placed, without}
use Rattle.mold_pacing.specs.declared.ask.Ask.{Ask}
use Rattle.mold_pacing.specs.declared.flight.Flight.{Flight}
use Rattle.mold_pacing.specs.declared.gap.Gap.{Gap}
use Rattle.mold_pacing.specs.declared.options.PacerOptions.{PacerOptions}
use Rattle.mold_pacing.specs.declared.pacer.Pacer.{Pacer}
use Rattle.mold_pacing.specs.declared.step.Step.{Step}
use Rattle.mold_pacing.specs.declared.step.Step.TheVariants.{Advance, Adapt, Poll, Respond, Arrive}

-- Counts of requests.
pub count_placed : (p : Flight → Bool) (sent : Flight) (fs : List Flight) → p sent ≡ true →
    count_flights p (placed sent fs) ≡ count_flights p fs + 1
count_placed p sent [] is = ap (λ (b : Bool). cond b (0 + 1) 0) is
count_placed p sent (f ∷ fs) is =
    let later = count_placed p sent fs is in
    elim (nat_le sent.first f.first) as (λ b. count_flights p (cond b (sent ∷ f ∷ fs) (f ∷ placed sent fs))
    ≡ count_flights p (f ∷ fs) + 1) [
      | true ↦ ap (λ (b : Bool). cond b (count_flights p (f ∷ fs) + 1) (count_flights p (f ∷ fs))) is
      | false ↦
          elim (p f) as (λ b. cond b (count_flights p (placed sent fs) + 1) (count_flights p (placed sent fs))
          ≡ cond b (count_flights p fs + 1) (count_flights p fs) + 1) [
            | true ↦ omega (arith, later)
            | false ↦ later
          ]
    ]

pub count_removed : (p : Flight → Bool) (fs : List Flight) (index : ℕ) (f : Flight) → slice_get fs index ≡ Some f →
    p f ≡ false → count_flights p (remove fs index) ≡ count_flights p fs
count_removed p [] index f there off = cc
count_removed p (g ∷ gs) zero f there off =
    let is : g ≡ f = grind (arith, there) in
    sym (ap (λ (b : Bool). cond b (count_flights p gs + 1) (count_flights p gs)) (ap p is ∙ off))
count_removed p (g ∷ gs) (suc index) f there off =
    ap (λ (n : ℕ). cond (p g) (n + 1) n) (count_removed p gs index f there off)

pub count_left : (fs : List Flight) (places now : ℕ) (leaves : Option ℕ) → CanLeave fs places now leaves →
    count_in_flight now (without leaves fs) ≡ count_in_flight now fs
count_left fs places now None can = refl
count_left fs places now (Some index) can =
    count_removed (λ f. nat_lt now f.until) fs index can.flight can.there
    (let off : nat_lt now can.flight.until ≡ false = grind (arith, nat_tests, can.over) in off)

pub runs_on : (before now : ℕ) (f : Flight) → runs_out before now f ≡ false → nat_lt before f.until ≡ true →
    nat_lt now f.until ≡ true
runs_on before now f off flies = grind (arith, nat_tests, off, flies)

pub count_out : (before now : ℕ) (fs : List Flight) →
    count_in_flight before fs ≤ count_flights (runs_out before now) fs + count_in_flight now fs
count_out before now [] = omega arith
count_out before now (f ∷ fs) =
    count_step (runs_out before now f) (nat_lt before f.until) (nat_lt now f.until) (count_in_flight before (f ∷ fs))
    (count_in_flight before fs) (count_flights (runs_out before now) fs) (count_in_flight now fs) (runs_on before now f) refl
    (count_out before now fs)

pub same_count : (now later : ℕ) (fs gs : List Flight) → later ≡ now → gs ≡ fs →
    count_in_flight later gs ≡ count_in_flight now fs
same_count now later fs gs time is =
    ap (λ (n : ℕ). count_in_flight n gs) time ∙ ap (count_in_flight now) is

pub sent_flies : (options : PacerOptions) (now : ℕ) (before : Option Flight) (ask : Ask) → 0 < options.timeout →
    nat_lt now (flight_for options now before ask).until ≡ true
sent_flies options now before ask some =
    let later : now < now + pause_for options before = omega (arith, some, pause_least options before) in
    grind (arith, nat_tests, later)

-- A step that ends requests brings their last numbers.
pub last_within_by : (n first end : ℕ) (ends : Flight → Bool) (f : Flight) (fs : List Flight) (b : Bool) → ends f ≡ b →
    (ends f ≡ true → (nat_le first (f.end - 1) && nat_lt (f.end - 1) end) ≡ true) →
    (list_any (nat_eq n) (last_numbers ends fs) ≡ true → (nat_le first n && nat_lt n end) ≡ true) →
    list_any (nat_eq n) (cond b ((f.end - 1) ∷ last_numbers ends fs) (last_numbers ends fs)) ≡ true →
    (nat_le first n && nat_lt n end) ≡ true
last_within_by n first end ends f fs true is within later any =
    elim (or_cases (nat_eq n (f.end - 1)) (list_any (nat_eq n) (last_numbers ends fs)) any) [
      | inl here ↦ ap (λ (k : ℕ). nat_le first k && nat_lt k end) (same_number n (f.end - 1) here) ∙ within is
      | inr after ↦ later after
    ]
last_within_by n first end ends f fs false is within later any = later any

pub last_within : (n first end : ℕ) (ends : Flight → Bool) (fs : List Flight) → list_all asks_some fs ≡ true →
    ((f : Flight) → asks_some f ≡ true → ends f ≡ true → (nat_le first (f.end - 1) && nat_lt (f.end - 1) end) ≡ true) →
    list_any (nat_eq n) (last_numbers ends fs) ≡ true → (nat_le first n && nat_lt n end) ≡ true
last_within n first end ends [] some within any = absurd (true_is_false (sym any))
last_within n first end ends (f ∷ fs) some within any =
    last_within_by n first end ends f fs (ends f) refl (within f (all_first asks_some f fs some))
    (last_within n first end ends fs (all_rest asks_some f fs some) within) any

pub response_brings : (now first end : ℕ) (f : Flight) → asks_some f ≡ true → ends_request now first end f ≡ true →
    (nat_le first (f.end - 1) && nat_lt (f.end - 1) end) ≡ true
response_brings now first end f some ends = grind (arith, nat_tests, some, ends)

pub arrival_brings : (now first end : ℕ) (f : Flight) → asks_some f ≡ true → ends_arrived now first end f ≡ true →
    (nat_le first (f.end - 1) && nat_lt (f.end - 1) end) ≡ true
arrival_brings now first end f some ends = grind (arith, nat_tests, some, ends)

-- The requests of a pacer have numbers, and no number is in two that are in flight.
pub record IsClear (p : Pacer) : Type 0 where
  pub apart : AreDisjoint p.state.now p.flights.items
  pub some : list_all asks_some p.flights.items ≡ true

pub clear_like : (old new : Pacer) → new.state.now ≡ old.state.now → new.flights.items ≡ old.flights.items →
    IsClear old → IsClear new
clear_like old new time same clear = record {
  apart = subst (λ (n : ℕ). AreDisjoint n new.flights.items) (sym time)
      (subst (AreDisjoint old.state.now) (sym same) clear.apart);
  some = ap (list_all asks_some) same ∙ clear.some;
}

pub clear_later : (old new : Pacer) → old.state.now ≤ new.state.now → new.flights.items ≡ old.flights.items →
    IsClear old → IsClear new
clear_later old new time same clear = record {
  apart = disjoint_later old.state.now new.state.now new.flights.items time
      (subst (AreDisjoint old.state.now) (sym same) clear.apart);
  some = ap (list_all asks_some) same ∙ clear.some;
}

pub clear_mapped : (old new : Pacer) (ends : Flight → Bool) (change : Flight → Flight) →
    IsEnding old.state.now ends change → new.state.now ≡ old.state.now →
    new.flights.items ≡ map change old.flights.items → IsClear old → IsClear new
clear_mapped old new ends change ending time same clear = record {
  apart = subst (λ (n : ℕ). AreDisjoint n new.flights.items) (sym time)
      (subst (AreDisjoint old.state.now) (sym same) (disjoint_map old.state.now ends change old.flights.items ending clear.apart));
  some = ap (list_all asks_some) same
      ∙ all_map asks_some asks_some change old.flights.items ending.asks clear.some;
}

pub clear_asked : (old new : Pacer) (gaps : List Gap) (ask : Ask) → HasAsked old new gaps ask →
    new.state.now ≡ old.state.now → IsClear old → IsClear new
clear_asked old new gaps ask asked time clear =
    let fs = old.flights.items in
    let now = old.state.now in
    let sent = flight_for old.options now (last_request old ask.first) ask in
    let left = without asked.leaves fs in
    let here : asks_some sent ≡ true = grind (arith, nat_tests, asked.asks.some) in
    record {
      apart = subst (λ (n : ℕ). AreDisjoint n new.flights.items) (sym time)
          (subst (AreDisjoint now) (sym asked.flights)
          (disjoint_placed now sent left
          (λ n is.
          let low : ask.first ≤ n = grind (arith, nat_tests, is) in
          let high : n < ask.end = grind (arith, nat_tests, is) in
          implies_false (in_flight now n left) (in_flight now n fs) (any_of_without (covers now n) asked.leaves fs)
          (asked.asks.free n low high))
          (disjoint_without now asked.leaves fs clear.apart)));
      some = ap (list_all asks_some) asked.flights
          ∙ all_placed asks_some sent left here (all_without asks_some asked.leaves fs clear.some);
    }

-- What a step pays with numbers.
pub record IsPaid (old new : Pacer) (step : Step) (ask : Option Ask) : Type 0 where
  pub numbers : List ℕ
  pub distinct : AreDistinct numbers
  pub came : (n : ℕ) → list_any (nat_eq n) numbers ≡ true →
      (comes n step ≡ true) × (in_flight old.state.now n old.flights.items ≡ true)
  pub free : (n : ℕ) → list_any (nat_eq n) numbers ≡ true → in_flight new.state.now n new.flights.items ≡ false
  pub few : count_asks (ask ∷ []) + count_in_flight old.state.now old.flights.items
      ≤ length numbers + count_run_out old step + count_in_flight new.state.now new.flights.items

pub paid_nothing : (old new : Pacer) (step : Step) (ask : Option Ask) →
    count_asks (ask ∷ []) + count_in_flight old.state.now old.flights.items
    ≤ count_run_out old step + count_in_flight new.state.now new.flights.items → IsPaid old new step ask
paid_nothing old new step ask few = record {
  numbers = [];
  distinct = tt;
  came = λ n any. absurd (true_is_false (sym any));
  free = λ n any. absurd (true_is_false (sym any));
  few = omega (arith, few);
}

pub paid_ended : (old new : Pacer) (step : Step) (ends : Flight → Bool) (change : Flight → Flight) (came : Gap) →
    IsEnding old.state.now ends change → new.state.now ≡ old.state.now →
    new.flights.items ≡ map change old.flights.items → IsClear old → ((n : ℕ) → comes n step ≡ has n came) →
    count_run_out old step ≡ 0 →
    ((f : Flight) → asks_some f ≡ true → ends f ≡ true → has (f.end - 1) came ≡ true) → IsPaid old new step None
paid_ended old new step ends change came ending time same clear brings none within =
    let fs = old.flights.items in
    let now = old.state.now in
    record {
      numbers = last_numbers ends fs;
      distinct = last_distinct now ends change fs ending clear.some clear.apart;
      came = λ n any. (
        brings n ∙ last_within n came.first came.end ends fs clear.some within any,
        last_busy now n ends change fs ending clear.some any,
      );
      free = λ n any.
          ap (λ (m : ℕ). in_flight m n new.flights.items) time ∙ ap (in_flight now n) same
          ∙ last_free now n ends change fs ending clear.some clear.apart any;
      few = omega (
        arith,
        none,
        count_ended now ends change fs ending,
        same_count now new.state.now (map change fs) new.flights.items time same,
      );
    }

pub takes_paid : (old new : Pacer) (step : Step) (ask : Option Ask) → Takes old new step ask → IsClear old →
    IsPaid old new step ask
takes_paid old new (Advance time known) (Some ask) takes clear = absurd (some_is_none ask takes.none)
takes_paid old new (Advance time known) None takes clear =
    paid_nothing old new (Advance time known) None (omega (
      arith,
      count_out old.state.now (max old.state.now time) old.flights.items,
      same_count (max old.state.now time) new.state.now old.flights.items new.flights.items
          (takes_time old new (Advance time known) None takes) takes.table,
    ))
takes_paid old new (Adapt patience) (Some ask) takes clear = absurd (some_is_none ask takes.none)
takes_paid old new (Adapt patience) None takes clear =
    paid_nothing old new (Adapt patience) None (omega (
      arith,
      same_count old.state.now new.state.now old.flights.items new.flights.items
          (takes_time old new (Adapt patience) None takes) takes.table,
    ))
takes_paid old new (Poll gaps) None takes clear =
    paid_nothing old new (Poll gaps) None (omega (
      arith,
      same_count old.state.now new.state.now old.flights.items new.flights.items
          (takes_time old new (Poll gaps) None takes) takes.flights,
    ))
takes_paid old new (Poll gaps) (Some ask) takes clear =
    let fs = old.flights.items in
    let now = old.state.now in
    let before = last_request old ask.first in
    let sent = flight_for old.options now before ask in
    paid_nothing old new (Poll gaps) (Some ask) (omega (
      arith,
      same_count now new.state.now (placed sent (without takes.leaves fs)) new.flights.items
          (takes_time old new (Poll gaps) (Some ask) takes) takes.flights,
      count_placed (λ f. nat_lt now f.until) sent (without takes.leaves fs)
          (sent_flies old.options now before ask old.options.waits.0),
      count_left fs old.options.places now takes.leaves takes.place.can,
    ))
takes_paid old new (Respond server came) (Some ask) takes clear = absurd (some_is_none ask takes.none)
takes_paid old new (Respond server came) None takes clear =
    paid_ended old new (Respond server came) (ends_request old.state.now came.first came.end)
    (after_response old.options.settle old.state.now came.first came.end) came
    (response_ending old.options.settle old.state.now came.first came.end old.options.settles)
    (takes_time old new (Respond server came) None takes) takes.table clear (λ n. refl) refl
    (response_brings old.state.now came.first came.end)
takes_paid old new (Arrive came) (Some ask) takes clear = absurd (some_is_none ask takes.none)
takes_paid old new (Arrive came) None takes clear =
    paid_ended old new (Arrive came) (ends_arrived old.state.now came.first came.end)
    (after_arrival old.state.now came.first came.end) came (arrival_ending old.state.now came.first came.end)
    (takes_time old new (Arrive came) None takes) takes.table clear (λ n. refl) refl
    (arrival_brings old.state.now came.first came.end)

pub takes_clear : (old new : Pacer) (step : Step) (ask : Option Ask) → Takes old new step ask → IsClear old → IsClear new
takes_clear old new (Advance time known) ask takes clear =
    clear_later old new (omega (arith, takes_time old new (Advance time known) ask takes)) takes.table clear
takes_clear old new (Adapt patience) ask takes clear =
    clear_like old new (takes_time old new (Adapt patience) ask takes) takes.table clear
takes_clear old new (Poll gaps) None takes clear =
    clear_like old new (takes_time old new (Poll gaps) None takes) takes.flights clear
takes_clear old new (Poll gaps) (Some ask) takes clear =
    clear_asked old new gaps.now ask takes (takes_time old new (Poll gaps) (Some ask) takes) clear
takes_clear old new (Respond server came) ask takes clear =
    clear_mapped old new (ends_request old.state.now came.first came.end)
    (after_response old.options.settle old.state.now came.first came.end)
    (response_ending old.options.settle old.state.now came.first came.end old.options.settles)
    (takes_time old new (Respond server came) ask takes) takes.table clear
takes_clear old new (Arrive came) ask takes clear =
    clear_mapped old new (ends_arrived old.state.now came.first came.end)
    (after_arrival old.state.now came.first came.end) (arrival_ending old.state.now came.first came.end)
    (takes_time old new (Arrive came) ask takes) takes.table clear

-- A number that is not in flight, and in no gap, never is.
pub end_for_less : (end : ℕ) (before : Option Flight) → end_for end before ≤ end
end_for_less end None = omega arith
end_for_less end (Some f) = elim (nat_lt 0 f.attempts) as (λ b. cond b (min end f.end) end ≤ end)
    [ true ↦ omega arith | false ↦ omega arith ]

pub asked_in_gap : (old new : Pacer) (gaps : List Gap) (ask : Ask) (n : ℕ) → HasAsked old new gaps ask →
    ask.first ≤ n → n < ask.end → list_any (has n) gaps ≡ true
asked_in_gap old new gaps ask n asked low high =
    let first : asked.least.gap.first ≤ n = omega (arith, low, asked.least.low) in
    let end : n < asked.least.gap.end =
    omega (arith, high, asked.asks.high, end_for_less asked.limit (last_request old ask.first), asked.least.ends) in
    any_at (has n) gaps asked.least.index asked.least.gap asked.least.there
    (let there : has n asked.least.gap ≡ true = grind (arith, nat_tests, first, end) in there)

pub asked_elsewhere : (old new : Pacer) (gaps : List Gap) (ask : Ask) (n : ℕ) → HasAsked old new gaps ask →
    list_any (has n) gaps ≡ false →
    covers old.state.now n (flight_for old.options old.state.now (last_request old ask.first) ask) ≡ false
asked_elsewhere old new gaps ask n asked off =
    not_true (covers old.state.now n (flight_for old.options old.state.now (last_request old ask.first) ask)) (λ is.
    let low : ask.first ≤ n = grind (arith, nat_tests, is) in
    let high : n < ask.end = grind (arith, nat_tests, is) in
    true_is_false (sym (asked_in_gap old new gaps ask n asked low high) ∙ off))

pub same_flight : (n now later : ℕ) (fs gs : List Flight) → later ≡ now → gs ≡ fs → in_flight now n fs ≡ false →
    in_flight later n gs ≡ false
same_flight n now later fs gs time is off =
    ap (λ (m : ℕ). in_flight m n gs) time ∙ ap (in_flight now n) is ∙ off

pub free_mapped : (n : ℕ) (old new : Pacer) (ends : Flight → Bool) (change : Flight → Flight) →
    IsEnding old.state.now ends change → new.state.now ≡ old.state.now →
    new.flights.items ≡ map change old.flights.items → in_flight old.state.now n old.flights.items ≡ false →
    in_flight new.state.now n new.flights.items ≡ false
free_mapped n old new ends change ending time same off =
    same_flight n old.state.now new.state.now (map change old.flights.items) new.flights.items time same
    (implies_false (in_flight old.state.now n (map change old.flights.items))
    (in_flight old.state.now n old.flights.items)
    (any_of_map (covers old.state.now n) (covers old.state.now n) change old.flights.items (ending.less n)) off)

pub stays_free : (n : ℕ) (old new : Pacer) (step : Step) (ask : Option Ask) (steps : List Step) →
    Takes old new step ask → in_flight old.state.now n old.flights.items ≡ false → IsNeverMissing n (step ∷ steps) →
    (in_flight new.state.now n new.flights.items ≡ false) × IsNeverMissing n steps
stays_free n old new (Advance time known) ask steps takes off never =
    let now = max old.state.now time in (
      same_flight n now new.state.now old.flights.items new.flights.items
          (takes_time old new (Advance time known) ask takes) takes.table
          (any_less (covers now n) (covers old.state.now n) old.flights.items
          (λ f. covers_earlier old.state.now now n f (omega arith)) off),
      never,
    )
stays_free n old new (Adapt patience) ask steps takes off never = (
  same_flight n old.state.now new.state.now old.flights.items new.flights.items
      (takes_time old new (Adapt patience) ask takes) takes.table off,
  never,
)
stays_free n old new (Poll gaps) None steps takes off never = (
  same_flight n old.state.now new.state.now old.flights.items new.flights.items
      (takes_time old new (Poll gaps) None takes) takes.flights off,
  never.1,
)
stays_free n old new (Poll gaps) (Some ask) steps takes off never =
    let now = old.state.now in
    let sent = flight_for old.options now (last_request old ask.first) ask in
    let left = without takes.leaves old.flights.items in (
      same_flight n now new.state.now (placed sent left) new.flights.items
          (takes_time old new (Poll gaps) (Some ask) takes) takes.flights
          (free_of_both (covers now n) sent left (asked_elsewhere old new gaps.now ask n takes never.0)
          (implies_false (in_flight now n left) (in_flight now n old.flights.items)
          (any_of_without (covers now n) takes.leaves old.flights.items) off)),
      never.1,
    )
stays_free n old new (Respond server came) ask steps takes off never = (
  free_mapped n old new (ends_request old.state.now came.first came.end)
      (after_response old.options.settle old.state.now came.first came.end)
      (response_ending old.options.settle old.state.now came.first came.end old.options.settles)
      (takes_time old new (Respond server came) ask takes) takes.table off,
  never,
)
stays_free n old new (Arrive came) ask steps takes off never = (
  free_mapped n old new (ends_arrived old.state.now came.first came.end)
      (after_arrival old.state.now came.first came.end) (arrival_ending old.state.now came.first came.end)
      (takes_time old new (Arrive came) ask takes) takes.table off,
  never,
)

pub never_comes : (n : ℕ) (old new : Pacer) (steps : List Step) (asks : List (Option Ask))
    (ran : IsRun old new steps asks) → in_flight old.state.now n old.flights.items ≡ false → IsNeverMissing n steps →
    ComesInFlight n old new steps asks ran → ⊥
never_comes n old new [] [] ran off never came = came
never_comes n old new [] (ask ∷ asks) ran off never came = came
never_comes n old new (step ∷ steps) [] ran off never came = came
never_comes n old new (step ∷ steps) (ask ∷ asks) ran off never came =
    let stays = stays_free n old ran.0 step ask steps ran.1 off never in
    elim came [
      | inl here ↦ true_is_false (sym here.1 ∙ off)
      | inr later ↦ never_comes n ran.0 new steps asks ran.2 stays.0 stays.1 later
    ]

pub distinct_append : (ns ms : List ℕ) → AreDistinct ns → AreDistinct ms →
    ((n : ℕ) → list_any (nat_eq n) ns ≡ true → list_any (nat_eq n) ms ≡ false) → AreDistinct (ns ++ ms)
distinct_append [] ms here there apart = there
distinct_append (n ∷ ns) ms here there apart =
    let same : nat_eq n n ≡ true = grind (arith, nat_tests) in (
      list_any-append (nat_eq n) ns ms
          ∙ or_none (list_any (nat_eq n) ns) (list_any (nat_eq n) ms) here.0
          (apart n (or_left (nat_eq n n) (list_any (nat_eq n) ns) same)),
      distinct_append ns ms here.1 there
          (λ m any. apart m (or_right (nat_eq m n) (list_any (nat_eq m) ns) any)),
    )

-- The same, with the requests in flight at the beginning.
pub record IsRunPaid (old new : Pacer) (steps : List Step) (asks : List (Option Ask)) (ran : IsRun old new steps asks) :
    Type 0 where
  pub numbers : List ℕ
  pub distinct : AreDistinct numbers
  pub came : (n : ℕ) → list_any (nat_eq n) numbers ≡ true → ComesInFlight n old new steps asks ran
  pub few : count_asks asks + count_in_flight old.state.now old.flights.items
      ≤ length numbers + total_run_out old new steps asks ran + count_in_flight new.state.now new.flights.items

pub run_paid : (old new : Pacer) (steps : List Step) (asks : List (Option Ask)) (ran : IsRun old new steps asks) →
    IsClear old → AreMissingOnce steps → IsRunPaid old new steps asks ran
run_paid old new [] [] ran clear once = record {
  numbers = [];
  distinct = tt;
  came = λ n any. absurd (true_is_false (sym any));
  few = omega (
    arith,
    same_count old.state.now new.state.now old.flights.items new.flights.items (ap (λ (p : Pacer). p.state.now) ran)
        (ap (λ (p : Pacer). p.flights.items) ran),
  );
}
run_paid old new [] (ask ∷ asks) ran clear once = absurd ran
run_paid old new (step ∷ steps) [] ran clear once = absurd ran
run_paid old new (step ∷ steps) (ask ∷ asks) ran clear once =
    let here = takes_paid old ran.0 step ask ran.1 clear in
    let rest = run_paid ran.0 new steps asks ran.2 (takes_clear old ran.0 step ask ran.1 clear) once.1 in
    record {
      numbers = here.numbers ++ rest.numbers;
      distinct = distinct_append here.numbers rest.numbers here.distinct rest.distinct (λ n any.
          not_true (list_any (nat_eq n) rest.numbers) (λ again.
          never_comes n ran.0 new steps asks ran.2 (here.free n any) (once.0 n (here.came n any).0)
          (rest.came n again)));
      came = λ n any.
          elim (or_cases (list_any (nat_eq n) here.numbers) (list_any (nat_eq n) rest.numbers)
          (sym (list_any-append (nat_eq n) here.numbers rest.numbers) ∙ any)) [
            | inl first ↦ inl (here.came n first)
            | inr later ↦ inr (rest.came n later)
          ];
      few = omega (
        arith,
        here.few,
        rest.few,
        length-append here.numbers rest.numbers,
        count_more ask asks 1,
      );
    }

pub frugal : (old new : Pacer) (steps : List Step) (asks : List (Option Ask)) (ran : IsRun old new steps asks) →
    old.flights.items ≡ [] → AreMissingOnce steps → IsFrugal old new steps asks ran
frugal old new steps asks ran empty once =
    let clear : IsClear old = record {
      apart = subst (AreDisjoint old.state.now) (sym empty) tt;
      some = ap (list_all asks_some) empty;
    } in
    let paid = run_paid old new steps asks ran clear once in
    record {
      numbers = paid.numbers;
      distinct = paid.distinct;
      came = paid.came;
      few = omega (arith, paid.few);
    }
