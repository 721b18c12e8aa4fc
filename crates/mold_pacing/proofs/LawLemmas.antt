-- No number is requested twice within the timeout.
use Rattle.std.proofs.Common.{◌≡◌, ◌⊎◌, ℕ, zero, suc, ◌*◌, ◌+◌, ◌-◌, ◌<◌, ◌≤◌, ◌&&◌, ◌||◌, Bool, true, false, List, [], ◌∷◌, Option, None, Some}
use Rattle.std.proofs.Common.{arith, refl, ap, ◌∙◌, sym, subst, cond, max, min, map, nat_le, nat_lt, nat_eq, inl, inr, slice_get}
use Rattle.std.proofs.lemmas.Bool.Decides.{nat_tests}
use Rattle.std.specs.List.{list_any, remove}
use Rattle.std.specs.Option.{IfSome}
use Rattle.mold_pacing.specs.Flight.{covers}
use Rattle.mold_pacing.specs.Laws.{AreApart, HaveNoneInCommon, NoneAsks, count_asks, frees, time_after}
use Rattle.mold_pacing.specs.Most.{is_partial, learned}
use Rattle.mold_pacing.specs.Polls.{HasAsked, ended_request, last_request}
use Rattle.mold_pacing.specs.Repeat.{flight_for, pause_for}
use Rattle.mold_pacing.specs.Responses.{after_arrival, after_response, has_come, is_response_to}
use Rattle.mold_pacing.specs.Run.{IsRun, Takes}
use Rattle.mold_pacing.specs.State.{advanced, responded}
use Rattle.mold_pacing.specs.Table.{CanLeave, placed, without}
use Rattle.mold_pacing.specs.declared.ask.Ask.{Ask}
use Rattle.mold_pacing.specs.declared.flight.Flight.{Flight}
use Rattle.mold_pacing.specs.declared.gap.Gap.{Gap}
use Rattle.mold_pacing.specs.declared.options.PacerOptions.{PacerOptions}
use Rattle.mold_pacing.specs.declared.pacer.Pacer.{Pacer}
use Rattle.mold_pacing.specs.declared.state.PacerState.{PacerState}
use Rattle.mold_pacing.specs.declared.step.Step.{Step}
use Rattle.mold_pacing.specs.declared.step.Step.TheVariants.{Advance, Adapt, Poll, Respond, Arrive}

-- Whether the record is that of the request `ask`, and in flight until `until` at least.
abbrev pub holds : Ask → ℕ → Flight → Bool
holds ask until f = nat_eq f.first ask.first && (nat_eq f.end ask.end && nat_le until f.until)

-- Whether the table has such a record.
abbrev pub held : Ask → ℕ → List Flight → Bool
held ask until fs = list_any (holds ask until) fs

pub or_cases : (a b : Bool) → (a || b) ≡ true → (a ≡ true) ⊎ (b ≡ true)
or_cases true b holds = inl refl
or_cases false b holds = inr holds

pub or_left : (a b : Bool) → a ≡ true → (a || b) ≡ true
or_left a b is = ap (λ (x : Bool). x || b) is

pub or_right : (a b : Bool) → b ≡ true → (a || b) ≡ true
or_right true b is = refl
or_right false b is = is

pub any_implies : (p q : Flight → Bool) (fs : List Flight) → ((f : Flight) → p f ≡ true → q f ≡ true) →
    list_any p fs ≡ true → list_any q fs ≡ true
any_implies p q [] implies any = any
any_implies p q (f ∷ fs) implies any =
    elim (or_cases (p f) (list_any p fs) any) [
      | inl here ↦ or_left (q f) (list_any q fs) (implies f here)
      | inr later ↦ or_right (q f) (list_any q fs) (any_implies p q fs implies later)
    ]

pub any_map : (p : Flight → Bool) (change : Flight → Flight) (fs : List Flight) →
    ((f : Flight) → p f ≡ true → p (change f) ≡ true) → list_any p fs ≡ true → list_any p (map change fs) ≡ true
any_map p change [] keeps any = any
any_map p change (f ∷ fs) keeps any =
    elim (or_cases (p f) (list_any p fs) any) [
      | inl here ↦ or_left (p (change f)) (list_any p (map change fs)) (keeps f here)
      | inr later ↦ or_right (p (change f)) (list_any p (map change fs)) (any_map p change fs keeps later)
    ]

pub any_placed_self : (p : Flight → Bool) (sent : Flight) (fs : List Flight) → p sent ≡ true →
    list_any p (placed sent fs) ≡ true
any_placed_self p sent [] is = or_left (p sent) false is
any_placed_self p sent (f ∷ fs) is =
    elim (nat_le sent.first f.first) as (λ b. list_any p (cond b (sent ∷ f ∷ fs) (f ∷ placed sent fs)) ≡ true) [
      | true ↦ or_left (p sent) (p f || list_any p fs) is
      | false ↦ or_right (p f) (list_any p (placed sent fs)) (any_placed_self p sent fs is)
    ]

pub any_placed : (p : Flight → Bool) (sent : Flight) (fs : List Flight) → list_any p fs ≡ true →
    list_any p (placed sent fs) ≡ true
any_placed p sent [] any = or_right (p sent) false any
any_placed p sent (f ∷ fs) any =
    elim (nat_le sent.first f.first) as (λ b. list_any p (cond b (sent ∷ f ∷ fs) (f ∷ placed sent fs)) ≡ true) [
      | true ↦ or_right (p sent) (p f || list_any p fs) any
      | false ↦ elim (or_cases (p f) (list_any p fs) any) [
        | inl here ↦ or_left (p f) (list_any p (placed sent fs)) here
        | inr later ↦ or_right (p f) (list_any p (placed sent fs)) (any_placed p sent fs later)
      ]
    ]

pub or_false : (a b : Bool) → a ≡ false → (a || b) ≡ true → b ≡ true
or_false a b off any = sym (ap (λ (x : Bool). x || b) off) ∙ any

pub any_removed : (p : Flight → Bool) (fs : List Flight) (index : ℕ) (f : Flight) → slice_get fs index ≡ Some f →
    p f ≡ false → list_any p fs ≡ true → list_any p (remove fs index) ≡ true
any_removed p [] index f there off any = cc
any_removed p (g ∷ gs) zero f there off any =
    let is : g ≡ f = grind (arith, there) in
    or_false (p g) (list_any p gs) (ap p is ∙ off) any
any_removed p (g ∷ gs) (suc index) f there off any =
    elim (or_cases (p g) (list_any p gs) any) [
      | inl here ↦ or_left (p g) (list_any p (remove gs index)) here
      | inr later ↦ or_right (p g) (list_any p (remove gs index)) (any_removed p gs index f there off later)
    ]

pub pause_least : (options : PacerOptions) (before : Option Flight) → options.timeout ≤ pause_for options before
pause_least options None = omega arith
pause_least options (Some f) = omega arith

pub holds_sent : (options : PacerOptions) (now : ℕ) (before : Option Flight) (ask : Ask) →
    holds ask (now + options.timeout) (flight_for options now before ask) ≡ true
holds_sent options now before ask =
    let long : now + options.timeout ≤ now + pause_for options before = omega (arith, pause_least options before) in
    grind (arith, nat_tests, long)

pub held_sent : (old new : Pacer) (gaps : List Gap) (ask : Ask) → HasAsked old new gaps ask →
    held ask (old.state.now + old.options.timeout) new.flights.items ≡ true
held_sent old new gaps ask asked =
    let before = last_request old ask.first in
    let until = old.state.now + old.options.timeout in
    ap (held ask until) asked.flights
    ∙ any_placed_self (holds ask until) (flight_for old.options old.state.now before ask)
    (without asked.leaves old.flights.items) (holds_sent old.options old.state.now before ask)

pub not_held : (ask : Ask) (now until : ℕ) (f : Flight) → f.until ≤ now → now < until → holds ask until f ≡ false
not_held ask now until f over before = grind (arith, nat_tests, over, before)

pub held_left : (ask : Ask) (fs : List Flight) (places now until : ℕ) (leaves : Option ℕ) →
    CanLeave fs places now leaves → now < until → held ask until fs ≡ true → held ask until (without leaves fs) ≡ true
held_left ask fs places now until None can before any = any
held_left ask fs places now until (Some index) can before any =
    any_removed (holds ask until) fs index can.flight can.there (not_held ask now until can.flight can.over before) any

pub covers_held : (ask : Ask) (now until number : ℕ) (f : Flight) → now < until → ask.first ≤ number →
    number < ask.end → holds ask until f ≡ true → covers now number f ≡ true
covers_held ask now until number f before low high is = grind (arith, nat_tests, before, low, high, is)

pub held_clear : (a b : Ask) (until : ℕ) (old new : Pacer) (gaps : List Gap) → HasAsked old new gaps b →
    old.state.now < until → held a until old.flights.items ≡ true → HaveNoneInCommon a b
held_clear a b until old new gaps asked before any n low high from to =
    let busy = any_implies (holds a until) (covers old.state.now n) old.flights.items
    (λ f is. covers_held a old.state.now until n f before low high is) any in
    let free = asked.asks.free n from to in
    let same : true ≡ false = sym busy ∙ free in
    cc

pub keeps_response : (ask : Ask) (until settle now first end : ℕ) (f : Flight) →
    (nat_lt ask.first end && nat_lt first ask.end) ≡ false → holds ask until f ≡ true →
    holds ask until (after_response settle now first end f) ≡ true
keeps_response ask until settle now first end f off is =
    let other : is_response_to now first end f ≡ false = grind (arith, nat_tests, off, is) in
    ap (λ (b : Bool). holds ask until (cond b (record f {
      until = cond (nat_le f.end end) now (min f.until (now + settle));
      pause = 0;
      attempts = 0;
      reached = max f.reached end;
    }) f)) other ∙ is

pub keeps_arrival : (ask : Ask) (until now first end : ℕ) (f : Flight) →
    (nat_le first ask.first && nat_le ask.end end) ≡ false → holds ask until f ≡ true →
    holds ask until (after_arrival now first end f) ≡ true
keeps_arrival ask until now first end f off is =
    let other : has_come first end f ≡ false = grind (arith, nat_tests, off, is) in
    ap (λ (b : Bool). holds ask until (cond b (record f { until = min f.until now }) f)) other ∙ is

-- A request that no step frees stays in the table until its time has passed.
pub held_takes : (a : Ask) (until : ℕ) (old new : Pacer) (step : Step) (ask : Option Ask) → Takes old new step ask →
    frees a step ≡ false → old.state.now < until → held a until old.flights.items ≡ true →
    held a until new.flights.items ≡ true
held_takes a until old new (Advance time known) ask takes off before any = ap (held a until) takes.table ∙ any
held_takes a until old new (Adapt patience) ask takes off before any = ap (held a until) takes.table ∙ any
held_takes a until old new (Poll gaps) None takes off before any = ap (held a until) takes.flights ∙ any
held_takes a until old new (Poll gaps) (Some ask) takes off before any =
    ap (held a until) takes.flights
    ∙ any_placed (holds a until) (flight_for old.options old.state.now (last_request old ask.first) ask)
    (without takes.leaves old.flights.items)
    (held_left a old.flights.items old.options.places old.state.now until takes.leaves takes.place.can before any)
held_takes a until old new (Respond server came) ask takes off before any =
    ap (held a until) takes.table
    ∙ any_map (holds a until) (after_response old.options.settle old.state.now came.first came.end) old.flights.items
    (λ f is. keeps_response a until old.options.settle old.state.now came.first came.end f off is) any
held_takes a until old new (Arrive came) ask takes off before any =
    ap (held a until) takes.table
    ∙ any_map (holds a until) (after_arrival old.state.now came.first came.end) old.flights.items
    (λ f is. keeps_arrival a until old.state.now came.first came.end f off is) any

pub some_is_none : (b : Ask) → Some b ≡ None → ⊥
some_is_none b is = cc

pub takes_clear : (a : Ask) (until : ℕ) (old new : Pacer) (step : Step) (ask : Option Ask) → Takes old new step ask →
    old.state.now < until → held a until old.flights.items ≡ true → IfSome ask (HaveNoneInCommon a)
takes_clear a until old new step None takes before any = tt
takes_clear a until old new (Advance time known) (Some b) takes before any = absurd (some_is_none b takes.none)
takes_clear a until old new (Adapt patience) (Some b) takes before any = absurd (some_is_none b takes.none)
takes_clear a until old new (Poll gaps) (Some b) takes before any = held_clear a b until old new gaps.now takes before any
takes_clear a until old new (Respond server came) (Some b) takes before any = absurd (some_is_none b takes.none)
takes_clear a until old new (Arrive came) (Some b) takes before any = absurd (some_is_none b takes.none)

pub advanced_now : (time known : ℕ) (s : PacerState) → (advanced time known s).now ≡ max s.now time
advanced_now time known s = elim (nat_lt (max s.now time - s.marked) s.patience) as (λ b. (cond {A = PacerState} b
    (record s { now = max s.now time })
    (record s { now = max s.now time; marked = max s.now time; mark = known; ripe = s.mark })).now
    ≡ max s.now time) [ true ↦ refl | false ↦ refl ]

pub advanced_opens : (time known : ℕ) (s : PacerState) → (advanced time known s).opens ≡ s.opens
advanced_opens time known s = elim (nat_lt (max s.now time - s.marked) s.patience) as (λ b. (cond {A = PacerState} b
    (record s { now = max s.now time })
    (record s { now = max s.now time; marked = max s.now time; mark = known; ripe = s.mark })).opens
    ≡ s.opens) [ true ↦ refl | false ↦ refl ]

pub advanced_most : (time known : ℕ) (s : PacerState) → (advanced time known s).most ≡ s.most
advanced_most time known s = elim (nat_lt (max s.now time - s.marked) s.patience) as (λ b. (cond {A = PacerState} b
    (record s { now = max s.now time })
    (record s { now = max s.now time; marked = max s.now time; mark = known; ripe = s.mark })).most
    ≡ s.most) [ true ↦ refl | false ↦ refl ]

pub learned_now : (options : PacerOptions) (before : Option Flight) (s : PacerState) →
    (learned options before s).now ≡ s.now
learned_now options None s = refl
learned_now options (Some f) s = elim (is_partial f) as (λ b. (cond {A = PacerState} b
    (record s { most = min (f.reached - f.first) options.most; full = 0 }) s).now ≡ s.now) [ true ↦ refl | false ↦ refl ]

pub learned_marked : (options : PacerOptions) (before : Option Flight) (s : PacerState) →
    (learned options before s).marked ≡ s.marked
learned_marked options None s = refl
learned_marked options (Some f) s = elim (is_partial f) as (λ b. (cond {A = PacerState} b
    (record s { most = min (f.reached - f.first) options.most; full = 0 }) s).marked ≡ s.marked)
    [ true ↦ refl | false ↦ refl ]

pub learned_opens : (options : PacerOptions) (before : Option Flight) (s : PacerState) →
    (learned options before s).opens ≡ s.opens
learned_opens options None s = refl
learned_opens options (Some f) s = elim (is_partial f) as (λ b. (cond {A = PacerState} b
    (record s { most = min (f.reached - f.first) options.most; full = 0 }) s).opens ≡ s.opens)
    [ true ↦ refl | false ↦ refl ]

pub learned_most_by : (options : PacerOptions) (f : Flight) (s : PacerState) (partial : Bool) → is_partial f ≡ partial →
    0 < options.most → 0 < s.most → s.most ≤ options.most →
    (0 < (cond {A = PacerState} partial (record s { most = min (f.reached - f.first) options.most; full = 0 }) s).most)
    × ((cond {A = PacerState} partial (record s { most = min (f.reached - f.first) options.most; full = 0 }) s).most
    ≤ options.most)
learned_most_by options f s true is some here few =
    let beyond : f.first < f.reached = grind (arith, nat_tests, is) in (omega (arith, beyond, some), omega arith)
learned_most_by options f s false is some here few = (here, few)

pub learned_most : (options : PacerOptions) (before : Option Flight) (s : PacerState) → 0 < options.most → 0 < s.most →
    s.most ≤ options.most → (0 < (learned options before s).most) × ((learned options before s).most ≤ options.most)
learned_most options None s some here few = (here, few)
learned_most options (Some f) s some here few = learned_most_by options f s (is_partial f) refl some here few

pub responded_now : (options : PacerOptions) (server : ℕ) (ended : Option Flight) (s : PacerState) →
    (responded options server ended s).now ≡ s.now
responded_now options server None s = refl
responded_now options server (Some f) s = refl

pub responded_opens : (options : PacerOptions) (server : ℕ) (ended : Option Flight) (s : PacerState) →
    (responded options server ended s).opens ≡ s.opens
responded_opens options server None s = refl
responded_opens options server (Some f) s = refl

pub responded_most : (options : PacerOptions) (server : ℕ) (ended : Option Flight) (s : PacerState) →
    0 < s.most → s.most ≤ options.most →
    (0 < (responded options server ended s).most) × ((responded options server ended s).most ≤ options.most)
responded_most options server None s some few = (some, few)
responded_most options server (Some f) s some few = (omega (arith, some), omega (arith, few))

pub takes_time : (old new : Pacer) (step : Step) (ask : Option Ask) → Takes old new step ask →
    new.state.now ≡ time_after old.state.now step
takes_time old new (Advance time known) ask takes =
    ap (λ (s : PacerState). s.now) takes.becomes ∙ advanced_now time known old.state
takes_time old new (Adapt patience) ask takes = ap (λ (s : PacerState). s.now) takes.becomes
takes_time old new (Poll gaps) None takes = ap (λ (s : PacerState). s.now) takes.state
takes_time old new (Poll gaps) (Some ask) takes =
    ap (λ (s : PacerState). s.now) takes.state ∙ learned_now old.options (last_request old ask.first) old.state
takes_time old new (Respond server came) ask takes =
    ap (λ (s : PacerState). s.now) takes.becomes
    ∙ responded_now old.options server (ended_request old came.first came.end) old.state
takes_time old new (Arrive came) ask takes = ap (λ (s : PacerState). s.now) takes.becomes

pub takes_options : (old new : Pacer) (step : Step) (ask : Option Ask) → Takes old new step ask →
    new.options ≡ old.options
takes_options old new (Advance time known) ask takes = takes.options
takes_options old new (Adapt patience) ask takes = takes.options
takes_options old new (Poll gaps) None takes = takes.options
takes_options old new (Poll gaps) (Some ask) takes = takes.options
takes_options old new (Respond server came) ask takes = takes.options
takes_options old new (Arrive came) ask takes = takes.options

pub time_grows : (now : ℕ) (step : Step) → now ≤ time_after now step
time_grows now (Advance time known) = omega arith
time_grows now (Adapt patience) = omega arith
time_grows now (Poll gaps) = omega arith
time_grows now (Respond server came) = omega arith
time_grows now (Arrive came) = omega arith

pub none_asks : (a : Ask) (until : ℕ) (old new : Pacer) (steps : List Step) (asks : List (Option Ask)) →
    IsRun old new steps asks → (old.state.now < until → held a until old.flights.items ≡ true) →
    NoneAsks a until old.state.now steps asks
none_asks a until old new [] asks ran any = tt
none_asks a until old new (step ∷ steps) [] ran any = tt
none_asks a until old new (step ∷ steps) (ask ∷ asks) ran any =
    let next = ran.0 in
    let time = takes_time old next step ask ran.1 in
    let From : ℕ → Type 0 = λ n. NoneAsks a until n steps asks in (
      λ before. takes_clear a until old next step ask ran.1 before (any before),
      λ off. subst From time (none_asks a until next new steps asks ran.2
          (λ later. let before : old.state.now < until = omega (arith, later, time, time_grows old.state.now step) in
          held_takes a until old next step ask ran.1 off before (any before))),
    )

pub first_apart : (old next new : Pacer) (step : Step) (ask : Option Ask) (steps : List Step) (asks : List (Option Ask)) →
    Takes old next step ask → IsRun next new steps asks →
    IfSome ask (λ a. NoneAsks a (old.state.now + old.options.timeout) next.state.now steps asks)
first_apart old next new step None steps asks takes ran = tt
first_apart old next new (Advance time known) (Some a) steps asks takes ran = absurd (some_is_none a takes.none)
first_apart old next new (Adapt patience) (Some a) steps asks takes ran = absurd (some_is_none a takes.none)
first_apart old next new (Poll gaps) (Some a) steps asks takes ran =
    none_asks a (old.state.now + old.options.timeout) next new steps asks ran (λ _. held_sent old next gaps.now a takes)
first_apart old next new (Respond server came) (Some a) steps asks takes ran = absurd (some_is_none a takes.none)
first_apart old next new (Arrive came) (Some a) steps asks takes ran = absurd (some_is_none a takes.none)

pub apart : (old new : Pacer) (steps : List Step) (asks : List (Option Ask)) → IsRun old new steps asks →
    AreApart old.options.timeout old.state.now steps asks
apart old new [] asks ran = tt
apart old new (step ∷ steps) [] ran = tt
apart old new (step ∷ steps) (ask ∷ asks) ran =
    let next = ran.0 in
    let time = takes_time old next step ask ran.1 in
    let options = takes_options old next step ask ran.1 in
    let First : ℕ → Type 0 = λ n. IfSome ask (λ a. NoneAsks a (old.state.now + old.options.timeout) n steps asks) in
    let Rest : ℕ → Type 0 = λ n. AreApart next.options.timeout n steps asks in
    let Options : PacerOptions → Type 0 = λ o. AreApart o.timeout (time_after old.state.now step) steps asks in (
      subst First time (first_apart old next new step ask steps asks ran.1 ran.2),
      subst Options options (subst Rest time (apart next new steps asks ran.2)),
    )

-- What a step adds to the time from which on a request may be sent.
pub takes_limit : (old new : Pacer) (step : Step) (ask : Option Ask) → Takes old new step ask →
    count_asks (ask ∷ []) * old.options.interval + max old.state.opens old.state.now ≤ max new.state.opens new.state.now
takes_limit old new (Advance time known) None takes =
    omega (
      arith,
      ap (λ (s : PacerState). s.now) takes.becomes,
      ap (λ (s : PacerState). s.opens) takes.becomes,
      advanced_now time known old.state,
      advanced_opens time known old.state,
    )
takes_limit old new (Advance time known) (Some ask) takes = absurd (some_is_none ask takes.none)
takes_limit old new (Adapt patience) None takes =
    omega (arith, ap (λ (s : PacerState). s.now) takes.becomes, ap (λ (s : PacerState). s.opens) takes.becomes)
takes_limit old new (Adapt patience) (Some ask) takes = absurd (some_is_none ask takes.none)
takes_limit old new (Poll gaps) None takes =
    omega (arith, ap (λ (s : PacerState). s.now) takes.state, ap (λ (s : PacerState). s.opens) takes.state)
takes_limit old new (Poll gaps) (Some ask) takes =
    omega (
      arith,
      ap (λ (s : PacerState). s.now) takes.state,
      ap (λ (s : PacerState). s.opens) takes.state,
      learned_now old.options (last_request old ask.first) old.state,
      learned_opens old.options (last_request old ask.first) old.state,
    )
takes_limit old new (Respond server came) None takes =
    omega (
      arith,
      ap (λ (s : PacerState). s.now) takes.becomes,
      ap (λ (s : PacerState). s.opens) takes.becomes,
      responded_now old.options server (ended_request old came.first came.end) old.state,
      responded_opens old.options server (ended_request old came.first came.end) old.state,
    )
takes_limit old new (Respond server came) (Some ask) takes = absurd (some_is_none ask takes.none)
takes_limit old new (Arrive came) None takes =
    omega (arith, ap (λ (s : PacerState). s.now) takes.becomes, ap (λ (s : PacerState). s.opens) takes.becomes)
takes_limit old new (Arrive came) (Some ask) takes = absurd (some_is_none ask takes.none)

pub count_more : (ask : Option Ask) (asks : List (Option Ask)) (interval : ℕ) →
    count_asks (ask ∷ asks) * interval ≡ count_asks (ask ∷ []) * interval + count_asks asks * interval
count_more None asks interval = omega arith
count_more (Some ask) asks interval =
    let one : (count_asks asks + 1) * interval ≡ 1 * interval + count_asks asks * interval = grind arith in one

pub run_limit : (old new : Pacer) (steps : List Step) (asks : List (Option Ask)) → IsRun old new steps asks →
    (count_asks asks * old.options.interval + max old.state.opens old.state.now ≤ max new.state.opens new.state.now)
    × (new.options ≡ old.options)
run_limit old new [] [] ran =
    (omega (arith, ap (λ (p : Pacer). p.state.now) ran, ap (λ (p : Pacer). p.state.opens) ran), ap (λ (p : Pacer). p.options) ran)
run_limit old new [] (ask ∷ asks) ran = absurd ran
run_limit old new (step ∷ steps) [] ran = absurd ran
run_limit old new (step ∷ steps) (ask ∷ asks) ran =
    let next = ran.0 in
    let rest = run_limit next new steps asks ran.2 in
    let here = takes_limit old next step ask ran.1 in
    let options = takes_options old next step ask ran.1 in
    let same = ap (λ (o : PacerOptions). count_asks asks * o.interval) options in
    (omega (arith, rest.0, here, same, count_more ask asks old.options.interval), rest.1 ∙ options)

pub run_time : (old new : Pacer) (steps : List Step) (asks : List (Option Ask)) → IsRun old new steps asks →
    old.state.now ≤ new.state.now
run_time old new [] [] ran = omega (arith, ap (λ (p : Pacer). p.state.now) ran)
run_time old new [] (ask ∷ asks) ran = absurd ran
run_time old new (step ∷ steps) [] ran = absurd ran
run_time old new (step ∷ steps) (ask ∷ asks) ran =
    omega (arith, takes_time old ran.0 step ask ran.1, time_grows old.state.now step, run_time ran.0 new steps asks ran.2)

pub limited : (old new : Pacer) (steps : List Step) (asks : List (Option Ask)) → IsRun old new steps asks →
    count_asks asks * old.options.interval ≤ new.state.now - old.state.now + old.options.tolerance + old.options.interval
limited old new steps asks ran =
    let limit = run_limit old new steps asks ran in
    let grows = run_time old new steps asks ran in
    omega (
      arith,
      limit.0,
      grows,
      new.opens,
      ap (λ (o : PacerOptions). o.tolerance) limit.1,
      ap (λ (o : PacerOptions). o.interval) limit.1,
    )
