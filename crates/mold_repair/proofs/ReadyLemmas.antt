-- Requests never get stuck, and only what was requested is given up.
use Rattle.std.proofs.Common.{◌≡◌, ℕ, ◌+◌, ◌-◌, ◌<◌, ◌≤◌, ◌&&◌, ◌||◌, Bool, true, false, List, [], ◌∷◌, ◌++◌, max}
use Rattle.std.proofs.Common.{IfSome, MatchOption, Option, None, Some, cond, find, length, nat_le, nat_lt}
use Rattle.std.proofs.Common.{refl, ap, ◌∙◌, sym, subst, arith, inl, inr}
use Rattle.std.proofs.lemmas.Bool.{cases_lt}
use Rattle.std.proofs.lemmas.Bool.Decides.{nat_tests}
use Rattle.std.specs.List.{list_all, list_any}
use Rattle.mold_pacing.specs.Attempts.{count_asks_for}
use Rattle.mold_pacing.specs.Deadline.{CanAsk, can_send}
use Rattle.mold_pacing.specs.Flight.{covers, in_flight, is_over, is_stale}
use Rattle.mold_pacing.specs.Polls.{last_request}
use Rattle.mold_pacing.specs.Repeat.{attempts_of}
use Rattle.mold_pacing.specs.Run.{IsRun, Takes}
use Rattle.mold_pacing.specs.State.{advanced}
use Rattle.mold_pacing.specs.Table.{has_room}
use Rattle.mold_pacing.specs.declared.ask.Ask.{Ask as Sent}
use Rattle.mold_pacing.specs.declared.flight.Flight.{Flight}
use Rattle.mold_pacing.specs.declared.gap.Gap.{Gap}
use Rattle.mold_pacing.specs.declared.options.PacerOptions.{PacerOptions}
use Rattle.mold_pacing.specs.declared.pacer.Pacer.{Pacer}
use Rattle.mold_pacing.specs.declared.state.PacerState.{PacerState}
use Rattle.mold_pacing.specs.declared.step.Step.{Step}
use Rattle.mold_pacing.specs.declared.step.Step.TheVariants.{Advance}
use Rattle.mold_receiver.specs.Arbiter.{Arbitration}
use Rattle.mold_receiver.specs.Batch.{Handed}
use Rattle.mold_receiver.specs.View.{View}
use Rattle.mold_repair.specs.GivingUp.{IsKept, IsLost, is_due}
use Rattle.mold_repair.specs.Laws.{IsPaced, RequestsFirst}
use Rattle.mold_repair.specs.Missing.{IsWanted}
use Rattle.mold_repair.specs.Polls.{HasPolled, HasRequested, IsStill, returned}
use Rattle.mold_repair.specs.Run.{HasLostSome, nothing}
use Rattle.mold_repair.specs.declared.ask.Ask.{Ask}
use Rattle.mold_repair.specs.declared.options.RepairOptions.{RepairOptions}
use Rattle.mold_repair.specs.declared.outcome.Outcome.{Outcome}
use Rattle.mold_repair.specs.declared.repairer.Repairer.{Repairer}
use Rattle.mold_repair.specs.declared.step.RepairStep.{RepairStep}
use Rattle.mold_repair.proofs.GapLemmas.{true_is_false}
use Rattle.mold_repair.proofs.LawLemmas.{run_join}
use Rattle.mold_repair.proofs.PollLemmas.{returned_some}

not_covers : (last time number : ℕ) (f : Flight) → is_over last f ≡ true → last ≤ time → covers time number f ≡ false
not_covers last time number f over later = grind (arith, nat_tests, over, later)

none_flies : (last time number : ℕ) (fs : List Flight) → list_all (is_over last) fs ≡ true → last ≤ time →
    in_flight time number fs ≡ false
none_flies last time number [] all later = refl
none_flies last time number (f ∷ fs) all later =
    let here : is_over last f ≡ true = grind (arith, all) in
    let rest : list_all (is_over last) fs ≡ true = grind (arith, all) in
    grind (arith, not_covers last time number f here later, none_flies last time number fs rest later)

has_place : (places last time : ℕ) (fs : List Flight) → 0 < places → list_all (is_over last) fs ≡ true → last ≤ time →
    has_room places time fs ≡ true
has_place places last time [] some all later =
    let on : nat_lt 0 places ≡ true = grind (arith, nat_tests, some) in
    ap (λ b. b || false) on
has_place places last time (f ∷ fs) some all later =
    let here : is_over last f ≡ true = grind (arith, all) in
    let now : is_over time f ≡ true = grind (arith, nat_tests, here, later) in
    let any : list_any (is_over time) (f ∷ fs) ≡ true = grind (arith, now) in
    elim (nat_lt (length (f ∷ fs)) places) as (λ b. (b || list_any (is_over time) (f ∷ fs)) ≡ true) [
      | true ↦ refl
      | false ↦ any
    ]

-- At this time each number can be requested.
pub can_later : (p : Pacer) (time number : ℕ) → p.state.now + max p.options.ceiling p.options.interval ≤ time →
    CanAsk p time number
can_later p time number later = record {
  opened = omega (arith, p.opens, later);
  free = none_flies (p.state.now + p.options.ceiling) time number p.flights.items p.ends (omega (arith, later));
  room = has_place p.options.places (p.state.now + p.options.ceiling) time p.flights.items p.options.asks.1 p.ends
      (omega (arith, later));
}

pub ready_then : (p : Pacer) (number : ℕ) → CanAsk p (p.state.now + max p.options.ceiling p.options.interval) number
ready_then p number = can_later p (p.state.now + max p.options.ceiling p.options.interval) number (omega arith)

opens_of : (b : Bool) (s t : PacerState) (n : ℕ) → s.opens ≡ n → t.opens ≡ n → (cond b s t).opens ≡ n
opens_of true s t n left right = left
opens_of false s t n left right = right

now_of : (b : Bool) (s t : PacerState) (n : ℕ) → s.now ≡ n → t.now ≡ n → (cond b s t).now ≡ n
now_of true s t n left right = left
now_of false s t n left right = right

advanced_opens : (time known : ℕ) (s : PacerState) → (advanced time known s).opens ≡ s.opens
advanced_opens time known s =
    opens_of (nat_lt (max s.now time - s.marked) s.patience) (record s { now = max s.now time })
    (record s { now = max s.now time; marked = max s.now time; mark = known; ripe = s.mark }) s.opens refl refl

advanced_time : (time known : ℕ) (s : PacerState) → (advanced time known s).now ≡ max s.now time
advanced_time time known s =
    now_of (nat_lt (max s.now time - s.marked) s.patience) (record s { now = max s.now time })
    (record s { now = max s.now time; marked = max s.now time; mark = known; ripe = s.mark }) (max s.now time) refl refl

-- The next mark is later than now.
pub marked_later : (time known : ℕ) (s t : PacerState) → t ≡ advanced time known s → 0 < t.patience →
    t.now < t.marked + t.patience
marked_later time known s t is some =
    let later : 0 < (advanced time known s).patience →
    (advanced time known s).now < (advanced time known s).marked + (advanced time known s).patience =
    elim (nat_lt (max s.now time - s.marked) s.patience) as
    (λ b. nat_lt (max s.now time - s.marked) s.patience ≡ b → 0 < (cond b (record s { now = max s.now time })
    (record s { now = max s.now time; marked = max s.now time; mark = known; ripe = s.mark })).patience
    → (cond b (record s { now = max s.now time })
    (record s { now = max s.now time; marked = max s.now time; mark = known; ripe = s.mark })).now
    < (cond b (record s { now = max s.now time })
    (record s { now = max s.now time; marked = max s.now time; mark = known; ripe = s.mark })).marked
    + (cond b (record s { now = max s.now time })
    (record s { now = max s.now time; marked = max s.now time; mark = known; ripe = s.mark })).patience) [
      | true ↦ λ test has. (let soon : max s.now time - s.marked < s.patience = grind (arith, nat_tests, test) in
          omega (arith, soon))
      | false ↦ λ test has. omega (arith, has)
    ] refl in
    subst (λ (u : PacerState). 0 < u.patience → u.now < u.marked + u.patience) (sym is) later some

-- `is_due` over a table of requests.
abbrev is_due_over : ℕ → View → List Flight → ℕ → Bool
is_due_over give_up v fs time =
    nat_lt 0 give_up && (nat_lt v.next v.known && nat_le give_up (attempts_of (find (is_stale time v.next) fs)))

-- What is known of the pacer when it is polled so late.
record IsReady (options : RepairOptions) (v : View) (p : Pacer) : Type 0 where
  pub wanted : IsWanted v p.state.ripe v.next
  pub kept : is_due options.give_up v p p.state.now ≡ false
  pub free : in_flight p.state.now v.next p.flights.items ≡ false
  pub sends : can_send p ≡ true

sends_of : (opens now tolerance : ℕ) (room : Bool) → opens ≤ now + tolerance → room ≡ true →
    (nat_le opens (now + tolerance) && room) ≡ true
sends_of opens now tolerance room opened has =
    let on : nat_le opens (now + tolerance) ≡ true = grind (arith, nat_tests, opened) in
    grind (arith, on, has)

asks_first : (options : RepairOptions) (v : View) (p q : Pacer) (sent : Option Sent) (result : Option Ask)
    → IsReady options v p → 0 < options.servers
    → MatchOption sent (IsStill options.give_up v p q) (HasRequested options.give_up v p q)
    → result ≡ returned v.session options.servers sent → RequestsFirst v result
asks_first options v p q None result is some still answer =
    elim still.reason [
      | inl due ↦ absurd (true_is_false (sym due ∙ is.kept))
      | inr other ↦ elim other [
        | inl shut ↦ absurd (true_is_false (sym is.sends ∙ shut))
        | inr all ↦ absurd (true_is_false (sym (all v.next is.wanted) ∙ is.free))
      ]
    ]
asks_first options v p q (Some sent) result is some did answer =
    let free = did.asked.least in
    let wants = did.are.wanted free.index free.gap free.there sent.first free.low (omega (arith, free.some, free.ends)) in
    let first : sent.first ≡ v.next =
    elim (cases_lt v.next sent.first) [
      | inl later ↦ absurd (true_is_false (sym (did.least v.next later is.wanted) ∙ is.free))
      | inr not_later ↦ omega (arith, not_later, wants.missing.after)
    ] in
    let given = answer ∙ returned_some v.session options.servers sent (λ none. omega (arith, none, some)) in
    subst (RequestsFirst v) (sym given) first

pub asks_then : (options : RepairOptions) (v : View) (old new : Pacer) (now : ℕ) (result : Option Ask)
    → HasPolled options v old new now result → 0 < options.servers
    → old.state.now + max old.options.ceiling old.options.interval ≤ now
    → IsWanted v (advanced now v.known old.state).ripe v.next → is_due options.give_up v old now ≡ false
    → RequestsFirst v result
asks_then options v old new now result did some late wants kept =
    let p = did.between in
    let state = did.time.becomes in
    let fs = did.time.table in
    let time : p.state.now ≡ now =
    ap (λ (s : PacerState). s.now) state ∙ advanced_time now v.known old.state
    ∙ (let same : max old.state.now now ≡ now = omega (arith, late) in same) in
    let opens = ap (λ (s : PacerState). s.opens) state ∙ advanced_opens now v.known old.state in
    let can = can_later old now v.next late in
    let ready : IsReady options v p = record {
      wanted = subst (λ (s : PacerState). IsWanted v s.ripe v.next) (sym state) wants;
      kept = (λ i. is_due_over options.give_up v (fs i) (time i)) ∙ kept;
      free = (λ i. in_flight (time i) v.next (fs i)) ∙ can.free;
      sends = sends_of p.state.opens p.state.now p.options.tolerance
          (has_room p.options.places p.state.now p.flights.items)
          (omega (arith, opens, time, can.opened, ap (λ (o : PacerOptions). o.tolerance) did.time.options))
          ((λ i. has_room (did.time.options i).places (time i) (fs i)) ∙ can.room);
    } in
    let one = did.some some in
    asks_first options v p new one.sent result ready some one.polled one.answer

-- What was given up was requested as often.
count_none : (number : ℕ) (sent : List (Option Sent)) →
    count_asks_for number (sent ++ None ∷ []) ≡ count_asks_for number sent
count_none number [] = refl
count_none number (None ∷ sent) = count_none number sent
count_none number (Some ask ∷ sent) =
    ap (λ n. cond (nat_le ask.first number && nat_lt number ask.end) (n + 1) n) (count_none number sent)

-- The law of the pacer that is used.
abbrev pub AttemptsLaw : Type 0
AttemptsLaw = (old new : Pacer) (steps : List Step) (asks : List (Option Sent)) (number : ℕ)
    → IsRun old new steps asks → old.flights.items ≡ []
    → attempts_of (last_request new number) ≤ count_asks_for number asks

lost_asked : AttemptsLaw → (start p between q : Pacer) (steps : List Step) (sent : List (Option Sent))
    (give_up time known : ℕ) (old new : Arbitration) (handed : Handed) (lost : Option Gap)
    → start.flights.items ≡ [] → IsRun start p steps sent → Takes p between (Advance time known) None
    → MatchOption lost (IsKept give_up old new nothing handed between q) (IsLost give_up old new nothing handed between q)
    → IfSome lost (λ gap. (number : ℕ) → gap.first ≤ number → number < gap.end → give_up ≤ count_asks_for number sent)
lost_asked law start p between q steps sent give_up time known old new handed None empty ran took kept = tt
lost_asked law start p between q steps sent give_up time known old new handed (Some gap) empty ran took gave =
    λ number low high.
    let more = run_join start p between steps (Advance time known ∷ []) sent (None ∷ []) ran (between, took, refl) in
    let most = law start between (steps ++ Advance time known ∷ []) (sent ++ None ∷ []) number more empty in
    omega (arith, gave.given_up.asked number low high, most, count_none number sent)

pub given_up_asked : AttemptsLaw → (start old new : Repairer) (steps : List RepairStep) (os : List Outcome)
    (is : IsPaced start old steps os) (time : ℕ) (handed : Handed) (o : Outcome) → start.pacer.flights.items ≡ []
    → HasLostSome old new time handed o
    → IfSome o.lost (λ gap. (number : ℕ) → gap.first ≤ number → number < gap.end →
    old.options.give_up ≤ count_asks_for number is.sent)
given_up_asked law start old new steps os is time handed o empty did =
    lost_asked law start.pacer old.pacer did.gave.between new.pacer is.pacer_steps is.sent old.options.give_up time
    old.arbiter.view.known old.arbiter new.arbiter handed o.lost empty is.ran did.gave.time did.gave.gave
