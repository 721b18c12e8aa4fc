-- A number that came is never reported as missing.
use Rattle.std.proofs.Common.{◌≡◌, ◌⊎◌, ℕ, ◌+◌, ◌<◌, ◌≤◌, max, nat_lt, Bool, true, false, cond}
use Rattle.std.proofs.Common.{List, [], ◌∷◌, ◌++◌, IfOk, MatchOption, OnErr, OnOk, Option, None, Some, Result, Ok, Err}
use Rattle.std.proofs.Common.{ap, ◌∙◌, sym, subst, arith, inl, inr}
use Rattle.std.specs.Prelude.{is_some}
use Rattle.std.proofs.lemmas.Bool.{true≢false}
use Rattle.mold_pacing.specs.Frugal.{AreMissingOnce, IsFrugal, IsNeverMissing, comes, has}
use Rattle.mold_pacing.specs.Run.{IsRun, Takes}
use Rattle.mold_pacing.specs.declared.ask.Ask.{Ask as Sent}
use Rattle.mold_pacing.specs.declared.delays.Delays.{Delays}
use Rattle.mold_pacing.specs.declared.flight.Flight.{Flight}
use Rattle.mold_pacing.specs.declared.gap.Gap.{Gap}
use Rattle.mold_pacing.specs.declared.pacer.Pacer.{Pacer}
use Rattle.mold_pacing.specs.declared.step.Step.{Step}
use Rattle.mold_pacing.specs.declared.step.Step.TheVariants.{Adapt, Advance, Arrive, Poll as PollGaps, Respond}
use Rattle.mold_receiver.specs.Arbiter.{Arbitration, HasArbitrated, arbitrated}
use Rattle.mold_receiver.specs.Batch.{Handed}
use Rattle.mold_receiver.specs.Having.{HasMessage}
use Rattle.mold_receiver.specs.Origin.{line_of}
use Rattle.mold_receiver.specs.Receive.{HasRoomFor, Reception, view_after}
use Rattle.mold_receiver.specs.View.{View, IsWellFormed}
use Rattle.mold_receiver.specs.declared.taken.Taken.{Taken}
use Rattle.mold_repair.specs.Came.{came_below, came_steps, filled_steps, held_from, noted, range, response_steps}
use Rattle.mold_repair.specs.Frugal.{HasRoom, HasRoomForStep, IsFrugalRun}
use Rattle.mold_repair.specs.GivingUp.{IsKept, IsLost}
use Rattle.mold_repair.specs.Laws.{ArePacerSteps, ArePollSteps}
use Rattle.mold_repair.specs.Missing.{IsMissing}
use Rattle.mold_repair.specs.Origin.{receiver_origin}
use Rattle.mold_repair.specs.Run.{HasStepped, IsRepaired, nothing}
use Rattle.mold_repair.specs.Taking.{HasLearned, HasPassed, taken_steps}
use Rattle.mold_repair.specs.Header.{head}
use Rattle.mold_repair.specs.Timing.{adapted_from}
use Rattle.mold_repair.specs.declared.header.Head.{Head}
use Rattle.mold_repair.specs.declared.options.RepairOptions.{RepairOptions}
use Rattle.mold_repair.specs.declared.origin.RepairOrigin.{RepairOrigin}
use Rattle.mold_repair.specs.declared.origin.RepairOrigin.TheVariants.{Line, Server}
use Rattle.mold_repair.specs.declared.outcome.Outcome.{Outcome}
use Rattle.mold_repair.specs.declared.repairer.Repairer.{Repairer}
use Rattle.mold_repair.specs.declared.step.RepairStep.{RepairStep}
use Rattle.mold_repair.specs.declared.step.RepairStep.TheVariants.{Lost, Pass, Poll, Take}
use Rattle.mold_repair.proofs.HeldLemmas.{held_has}
use Rattle.mold_repair.proofs.LawLemmas.{has_paced, paced, paced_lost, paced_none, paced_poll, paced_taken, taken_view}
use Rattle.mold_repair.proofs.PollStepLemmas.{HasPolls, polls_of, within}
use Rattle.mold_repair.proofs.ProgressLemmas.{ReceiverLaws, goes_on}
use Rattle.mold_rule.specs.declared.refusal.Refusal.{Refusal}
use Rattle.mold_wire.specs.Packet.{top_of}
use Rattle.mold_wire.specs.Reading.{reading}
use Rattle.mold_wire.specs.declared.packet.Packet.{Packet}

-- The laws of the receiver that are used.
pub record OnceLaws : Type 0 where
  pub receiver : ReceiverLaws
  pub came : (v : View) (p : Packet) (number : ℕ) → IsWellFormed v → p.sequence ≤ number → number < top_of p →
      number < (view_after v p).next + v.window → HasRoomFor v p → HasMessage (view_after v p) number

-- The number comes in one of the steps.
abbrev ComesIn : ℕ → List Step → Type 0
ComesIn q [] = ⊥
ComesIn q (x ∷ xs) = (comes q x ≡ true) ⊎ ComesIn q xs

-- None of the steps is a poll.
abbrev pub NonePolls : List Step → Type 0
NonePolls [] = Unit {0}
NonePolls (Advance time known ∷ xs) = NonePolls xs
NonePolls (Adapt patience ∷ xs) = NonePolls xs
NonePolls (PollGaps gaps ∷ xs) = ⊥
NonePolls (Respond server came ∷ xs) = NonePolls xs
NonePolls (Arrive came ∷ xs) = NonePolls xs

-- None of the steps is a poll, and the view has each number that comes in them.
pub record IsQuiet (w : View) (xs : List Step) : Type 0 where
  pub none : NonePolls xs
  pub came : (q : ℕ) → ComesIn q xs → HasMessage w q

-- Steps between two views: what the first has is not missing in them, and what comes in them, the second has.
record IsOnce (v w : View) (xs : List Step) : Type 0 where
  fresh : (q : ℕ) → HasMessage v q → IsNeverMissing q xs
  once : AreMissingOnce xs
  came : (q : ℕ) → ComesIn q xs → HasMessage w q

never_none : (q : ℕ) (xs : List Step) → NonePolls xs → IsNeverMissing q xs
never_none q [] none = tt
never_none q (Advance time known ∷ xs) none = never_none q xs none
never_none q (Adapt patience ∷ xs) none = never_none q xs none
never_none q (PollGaps gaps ∷ xs) none = absurd none
never_none q (Respond server came ∷ xs) none = never_none q xs none
never_none q (Arrive came ∷ xs) none = never_none q xs none

once_none : (xs : List Step) → NonePolls xs → AreMissingOnce xs
once_none [] none = tt
once_none (Advance time known ∷ xs) none = (λ q is. never_none q xs none, once_none xs none)
once_none (Adapt patience ∷ xs) none = (λ q is. never_none q xs none, once_none xs none)
once_none (PollGaps gaps ∷ xs) none = absurd none
once_none (Respond server came ∷ xs) none = (λ q is. never_none q xs none, once_none xs none)
once_none (Arrive came ∷ xs) none = (λ q is. never_none q xs none, once_none xs none)

quiet_once : (v w : View) (xs : List Step) → IsQuiet w xs → IsOnce v w xs
quiet_once v w xs quiet = record {
  fresh = λ q has. never_none q xs quiet.none;
  once = once_none xs quiet.none;
  came = quiet.came;
}

pub none_join : (xs ys : List Step) → NonePolls xs → NonePolls ys → NonePolls (xs ++ ys)
none_join [] ys first then = then
none_join (Advance time known ∷ xs) ys first then = none_join xs ys first then
none_join (Adapt patience ∷ xs) ys first then = none_join xs ys first then
none_join (PollGaps gaps ∷ xs) ys first then = absurd first
none_join (Respond server came ∷ xs) ys first then = none_join xs ys first then
none_join (Arrive came ∷ xs) ys first then = none_join xs ys first then

comes_join : (q : ℕ) (xs ys : List Step) → ComesIn q (xs ++ ys) → ComesIn q xs ⊎ ComesIn q ys
comes_join q [] ys is = inr is
comes_join q (x ∷ xs) ys (inl is) = inl (inl is)
comes_join q (x ∷ xs) ys (inr is) =
    elim (comes_join q xs ys is) [
      | inl first ↦ inl (inr first)
      | inr then ↦ inr then
    ]

quiet_nil : (w : View) → IsQuiet w []
quiet_nil w = record { none = tt; came = λ q is. absurd is }

quiet_join : (w : View) (xs ys : List Step) → IsQuiet w xs → IsQuiet w ys → IsQuiet w (xs ++ ys)
quiet_join w xs ys first then = record {
  none = none_join xs ys first.none then.none;
  came = λ q is.
      elim (comes_join q xs ys is) [
        | inl one ↦ first.came q one
        | inr other ↦ then.came q other
      ];
}

pub quiet_if : (w : View) (b : Bool) (xs : List Step) → IsQuiet w xs → IsQuiet w (cond b xs [])
quiet_if w true xs quiet = quiet
quiet_if w false xs quiet = quiet_nil w

false_true : {A : Type 0} → false ≡ true → A
false_true e = absurd (true≢false (sym e))

quiet_advance : (w : View) (time known : ℕ) (xs : List Step) → IsQuiet w xs → IsQuiet w (Advance time known ∷ xs)
quiet_advance w time known xs quiet = record {
  none = quiet.none;
  came = λ q is. elim is [
    | inl here ↦ false_true here
    | inr there ↦ quiet.came q there
  ];
}

quiet_adapt : (w : View) (patience : ℕ) → IsQuiet w (Adapt patience ∷ [])
quiet_adapt w patience = record {
  none = tt;
  came = λ q is. elim is [
    | inl here ↦ false_true here
    | inr there ↦ absurd there
  ];
}

quiet_arrive : (w : View) (g : Gap) → ((q : ℕ) → g.first ≤ q → q < g.end → HasMessage w q) → IsQuiet w (Arrive g ∷ [])
quiet_arrive w g each = record {
  none = tt;
  came = λ q is. elim is [
    | inl here ↦ (let lies = within q g here in each q lies.0 lies.1)
    | inr there ↦ absurd there
  ];
}

quiet_held : (w : View) (from : ℕ) → IsQuiet w (Arrive (held_from w from) ∷ [])
quiet_held w from = quiet_arrive w (held_from w from) (held_has w from)

pub quiet_filled : (w : View) (request : Option Flight) → IsQuiet w (filled_steps w request)
quiet_filled w None = quiet_nil w
quiet_filled w (Some request) = quiet_held w request.first

pub none_if : (b : Bool) (xs : List Step) → NonePolls xs → NonePolls (cond b xs [])
none_if true xs none = none
none_if false xs none = tt

pub none_response : (origin : RepairOrigin) (g : Gap) → NonePolls (response_steps origin g)
none_response (Line line) g = tt
none_response (Server server) g = tt

pub none_came : (w : View) (origin : RepairOrigin) (g : Gap) (request : Option Flight) →
    NonePolls (came_steps origin g w request)
none_came w origin g request =
    none_if (nat_lt g.first g.end) (response_steps origin g ++ (Arrive (held_from w g.first) ∷ filled_steps w request))
    (none_join (response_steps origin g) (Arrive (held_from w g.first) ∷ filled_steps w request) (none_response origin g)
    (quiet_filled w request).none)

pub quiet_response : (w : View) (origin : RepairOrigin) (g : Gap) → ((q : ℕ) → g.first ≤ q → q < g.end → HasMessage w q) →
    IsQuiet w (response_steps origin g)
quiet_response w (Line line) g each = quiet_nil w
quiet_response w (Server server) g each = record {
  none = tt;
  came = λ q is. elim is [
    | inl here ↦ (let lies = within q g here in each q lies.0 lies.1)
    | inr there ↦ absurd there
  ];
}

pub quiet_came : (w : View) (origin : RepairOrigin) (g : Gap) (request : Option Flight) →
    ((q : ℕ) → g.first ≤ q → q < g.end → HasMessage w q) → IsQuiet w (came_steps origin g w request)
quiet_came w origin g request each =
    quiet_if w (nat_lt g.first g.end) (response_steps origin g ++ (Arrive (held_from w g.first) ∷ filled_steps w request))
    (quiet_join w (response_steps origin g) (Arrive (held_from w g.first) ∷ filled_steps w request)
    (quiet_response w origin g each)
    (quiet_join w (Arrive (held_from w g.first) ∷ []) (filled_steps w request) (quiet_held w g.first)
    (quiet_filled w request)))

pub quiet_adapted : (w : View) (options : RepairOptions) (origin : RepairOrigin) (g : Head) (delays : Delays) →
    IsQuiet w (adapted_from options origin g delays)
quiet_adapted w options origin g delays = quiet_if w _ _ (quiet_adapt w _)

-- The steps of a datagram that was accepted.
module _ (laws : OnceLaws) (options : RepairOptions) (time : ℕ) (origin : RepairOrigin) (bytes : List ℕ)
    (v : View) (well : IsWellFormed v) where
  quiet_taken : (r : Reception) (p : Packet) (delays : Delays) (old : Pacer) → reading bytes ≡ Ok p →
      r.view ≡ view_after v p → HasRoomFor v p → IsQuiet r.view (taken_steps options time origin bytes v r.view delays old)
  quiet_taken r p delays old read is room =
      let w = view_after v p in
      let now = max old.state.now time in
      let fs = old.flights.items in
      let g = came_below (w.next + w.window) (reading bytes) in
      let each = subst (λ (x : Result Packet _). (q : ℕ) → (came_below (w.next + w.window) x).first ≤ q →
      q < (came_below (w.next + w.window) x).end → HasMessage w q) (sym read)
      (λ q low high. laws.came v p q well low (omega (arith, high)) (omega (arith, high)) room) in
      subst (λ (x : View). IsQuiet x (taken_steps options time origin bytes v x delays old)) (sym is)
      (quiet_advance w time v.known _
      (quiet_join w _ (adapted_from options origin (head (reading bytes)) delays)
      (quiet_if w (nat_lt v.next v.known) (noted origin bytes w now fs) (quiet_came w origin g _ each))
      (quiet_adapted w options origin (head (reading bytes)) delays)))

module _ (laws : OnceLaws) (old new : Repairer) (well : IsWellFormed old.arbiter.view) where
  once_taken : (step : RepairStep) (o : Outcome) (time : ℕ) (origin : RepairOrigin) (bytes : List ℕ)
      (handed : Handed) (r : Result Taken Refusal)
      → (none : o.ask ≡ None)
      → (are : ArePacerSteps old.options step
      (taken_steps old.options time origin bytes old.arbiter.view new.arbiter.view new.delays old.pacer))
      → (idle : ArePacerSteps old.options step (Advance time old.arbiter.view.known ∷ []))
      → (learned : OnOk r (HasLearned old.pacer new.pacer
      (taken_steps old.options time origin bytes old.arbiter.view new.arbiter.view new.delays old.pacer)))
      → (passed : OnErr r (HasPassed time old.arbiter.view old.pacer new.pacer))
      → IfOk r (λ t. HasArbitrated (line_of (receiver_origin origin)) old.arbiter bytes nothing new.arbiter handed t)
      → ((p : Packet) → reading bytes ≡ Ok p → HasRoomFor old.arbiter.view p)
      → IsOnce old.arbiter.view new.arbiter.view (paced_taken old new step o time
      (taken_steps old.options time origin bytes old.arbiter.view new.arbiter.view new.delays old.pacer) r none are idle
      learned passed).steps
  unfolding paced_taken paced_none
  once_taken step o time origin bytes handed (Ok t) none are idle learned passed has room =
      let v = old.arbiter.view in
      let line = line_of (receiver_origin origin) in
      let view = ap (λ (a : Arbitration). a.view) (has.arbitration ∙ ap (arbitrated line bytes old.arbiter) has.received)
      ∙ taken_view line bytes old.arbiter has.reception in
      let packet = laws.receiver.taken v bytes has.reception has.received in
      quiet_once v new.arbiter.view _
      (subst (λ (w : View). IsQuiet w (taken_steps old.options time origin bytes v w new.delays old.pacer)) (sym view)
      (quiet_taken laws old.options time origin bytes v well has.reception packet.packet new.delays old.pacer packet.read
      (ap (λ (x : Reception). x.view) packet.taken) (room packet.packet packet.read)))
  once_taken step o time origin bytes handed (Err e) none are idle learned passed has room =
      quiet_once old.arbiter.view new.arbiter.view _
      (quiet_advance new.arbiter.view time old.arbiter.view.known [] (quiet_nil new.arbiter.view))

  once_lost : (time : ℕ) (o : Outcome) (handed : Handed) (between : Pacer) (lost : Option Gap)
      → (none : o.ask ≡ None) → (took : Takes old.pacer between (Advance time old.arbiter.view.known) None)
      → (gave : MatchOption lost (IsKept old.options.give_up old.arbiter new.arbiter nothing handed between new.pacer)
      (IsLost old.options.give_up old.arbiter new.arbiter nothing handed between new.pacer))
      → IsOnce old.arbiter.view new.arbiter.view (paced_lost old new time o handed between lost none took gave).steps
  unfolding paced_lost paced_none
  once_lost time o handed between None none took gave =
      quiet_once old.arbiter.view new.arbiter.view _
      (quiet_advance new.arbiter.view time old.arbiter.view.known [] (quiet_nil new.arbiter.view))
  once_lost time o handed between (Some gap) none took gave =
      quiet_once old.arbiter.view new.arbiter.view _
      (quiet_advance new.arbiter.view time old.arbiter.view.known (Arrive (range 0 new.arbiter.view.next) ∷ [])
      (quiet_arrive new.arbiter.view (range 0 new.arbiter.view.next) (λ q low high. inl high)))

pub missing_lacks : (v : View) (q : ℕ) → HasMessage v q → IsMissing v q → ⊥
missing_lacks v q has missing =
    elim has [
      | inl below ↦ omega (arith, below, missing.after)
      | inr some ↦ true≢false (sym some ∙ ap is_some missing.lacked)
    ]

-- No number comes in a poll.
none_come : (q : ℕ) (xs : List Step) → ArePollSteps xs → ComesIn q xs → ⊥
none_come q [] are is = is
none_come q (Advance time known ∷ xs) are is = absurd are.0
none_come q (Adapt patience ∷ xs) are is = absurd are.0
none_come q (PollGaps gaps ∷ xs) are (inl here) = false_true here
none_come q (PollGaps gaps ∷ xs) are (inr there) = none_come q xs are.1 there
none_come q (Respond server came ∷ xs) are is = absurd are.0
none_come q (Arrive came ∷ xs) are is = absurd are.0

-- So no number comes before a gap that has it.
polls_once : (xs : List Step) → ArePollSteps xs → AreMissingOnce xs
polls_once [] are = tt
polls_once (Advance time known ∷ xs) are = absurd are.0
polls_once (Adapt patience ∷ xs) are = absurd are.0
polls_once (PollGaps gaps ∷ xs) are = (λ q is. false_true is, polls_once xs are.1)
polls_once (Respond server came ∷ xs) are = absurd are.0
polls_once (Arrive came ∷ xs) are = absurd are.0

-- The time, then polls.
once_polled : (v w : View) (time known : ℕ) (old new : Pacer) (sent : List (Option Sent))
    (polls : HasPolls v old new sent) → IsOnce v w (Advance time known ∷ polls.steps)
once_polled v w time known old new sent polls = record {
  fresh = λ q had. polls.missing q (missing_lacks v q had);
  once = (λ q is. false_true is, polls_once polls.steps polls.are);
  came = λ q is. elim is [
    | inl here ↦ false_true here
    | inr there ↦ absurd (none_come q polls.steps polls.are there)
  ];
}

once_step : (laws : OnceLaws) (old new : Repairer) (step : RepairStep) (o : Outcome) (handed : Handed)
    (did : HasStepped old new step handed o) → IsWellFormed old.arbiter.view → HasRoomForStep old.arbiter.view step
    → IsOnce old.arbiter.view new.arbiter.view (has_paced old new step o handed did).steps
unfolding has_paced paced_none paced_poll paced_lost paced_taken
once_step laws old new (Take time origin datagram) o handed did well room =
    let t = did.0 in
    once_taken laws old new well (Take time origin datagram) o time origin datagram.now handed t.result _ _ _ t.learned
    t.passed t.taken room
once_step laws old new (Poll time) o handed did well room =
    let v = old.arbiter.view in
    let polled = did.polled in
    let of = polls_of old.options v old.pacer new.pacer time o.ask polled in
    once_polled v new.arbiter.view time v.known polled.between new.pacer of.sent of.polls
once_step laws old new (Lost time) o handed (inl did) well room =
    once_lost laws old new well time o handed did.gave.between o.lost _ did.gave.time did.gave.gave
once_step laws old new (Lost time) o handed (inr did) well room =
    quiet_once old.arbiter.view new.arbiter.view _
    (quiet_advance new.arbiter.view time old.arbiter.view.known [] (quiet_nil new.arbiter.view))
once_step laws old new (Pass time) o handed did well room =
    quiet_once old.arbiter.view new.arbiter.view _
    (quiet_advance new.arbiter.view time old.arbiter.view.known [] (quiet_nil new.arbiter.view))

never_join : (q : ℕ) (xs ys : List Step) → IsNeverMissing q xs → IsNeverMissing q ys → IsNeverMissing q (xs ++ ys)
never_join q [] ys first then = then
never_join q (Advance time known ∷ xs) ys first then = never_join q xs ys first then
never_join q (Adapt patience ∷ xs) ys first then = never_join q xs ys first then
never_join q (PollGaps gaps ∷ xs) ys first then = (first.0, never_join q xs ys first.1 then)
never_join q (Respond server came ∷ xs) ys first then = never_join q xs ys first then
never_join q (Arrive came ∷ xs) ys first then = never_join q xs ys first then

once_join : (xs ys : List Step) → AreMissingOnce xs → ((q : ℕ) → ComesIn q xs → IsNeverMissing q ys) →
    AreMissingOnce ys → AreMissingOnce (xs ++ ys)
once_join [] ys first later then = then
once_join (x ∷ xs) ys first later then = (
  λ q is. never_join q xs ys (first.0 q is) (later q (inl is)),
  once_join xs ys first.1 (λ q is. later q (inr is)) then,
)

-- In a run, what the first view has is never missing, and no number is missing after it came.
record IsOnceRun (v : View) (xs : List Step) : Type 0 where
  fresh : (q : ℕ) → HasMessage v q → IsNeverMissing q xs
  once : AreMissingOnce xs

once_run : (laws : OnceLaws) (old new : Repairer) (steps : List RepairStep) (os : List Outcome)
    (ran : IsRepaired old new steps os) → IsWellFormed old.arbiter.view → HasRoom old new steps os ran
    → IsOnceRun old.arbiter.view (paced laws.receiver.taken old new steps os ran).pacer_steps
unfolding paced
once_run laws old new [] [] ran well room = record { fresh = λ q had. tt; once = tt }
once_run laws old new [] (o ∷ os) ran well room = absurd ran
once_run laws old new (step ∷ steps) [] ran well room = absurd ran
once_run laws old new (step ∷ steps) (o ∷ os) ran well room =
    let next = ran.0 in
    let is = ran.1 in
    let xs = (has_paced old next step o is.handed is.stepped).steps in
    let ys = (paced laws.receiver.taken next new steps os ran.2).pacer_steps in
    let on = goes_on laws.receiver old next step o is.handed is.stepped well in
    let one = once_step laws old next step o is.handed is.stepped well room.0 in
    let rest = once_run laws next new steps os ran.2 on.well_formed room.1 in
    record {
      fresh = λ q had. never_join q xs ys (one.fresh q had) (rest.fresh q (on.has q had));
      once = once_join xs ys one.once (λ q comes. rest.fresh q (one.came q comes)) rest.once;
    }

abbrev pub FrugalLaw : Type 0
FrugalLaw = (old new : Pacer) (steps : List Step) (asks : List (Option Sent)) (ran : IsRun old new steps asks) →
    old.flights.items ≡ [] → AreMissingOnce steps → IsFrugal old new steps asks ran

pub is_frugal : OnceLaws → FrugalLaw → (old new : Repairer) (steps : List RepairStep) (os : List Outcome) →
    (ran : IsRepaired old new steps os) → IsWellFormed old.arbiter.view → old.pacer.flights.items ≡ []
    → HasRoom old new steps os ran → IsFrugalRun old new steps os
is_frugal laws law old new steps os ran well empty room =
    let by = paced laws.receiver.taken old new steps os ran in
    let once = (once_run laws old new steps os ran well room).once in
    record {
      pacer_steps = by.pacer_steps;
      sent = by.sent;
      are = by.are;
      ran = by.ran;
      requests = by.requests;
      once = once;
      frugal = law old.pacer new.pacer by.pacer_steps by.sent by.ran empty once;
    }

step_room : (v : View) (step : RepairStep) → ((v : View) (p : Packet) → v.room ≡ None → HasRoomFor v p) → v.room ≡ None →
    HasRoomForStep v step
step_room v (Take time origin datagram) law none = λ packet read. law v packet none
step_room v (Poll time) law none = tt
step_room v (Lost time) law none = tt
step_room v (Pass time) law none = tt

-- A store without a limit has room in each run.
pub run_room : ReceiverLaws → ((v : View) (p : Packet) → v.room ≡ None → HasRoomFor v p) → (old new : Repairer)
    (steps : List RepairStep) (os : List Outcome) (ran : IsRepaired old new steps os) → IsWellFormed old.arbiter.view →
    old.arbiter.view.room ≡ None → HasRoom old new steps os ran
run_room laws law old new [] [] ran well none = tt
run_room laws law old new [] (o ∷ os) ran well none = ran
run_room laws law old new (step ∷ steps) [] ran well none = ran
run_room laws law old new (step ∷ steps) (o ∷ os) ran well none =
    let is = ran.1 in
    let on = goes_on laws old ran.0 step o is.handed is.stepped well in
    (step_room old.arbiter.view step law none, run_room laws law ran.0 new steps os ran.2 on.well_formed (on.room ∙ none))
