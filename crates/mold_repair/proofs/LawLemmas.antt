-- The laws of a run.
use Rattle.std.proofs.Common.{◌≡◌, ℕ, ◌+◌, ◌-◌, ◌*◌, ◌<◌, ◌≤◌, List, [], ◌∷◌, ◌++◌, length, map}
use Rattle.std.proofs.Common.{IfErr, IfOk, IfSome, OnErr, OnOk, MatchOption, Option, None, Some, Result, Ok, Err}
use Rattle.std.proofs.Common.{refl, ap, ◌∙◌, sym, subst, arith, inl, inr}
use Rattle.std.proofs.Math.Nat.{mul-le-mul_left}
use Rattle.mold_pacing.specs.Laws.{AreApart, count_asks}
use Rattle.mold_pacing.specs.Run.{IsRun, Takes}
use Rattle.mold_pacing.specs.declared.ask.Ask.{Ask as Sent}
use Rattle.mold_pacing.specs.declared.gap.Gap.{Gap}
use Rattle.mold_pacing.specs.declared.pacer.Pacer.{Pacer}
use Rattle.mold_pacing.specs.declared.step.Step.{Step}
use Rattle.mold_pacing.specs.declared.step.Step.TheVariants.{Advance, Arrive}
use Rattle.mold_receiver.specs.Arbiter.{Arbitration, HasArbitrated, HasRefused, arbitrated}
use Rattle.mold_receiver.specs.Batch.{Handed, followed_by}
use Rattle.mold_receiver.specs.Origin.{line_of}
use Rattle.mold_receiver.specs.Receive.{IsTakenPacket, Reception, receive}
use Rattle.mold_receiver.specs.Skip.{skipped_run}
use Rattle.mold_receiver.specs.Store.{Message}
use Rattle.mold_receiver.specs.View.{View}
use Rattle.mold_receiver.specs.declared.line.Line.{Line as TheLine}
use Rattle.mold_receiver.specs.declared.taken.Taken.{Taken}
use Rattle.mold_repair.specs.Came.{range}
use Rattle.mold_repair.specs.GivingUp.{IsKept, IsLost}
use Rattle.mold_repair.specs.Laws.{AreAllPacerSteps, AreInOrder, ArePacerSteps, HasNumbers, IsPaced}
use Rattle.mold_repair.specs.Laws.{listed, requests_of, returned_all}
use Rattle.mold_repair.specs.Options.{tolerance}
use Rattle.mold_repair.specs.Origin.{receiver_origin}
use Rattle.mold_repair.specs.Polls.{HasPolled, returned}
use Rattle.mold_repair.specs.Run.{HasStepped, IsRepaired, IsStepOf, after_lost, delivers, nothing}
use Rattle.mold_repair.specs.Taking.{HasLearned, HasPassed, no_ask, taken_steps}
use Rattle.mold_repair.specs.declared.ask.Ask.{Ask}
use Rattle.mold_repair.specs.declared.options.RepairOptions.{RepairOptions}
use Rattle.mold_repair.specs.declared.outcome.Outcome.{Outcome}
use Rattle.mold_repair.specs.declared.repairer.Repairer.{Repairer}
use Rattle.mold_repair.specs.declared.step.RepairStep.{RepairStep}
use Rattle.mold_repair.specs.declared.step.RepairStep.TheVariants.{Lost, Pass, Poll, Take}
use Rattle.mold_rule.specs.declared.refusal.Refusal.{Refusal}
use Rattle.mold_wire.specs.declared.session.Session.{Session}
use Rattle.mold_repair.proofs.PollStepLemmas.{polls_of}

-- The law of the receiver that is used.
abbrev pub TakenLaw : Type 0
TakenLaw = (v : View) (bytes : List ℕ) (r : Reception) → receive v bytes ≡ Ok r → IsTakenPacket v bytes r

-- What a step did to the receiver.
pub record HasMoved (old new : Repairer) (o : Outcome) (handed : Handed) : Type 0 where
  pub lost : IfSome o.lost (λ gap. (gap.first ≡ old.arbiter.view.next) × (gap.first < gap.end))
  pub delivered : o.delivered ≡ range (after_lost old.arbiter.view.next o.lost) new.arbiter.view.next
  pub messages : List Message
  pub batch : handed ≡ followed_by nothing (after_lost old.arbiter.view.next o.lost) messages
  pub counted : after_lost old.arbiter.view.next o.lost + length messages ≡ new.arbiter.view.next
  pub session : new.arbiter.view.session ≡ old.arbiter.view.session

moved_still : (old new : Repairer) (ask : Option Ask) (handed : Handed) → new.arbiter.view ≡ old.arbiter.view →
    handed ≡ nothing → HasMoved old new (delivers old new ask None) handed
moved_still old new ask handed same empty = record {
  lost = tt;
  delivered = refl;
  messages = [];
  batch = empty;
  counted = (let next = ap (λ (v : View). v.next) same in omega (arith, next));
  session = ap (λ (v : View). v.session) same;
}

pub taken_view : (line : Option TheLine) (bytes : List ℕ) (old : Arbitration) (r : Reception) →
    (arbitrated line bytes old (Ok r)).view ≡ r.view
taken_view None bytes old r = refl
taken_view (Some line) bytes old r = refl

pub refused_view : (line : Option TheLine) (bytes : List ℕ) (old : Arbitration) (e : Refusal) →
    (arbitrated line bytes old (Err e)).view ≡ old.view
refused_view None bytes old e = refl
refused_view (Some line) bytes old e = refl

moved_taken : TakenLaw → (old new : Repairer) (line : Option TheLine) (bytes : List ℕ) (handed : Handed) (t : Taken)
    → HasArbitrated line old.arbiter bytes nothing new.arbiter handed t
    → HasMoved old new (delivers old new None None) handed
moved_taken law old new line bytes handed t has =
    let v = old.arbiter.view in
    let r = has.reception in
    let packet = law v bytes r has.received in
    let view = ap (λ (a : Arbitration). a.view) (has.arbitration ∙ ap (arbitrated line bytes old.arbiter) has.received)
    ∙ taken_view line bytes old.arbiter r in
    let first = ap (λ (x : Reception). v.next + length x.handed) packet.taken in
    let last = ap (λ (x : Reception). x.view.next) packet.taken in
    let next = ap (λ (w : View). w.next) view in
    record {
      lost = tt;
      delivered = refl;
      messages = r.handed;
      batch = has.batch;
      counted = first ∙ sym last ∙ sym next;
      session = ap (λ (w : View). w.session) view ∙ ap (λ (x : Reception). x.view.session) packet.taken;
    }

moved_refused : (old new : Repairer) (line : Option TheLine) (bytes : List ℕ) (handed : Handed) (e : Refusal)
    → HasRefused line old.arbiter bytes new.arbiter e → handed ≡ nothing
    → HasMoved old new (delivers old new None None) handed
moved_refused old new line bytes handed e has empty =
    let view : new.arbiter.view ≡ old.arbiter.view = elim has [
      | inl memory ↦ ap (λ (a : Arbitration). a.view) memory.2
      | inr rule ↦
          ap (λ (a : Arbitration). a.view) (rule.1 ∙ ap (arbitrated line bytes old.arbiter) rule.0)
          ∙ refused_view line bytes old.arbiter e
    ] in
    moved_still old new None handed view empty

moved_result : TakenLaw → (old new : Repairer) (line : Option TheLine) (bytes : List ℕ) (handed : Handed)
    (r : Result Taken Refusal) → IfOk r (λ t. HasArbitrated line old.arbiter bytes nothing new.arbiter handed t)
    → IfErr r (λ e. HasRefused line old.arbiter bytes new.arbiter e) → OnErr r (handed ≡ nothing)
    → HasMoved old new (delivers old new None None) handed
moved_result law old new line bytes handed (Ok t) taken refused batch = moved_taken law old new line bytes handed t taken
moved_result law old new line bytes handed (Err e) taken refused batch =
    moved_refused old new line bytes handed e refused batch

moved_lost : (old new : Repairer) (handed : Handed) (give_up : ℕ) (p q : Pacer) (lost : Option Gap)
    → MatchOption lost (IsKept give_up old.arbiter new.arbiter nothing handed p q)
    (IsLost give_up old.arbiter new.arbiter nothing handed p q) → HasMoved old new (delivers old new None lost) handed
moved_lost old new handed give_up p q None kept =
    moved_still old new None handed (ap (λ (a : Arbitration). a.view) kept.arbiter) kept.batch
moved_lost old new handed give_up p q (Some gap) gave = record {
  lost = (gave.given_up.first, gave.given_up.some);
  delivered = refl;
  messages = skipped_run old.arbiter.view gap.end;
  batch = gave.batch;
  counted = sym (ap (λ (a : Arbitration). a.view.next) gave.arbiter);
  session = ap (λ (a : Arbitration). a.view.session) gave.arbiter;
}

pub has_moved : TakenLaw → (old new : Repairer) (step : RepairStep) (o : Outcome) (handed : Handed) →
    HasStepped old new step handed o → HasMoved old new o handed
has_moved law old new (Take time origin datagram) o handed did =
    let t = did.0 in
    subst (λ (x : Outcome). HasMoved old new x handed) (sym did.1)
    (moved_result law old new (line_of (receiver_origin origin)) datagram.now handed t.result t.taken t.refused t.batch)
has_moved law old new (Poll time) o handed did =
    subst (λ (x : Outcome). HasMoved old new x handed) (sym did.returned)
    (moved_still old new o.ask handed (ap (λ (a : Arbitration). a.view) did.arbiter) did.batch)
has_moved law old new (Lost time) o handed (inl did) =
    subst (λ (x : Outcome). HasMoved old new x handed) (sym did.returned)
    (moved_lost old new handed old.options.give_up did.gave.between new.pacer o.lost did.gave.gave)
has_moved law old new (Lost time) o handed (inr did) =
    subst (λ (x : Outcome). HasMoved old new x handed) (sym did.returned)
    (moved_still old new None handed (ap (λ (a : Arbitration). a.view) did.arbiter) did.batch)
has_moved law old new (Pass time) o handed did =
    subst (λ (x : Outcome). HasMoved old new x handed) (sym did.returned)
    (moved_still old new None handed (ap (λ (a : Arbitration). a.view) did.arbiter) did.batch)

pub has_numbers : TakenLaw → (old new : Repairer) (step : RepairStep) (o : Outcome) (is : IsStepOf old new step o) →
    HasNumbers is.handed o.delivered
has_numbers law old new step o is =
    let moved = has_moved law old new step o is.handed is.stepped in
    let first = ap (λ (g : Gap). g.first) moved.delivered in
    let last = ap (λ (g : Gap). g.end) moved.delivered in
    record {
      messages = moved.messages;
      batch = moved.batch ∙ ap (λ n. followed_by nothing n moved.messages) (sym first);
      counted = omega (arith, first, last, moved.counted);
    }

pub in_order : TakenLaw → (old new : Repairer) (steps : List RepairStep) (os : List Outcome) →
    IsRepaired old new steps os → AreInOrder old.arbiter.view.next os new.arbiter.view.next
in_order law old new [] [] ran = sym (ap (λ (r : Repairer). r.arbiter.view.next) ran)
in_order law old new [] (o ∷ os) ran = absurd ran
in_order law old new (step ∷ steps) [] ran = absurd ran
in_order law old new (step ∷ steps) (o ∷ os) ran =
    let next = ran.0 in
    let is = ran.1 in
    let moved = has_moved law old next step o is.handed is.stepped in
    let first = ap (λ (g : Gap). g.first) moved.delivered in
    let last = ap (λ (g : Gap). g.end) moved.delivered in (
      record {
        lost = moved.lost;
        delivered = first;
        order = omega (arith, first, last, moved.counted);
      },
      subst (λ n. AreInOrder n os new.arbiter.view.next) (sym last) (in_order law next new steps os ran.2),
    )

-- A run of the pacer in a step of the repairer.
pub record IsPacedStep (old new : Repairer) (step : RepairStep) (o : Outcome) : Type 0 where
  pub steps : List Step
  pub sent : List (Option Sent)
  pub are : ArePacerSteps old.options step steps
  pub ran : IsRun old.pacer new.pacer steps sent
  pub requests : (rest : List (Option Sent)) →
      returned_all old.arbiter.view.session old.options.servers (sent ++ rest)
      ≡ listed o.ask (returned_all old.arbiter.view.session old.options.servers rest)

pub none_returned : (session : Session) (servers : ℕ) (steps : List Step) (rest : List (Option Sent)) →
    returned_all session servers (map no_ask steps ++ rest) ≡ returned_all session servers rest
none_returned session servers [] rest = refl
none_returned session servers (step ∷ steps) rest = none_returned session servers steps rest

-- A step that sends nothing.
unfoldable pub paced_none : (old new : Repairer) (step : RepairStep) (o : Outcome) (steps : List Step) → o.ask ≡ None
    → ArePacerSteps old.options step steps → HasLearned old.pacer new.pacer steps → IsPacedStep old new step o
paced_none old new step o steps none are learned = record {
  steps = steps;
  sent = map no_ask steps;
  are = are;
  ran = learned;
  requests = λ rest. none_returned old.arbiter.view.session old.options.servers steps rest
      ∙ ap (λ (a : Option Ask). listed a (returned_all old.arbiter.view.session old.options.servers rest)) (sym none);
}

unfoldable pub paced_taken : (old new : Repairer) (step : RepairStep) (o : Outcome) (time : ℕ) (steps : List Step)
    (r : Result Taken Refusal) → o.ask ≡ None → ArePacerSteps old.options step steps
    → ArePacerSteps old.options step (Advance time old.arbiter.view.known ∷ [])
    → OnOk r (HasLearned old.pacer new.pacer steps) → OnErr r (HasPassed time old.arbiter.view old.pacer new.pacer)
    → IsPacedStep old new step o
paced_taken old new step o time steps (Ok t) none are idle learned passed =
    paced_none old new step o steps none are learned
paced_taken old new step o time steps (Err e) none are idle learned passed =
    paced_none old new step o (Advance time old.arbiter.view.known ∷ []) none idle passed

unfoldable pub paced_poll : (old new : Repairer) (time : ℕ) (o : Outcome)
    → HasPolled old.options old.arbiter.view old.pacer new.pacer time o.ask → IsPacedStep old new (Poll time) o
paced_poll old new time o did =
    let of = polls_of old.options old.arbiter.view old.pacer new.pacer time o.ask did in
    record {
      steps = Advance time old.arbiter.view.known ∷ of.polls.steps;
      sent = None ∷ of.sent;
      are = (old.arbiter.view.known, of.polls.steps, of.polls.are, of.one, refl);
      ran = (did.between, did.time, of.polls.ran);
      requests = of.requests;
    }

unfoldable pub paced_lost : (old new : Repairer) (time : ℕ) (o : Outcome) (handed : Handed) (between : Pacer) (lost : Option Gap)
    → o.ask ≡ None → Takes old.pacer between (Advance time old.arbiter.view.known) None
    → MatchOption lost (IsKept old.options.give_up old.arbiter new.arbiter nothing handed between new.pacer)
    (IsLost old.options.give_up old.arbiter new.arbiter nothing handed between new.pacer)
    → IsPacedStep old new (Lost time) o
paced_lost old new time o handed between None none took kept =
    paced_none old new (Lost time) o (Advance time old.arbiter.view.known ∷ []) none (inr (old.arbiter.view.known, refl))
    (between, took, kept.pacer)
paced_lost old new time o handed between (Some gap) none took gave =
    paced_none old new (Lost time) o (Advance time old.arbiter.view.known ∷ Arrive (range 0 new.arbiter.view.next) ∷ []) none
    (inl (old.arbiter.view.known, new.arbiter.view.next, refl)) (between, took, (new.pacer, gave.pacer, refl))

unfoldable pub has_paced : (old new : Repairer) (step : RepairStep) (o : Outcome) (handed : Handed) → HasStepped old new step handed o
    → IsPacedStep old new step o
has_paced old new (Take time origin datagram) o handed did =
    let t = did.0 in
    let v = old.arbiter.view in
    paced_taken old new (Take time origin datagram) o time
    (taken_steps old.options time origin datagram.now v new.arbiter.view new.delays old.pacer) t.result
    (ap (λ (x : Outcome). x.ask) did.1) (inl (v, new.arbiter.view, new.delays, old.pacer, refl))
    (inr (v.known, refl)) t.learned t.passed
has_paced old new (Poll time) o handed did = paced_poll old new time o did.polled
has_paced old new (Lost time) o handed (inl did) =
    paced_lost old new time o handed did.gave.between o.lost (ap (λ (x : Outcome). x.ask) did.returned) did.gave.time
    did.gave.gave
has_paced old new (Lost time) o handed (inr did) =
    paced_none old new (Lost time) o (Advance time old.arbiter.view.known ∷ []) (ap (λ (x : Outcome). x.ask) did.returned)
    (inr (old.arbiter.view.known, refl)) did.passed
has_paced old new (Pass time) o handed did =
    paced_none old new (Pass time) o (Advance time old.arbiter.view.known ∷ []) (ap (λ (x : Outcome). x.ask) did.returned)
    (old.arbiter.view.known, refl) did.passed

-- One run after another.
pub run_join : (p q r : Pacer) (xs ys : List Step) (asks more : List (Option Sent)) → IsRun p q xs asks → IsRun q r ys more →
    IsRun p r (xs ++ ys) (asks ++ more)
run_join p q r [] ys [] more first then = subst (λ (s : Pacer). IsRun s r ys more) first then
run_join p q r [] ys (ask ∷ asks) more first then = absurd first
run_join p q r (x ∷ xs) ys [] more first then = absurd first
run_join p q r (x ∷ xs) ys (ask ∷ asks) more first then =
    (first.0, first.1, run_join first.0 q r xs ys asks more first.2 then)

-- A run of the pacer in a run of the repairer.
pub record IsPacedBy (old new : Repairer) (steps : List RepairStep) (os : List Outcome) : Type 0 where
  pub pacer_steps : List Step
  pub sent : List (Option Sent)
  pub are : AreAllPacerSteps old.options steps pacer_steps
  pub ran : IsRun old.pacer new.pacer pacer_steps sent
  pub requests : requests_of os ≡ returned_all old.arbiter.view.session old.options.servers sent

unfoldable pub paced : TakenLaw → (old new : Repairer) (steps : List RepairStep) (os : List Outcome) → IsRepaired old new steps os →
    IsPacedBy old new steps os
paced law old new [] [] ran = record {
  pacer_steps = [];
  sent = [];
  are = refl;
  ran = ap (λ (r : Repairer). r.pacer) ran;
  requests = refl;
}
paced law old new [] (o ∷ os) ran = absurd ran
paced law old new (step ∷ steps) [] ran = absurd ran
paced law old new (step ∷ steps) (o ∷ os) ran =
    let next = ran.0 in
    let is = ran.1 in
    let moved = has_moved law old next step o is.handed is.stepped in
    let one = has_paced old next step o is.handed is.stepped in
    let rest = paced law next new steps os ran.2 in
    let v = old.arbiter.view in
    let more = subst (λ (s : Session). requests_of os ≡ returned_all s old.options.servers rest.sent) moved.session
    (subst (λ (p : RepairOptions). requests_of os ≡ returned_all next.arbiter.view.session p.servers rest.sent)
    is.options rest.requests) in
    record {
      pacer_steps = one.steps ++ rest.pacer_steps;
      sent = one.sent ++ rest.sent;
      are = (
        one.steps,
        rest.pacer_steps,
        one.are,
        refl,
        subst (λ (p : RepairOptions). AreAllPacerSteps p steps rest.pacer_steps) is.options rest.are,
      );
      ran = run_join old.pacer next.pacer new.pacer one.steps rest.pacer_steps one.sent rest.sent one.ran rest.ran;
      requests = ap (listed o.ask) more ∙ sym (one.requests rest.sent);
    }

-- The law of the pacer that is used.
abbrev pub ApartLaw : Type 0
ApartLaw = (old new : Pacer) (steps : List Step) (asks : List (Option Sent)) → IsRun old new steps asks →
    AreApart old.options.timeout old.state.now steps asks

pub is_paced : TakenLaw → ApartLaw → (old new : Repairer) (steps : List RepairStep) (os : List Outcome)
    → IsRepaired old new steps os → IsPaced old new steps os
is_paced law apart old new steps os ran =
    let by = paced law old new steps os ran in
    record {
      pacer_steps = by.pacer_steps;
      sent = by.sent;
      are = by.are;
      ran = by.ran;
      requests = by.requests;
      apart = subst (λ n. AreApart n old.pacer.state.now by.pacer_steps by.sent) old.paced.timeout
          (apart old.pacer new.pacer by.pacer_steps by.sent by.ran);
    }

listed_few : (a : Option Ask) (asks : List Ask) → length (listed a asks) ≤ length asks + 1
listed_few None asks = omega arith
listed_few (Some ask) asks = omega arith

returned_few : (session : Session) (servers : ℕ) (sent : List (Option Sent)) →
    length (returned_all session servers sent) ≤ count_asks sent
returned_few session servers [] = omega arith
returned_few session servers (None ∷ sent) = returned_few session servers sent
returned_few session servers (Some ask ∷ sent) =
    omega (
      arith,
      returned_few session servers sent,
      listed_few (returned session servers (Some ask)) (returned_all session servers sent),
    )

times_le : (m n i : ℕ) → m ≤ n → m * i ≤ n * i
times_le m n i small =
    let left : m * i ≡ i * m = grind arith in
    let right : n * i ≡ i * n = grind arith in
    omega (arith, left, right, mul-le-mul_left i small)

-- The limit on requests.
abbrev pub LimitLaw : Type 0
LimitLaw = (old new : Pacer) (steps : List Step) (asks : List (Option Sent)) → IsRun old new steps asks →
    count_asks asks * old.options.interval
    ≤ new.state.now - old.state.now + old.options.tolerance + old.options.interval

pub not_flooded : LimitLaw → (old new : Repairer) (steps : List RepairStep) (os : List Outcome)
    → IsPaced old new steps os
    → length (requests_of os) * old.options.interval
    ≤ new.pacer.state.now - old.pacer.state.now + tolerance old.options + old.options.interval
not_flooded law old new steps os is =
    let limit = law old.pacer new.pacer is.pacer_steps is.sent is.ran in
    let few = returned_few old.arbiter.view.session old.options.servers is.sent in
    let count = ap (λ (asks : List Ask). length asks) is.requests in
    let small : length (requests_of os) ≤ count_asks is.sent = omega (arith, few, count) in
    let times = times_le (length (requests_of os)) (count_asks is.sent) old.options.interval small in
    let limited : count_asks is.sent * old.options.interval
    ≤ new.pacer.state.now - old.pacer.state.now + tolerance old.options + old.options.interval =
    subst (λ i. count_asks is.sent * i ≤ new.pacer.state.now - old.pacer.state.now + tolerance old.options + i)
    old.paced.interval
    (subst (λ t. count_asks is.sent * old.pacer.options.interval
    ≤ new.pacer.state.now - old.pacer.state.now + t + old.pacer.options.interval) old.paced.early limit) in
    omega (arith, times, limited)
