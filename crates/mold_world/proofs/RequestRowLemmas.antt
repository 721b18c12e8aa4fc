-- What requests do, from the contracts of the server's functions.
use Rattle.std.proofs.Common.{◌≡◌, ℕ, List, refl, sym, ap, subst, ◌∙◌, inl, inr}
use Rattle.std.specs.Prelude.{Option, None, Some, Result, Ok, Err, IsOk, IfOk, IfErr, OnErr, slice_get}
use Rattle.mold_wire.specs.declared.request.Request.{Request as Asked}
use Rattle.mold_receiver.specs.Wanted.{wanted}
use Rattle.mold_session.specs.Answer.{PlanState, answer, plan_for, planned}
use Rattle.mold_session.specs.Journal.{JournalState}
use Rattle.mold_session.specs.Server.{IsAnswerable, checked_request, plan_of, planning}
use Rattle.mold_session.specs.declared.error.AnswerError.{AnswerError}
use Rattle.mold_world.specs.Effect.{Outcome, answered, asked, asked_for, bursting, effect, requested}
use Rattle.mold_world.specs.declared.event.EventOf.TheVariants.{Ask, Request}
use Rattle.mold_world.specs.Refusals.{Applies, Refuses}
use Rattle.mold_world.specs.World.{SubscriberState, WorldState}
use Rattle.mold_world.specs.declared.report.Report.{Report}
use Rattle.mold_world.specs.declared.report.Report.TheVariants.{Nothing}
use Rattle.mold_session.specs.declared.error.SessionError.TheVariants.{Answer}
use Rattle.mold_world.specs.declared.report.WorldError.{WorldError}
use Rattle.mold_world.specs.declared.report.WorldError.TheVariants.{Layer, Memory, NoReceiver}

-- The plan and the request are refused for the same reason.
refused_plan :
    (journal : JournalState) (burst : ℕ) (asks : Result Asked AnswerError) (cause : AnswerError) →
    ◌≡◌ {A = Result PlanState AnswerError} (Err cause) (plan_of journal burst asks) → asks ≡ Err cause
refused_plan journal burst (Ok request) cause is = absurd (let e = is in cc)
refused_plan journal burst (Err other) cause is =
    let same : cause ≡ other = (let e = is in cc) in ap (λ (t : AnswerError). Err t) (sym same)

record IsPlanOf (journal : JournalState) (burst : ℕ) (asks : Result Asked AnswerError) (plan : PlanState) : Type 0 where
  request : Asked
  is : asks ≡ Ok request
  same : plan ≡ plan_for journal burst request

request_of_plan :
    (journal : JournalState) (burst : ℕ) (asks : Result Asked AnswerError) (plan : PlanState) →
    ◌≡◌ {A = Result PlanState AnswerError} (Ok plan) (plan_of journal burst asks) → IsPlanOf journal burst asks plan
request_of_plan journal burst (Ok request) plan is =
    record { request = request; is = refl; same = (let e = is in cc) }
request_of_plan journal burst (Err error) plan is = absurd (let e = is in cc)

pub request_refused :
    (w : WorldState) (bytes : List ℕ) (cause : AnswerError) (limit burst : ℕ) →
    ◌≡◌ {A = Result PlanState AnswerError} (Err cause) (planning w.publisher.journal w.burst bytes) →
    limit ≡ w.server_limit → burst ≡ w.burst →
    Refuses w (Request bytes) (Layer (Answer cause)) × (record w { server_limit = limit; burst = burst } ≡ w)
unfolding effect
request_refused w bytes cause limit burst is limited bursts = (
  inr (ap (requested w) (refused_plan w.publisher.journal w.burst (checked_request w.publisher.journal bytes) cause is)),
  (λ j. record w { server_limit = limited j; burst = bursts j }),
)

requested_at :
    (w : WorldState) (bytes : List ℕ) (request : Asked) → checked_request w.publisher.journal bytes ≡ Ok request →
    effect w (Request bytes) ≡ answered w request
unfolding effect
requested_at w bytes request is = ap (requested w) is

pub request_applied :
    (answerable : (journal : JournalState) (request : Asked) (bytes : List ℕ) → checked_request journal bytes ≡ Ok request →
    IsAnswerable journal request)
    (answers : (journal : JournalState) (limit burst : ℕ) (request : Asked) → IsAnswerable journal request →
    planned journal.messages limit (plan_for journal burst request)
    ≡ answer journal.messages journal.session limit request.sequence request.count burst)
    (w new : WorldState) (bytes : List ℕ) (plan : PlanState) (limit burst : ℕ) (result : Result Report WorldError) →
    ◌≡◌ {A = Result PlanState AnswerError} (Ok plan) (planning w.publisher.journal w.burst bytes) →
    limit ≡ w.server_limit → burst ≡ w.burst →
    IfOk result (λ says. bursting (record w { server_limit = limit; burst = burst })
    (planned w.publisher.journal.messages limit plan) ≡ Ok (says, new)) →
    OnErr result (new ≡ record w { server_limit = limit; burst = burst }) →
    IfErr result (λ error. error ≡ Memory) → Applies w (Request bytes) result new
request_applied answerable answers w new bytes plan limit burst (Ok says) is limited bursts sent same wanting =
    let journal : JournalState = w.publisher.journal in
    let of_plan = request_of_plan journal w.burst (checked_request journal bytes) plan is in
    let may = answerable journal of_plan.request bytes of_plan.is in
    let packets : planned journal.messages limit plan
    ≡ answer journal.messages journal.session w.server_limit of_plan.request.sequence of_plan.request.count w.burst =
    (λ j. planned journal.messages (limited j) (of_plan.same j)) ∙ answers journal w.server_limit w.burst of_plan.request may
    in
    requested_at w bytes of_plan.request of_plan.is
    ∙ (λ j. bursting (record w { server_limit = sym limited j; burst = sym bursts j }) (sym packets j))
    ∙ sent
request_applied answerable answers w new bytes plan limit burst (Err error) is limited bursts sent same wanting =
    let journal : JournalState = w.publisher.journal in
    let of_plan = request_of_plan journal w.burst (checked_request journal bytes) plan is in (
      inl (
        wanting,
        subst (λ (t : Outcome). IsOk t) (sym (requested_at w bytes of_plan.request of_plan.is)) refl,
      ),
      same ∙ (λ j. record w { server_limit = limited j; burst = bursts j }),
    )

pub ask_nobody :
    (w : WorldState) (receiver : ℕ) → slice_get w.subscribers receiver ≡ None → Refuses w (Ask receiver) NoReceiver
unfolding effect
ask_nobody w receiver none = inr (ap (asked w) none)

asked_at :
    (w : WorldState) (receiver : ℕ) (subscriber : SubscriberState) (want : Option Asked) →
    slice_get w.subscribers receiver ≡ Some subscriber → want ≡ wanted subscriber.arbitration.view →
    effect w (Ask receiver) ≡ asked_for w want
unfolding effect
asked_at w receiver place want here is = ap (asked w) here ∙ ap (asked_for w) (sym is)

pub ask_nothing :
    (w : WorldState) (receiver : ℕ) (subscriber : SubscriberState) → slice_get w.subscribers receiver ≡ Some subscriber →
    None ≡ wanted subscriber.arbitration.view → effect w (Ask receiver) ≡ Ok (Nothing, w)
ask_nothing w receiver subscriber here none = asked_at w receiver subscriber None here none

-- Asking for a receiver is the request that it wants.
pub ask_applied :
    (w new : WorldState) (receiver : ℕ) (subscriber : SubscriberState) (request : Asked) (bytes : List ℕ)
    (result : Result Report WorldError) → slice_get w.subscribers receiver ≡ Some subscriber →
    Some request ≡ wanted subscriber.arbitration.view → checked_request w.publisher.journal bytes ≡ Ok request →
    Applies w (Request bytes) result new → Applies w (Ask receiver) result new
ask_applied w new receiver subscriber request bytes (Ok says) here want asks applied =
    asked_at w receiver subscriber (Some request) here want ∙ sym (requested_at w bytes request asks) ∙ applied
ask_applied w new receiver subscriber request bytes (Err error) here want asks applied = (
  elim applied.0 [
    | inl wanting ↦ inl (
      wanting.0,
      record { subscriber = subscriber; request = request; here = here; lacks = sym want },
    )
    | inr other ↦ inr (asked_at w receiver subscriber (Some request) here want
        ∙ sym (requested_at w bytes request asks) ∙ other)
  ],
  applied.1,
)
