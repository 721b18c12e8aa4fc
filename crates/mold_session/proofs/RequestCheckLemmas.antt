-- Which requests are accepted.
use Rattle.std.proofs.Common.{◌≡◌, ℕ, ◌+◌, ◌-◌, ◌≤◌, cond, eqb, ltb, Bool, true, false, not, List, length, Option, None, Some}
use Rattle.std.proofs.Common.{Result, Ok, Err, refl, ap, subst, ◌∙◌, arith}
use Rattle.std.proofs.lemmas.Bool.{cond-false, ne_eqb, eqb-false, ltb-false, le-ltb, not-false, not_from_true}
use Rattle.std.proofs.lemmas.List.{length-take, take_all}
use Rattle.std.proofs.lemmas.Slice.Eq.{bytes_eq-Decides}
use Rattle.std.specs.Str.{bytes_eq}
use Rattle.mold_wire.specs.declared.error.RequestError.{RequestError}
use Rattle.mold_wire.specs.declared.error.RequestError.TheVariants as fault
use Rattle.mold_wire.specs.declared.request.Request.{Request}
use Rattle.mold_wire.specs.declared.session.Session.{Session}
use Rattle.mold_wire.specs.Request.{request_reading}
use Rattle.mold_session.specs.Answer.{PlanState, plan_for}
use Rattle.mold_session.specs.Journal.{JournalState, journal_below}
use Rattle.mold_session.specs.Server.{request_refusal, IsAnswerable, unless, judged, checked_request, plan_of, planning}
use Rattle.mold_session.specs.declared.error.AnswerError.{AnswerError}
use Rattle.mold_session.specs.declared.error.AnswerError.TheVariants.{WrongSession, SequenceZero, EmptyRequest, Ahead}

-- A session, from its bytes, and the result of decoding a request.
abbrev named : List ℕ → Session
named bytes = record { 0 = bytes }

abbrev as_read : Request → Result Request RequestError
as_read request = Ok request

-- If nothing is refused, the first check refused nothing, and neither did the others.
none_first :
    {X : Type 0} (b : Bool) (x : X) (rest : Option X) → cond b (Some x) rest ≡ None → (b ≡ false) × (rest ≡ None)
none_first true x rest is = absurd cc
none_first false x rest is = (refl, is)

-- A request that isn't refused asks for messages that the journal has.
pub answerable_from :
    (journal : JournalState) (request : Request) → request_refusal journal request ≡ None →
    IsAnswerable journal request
answerable_from journal request is =
    let same = none_first (not (bytes_eq request.session.0 journal.session.0)) WrongSession _ is in
    let first = none_first (eqb request.sequence 0) SequenceZero _ same.1 in
    let some = none_first (eqb request.count 0) EmptyRequest _ first.1 in
    let last =
    none_first (ltb (length journal.messages) request.sequence) (Ahead (length journal.messages + 1)) None some.1
    in
    let bytes : request.session.0 ≡ journal.session.0 =
    (bytes_eq-Decides request.session.0 journal.session.0).0
    (not-false (bytes_eq request.session.0 journal.session.0) same.0)
    in
    record {
      session = ap named bytes;
      first = omega (arith, eqb-false request.sequence 0 first.0);
      last = ltb-false (length journal.messages) request.sequence last.0;
      count = omega (arith, eqb-false request.count 0 some.0);
    }

pub answerable_to :
    (journal : JournalState) (request : Request) → IsAnswerable journal request →
    request_refusal journal request ≡ None
answerable_to journal request is =
    cond-false (not (bytes_eq request.session.0 journal.session.0)) _ _
    (not_from_true (bytes_eq request.session.0 journal.session.0)
    ((bytes_eq-Decides request.session.0 journal.session.0).1 (ap (λ (s : Session). s.0) is.session)))
    ∙ cond-false (eqb request.sequence 0) _ _ (ne_eqb request.sequence 0 (λ none. omega (arith, none, is.first)))
    ∙ cond-false (eqb request.count 0) _ _ (ne_eqb request.count 0 (λ none. omega (arith, none, is.count)))
    ∙ cond-false (ltb (length journal.messages) request.sequence) _ _
    (le-ltb (length journal.messages) request.sequence is.last)

-- An accepted request is the one that was decoded, and nothing refuses it.
pub record IsJudged (journal : JournalState) (read : Result Request RequestError) (request : Request) : Type 0 where
  pub read_is : read ≡ Ok request
  pub answerable : IsAnswerable journal request

unless_ok :
    (refusal : Option AnswerError) (read request : Request) → unless refusal read ≡ Ok request →
    (refusal ≡ None) × (read ≡ request)
unless_ok None read request is = (refl, cc)
unless_ok (Some error) read request is = absurd cc

pub judged_from :
    (journal : JournalState) (read : Result Request RequestError) (request : Request) →
    judged journal read ≡ Ok request → IsJudged journal read request
judged_from journal (Err (fault.RequestLength len)) request is = absurd cc
judged_from journal (Ok read) request is =
    let both = unless_ok (request_refusal journal read) read request is in
    record {
      read_is = ap as_read both.1;
      answerable = subst (IsAnswerable journal) both.1 (answerable_from journal read both.0);
    }

pub judged_to :
    (journal : JournalState) (request : Request) → IsAnswerable journal request →
    judged journal (Ok request) ≡ Ok request
judged_to journal request is =
    ap (λ (r : Option AnswerError). unless r request) (answerable_to journal request is)

-- The plan is the one for a request that was accepted.
pub record IsPlanned (journal : JournalState) (burst : ℕ) (bytes : List ℕ) (plan : PlanState) : Type 0 where
  pub request : Request
  pub asks : checked_request journal bytes ≡ Ok request
  pub answerable : IsAnswerable journal request
  pub plan_is : plan ≡ plan_for journal burst request

planned_of :
    (journal : JournalState) (burst : ℕ) (bytes : List ℕ) (plan : PlanState)
    (asked : Result Request AnswerError) → checked_request journal bytes ≡ asked → Ok plan ≡ plan_of journal burst asked →
    IsPlanned journal burst bytes plan
planned_of journal burst bytes plan (Err error) asks is = absurd cc
planned_of journal burst bytes plan (Ok request) asks is = record {
  request = request;
  asks = asks;
  answerable = (judged_from journal (request_reading bytes) request asks).answerable;
  plan_is = cc;
}

pub planned_from :
    (journal : JournalState) (burst : ℕ) (bytes : List ℕ) (plan : PlanState) →
    Ok plan ≡ planning journal burst bytes → IsPlanned journal burst bytes plan
planned_from journal burst bytes plan is = planned_of journal burst bytes plan (checked_request journal bytes) refl is

-- All messages of a journal are below its next number.
pub all_below : (journal : JournalState) (below : ℕ) → below ≡ length journal.messages + 1 →
    journal_below journal below ≡ journal
all_below journal below is =
    ap (λ (ms : List (List ℕ)). record journal { messages = ms })
    (take_all (below - 1) journal.messages (omega (arith, is)))

-- A plan that was made from the messages below a number ends there.
pub planned_within :
    (journal : JournalState) (burst below : ℕ) (bytes : List ℕ) (plan : PlanState) →
    Ok plan ≡ planning (journal_below journal below) burst bytes → plan.to ≤ below
planned_within journal burst below bytes plan is =
    let from = planned_from (journal_below journal below) burst bytes plan is in
    omega (
      arith,
      ap (λ (p : PlanState). p.to) from.plan_is,
      length-take (below - 1) journal.messages,
      from.answerable.first,
      from.answerable.last,
    )
