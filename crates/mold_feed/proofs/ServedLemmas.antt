-- Everything that a server sends is true of the journal that it answers from.
use Rattle.std.proofs.Common.{◌≡◌, ℕ, ◌+◌, ◌≤◌, suc, Bool, true, false, List, [], ◌∷◌, ◌++◌, drop, length, Some}
use Rattle.std.proofs.Common.{Result, Ok, Err, refl, subst}
use Rattle.std.specs.Prelude.{slice_get}
use Rattle.std.specs.List.{AllByRecursion}
use Rattle.mold_turns.specs.Runs.{run}
use Rattle.mold_feed.specs.Sent.{AllSent}
use Rattle.mold_serve.specs.Serving.{ResponderState, Service, fails_first, met, offer, offer_all, replied, reply, reply_to}
use Rattle.mold_serve.specs.Serving.{serve_turn, serving}
use Rattle.mold_ports.specs.Ports.{Receipt, Datagram, Quiet, Failure, cut, next_of, received}
use Rattle.mold_session.specs.Answer.{IsPlan, PlanState, answer, plan_for, planned}
use Rattle.mold_session.specs.Journal.{JournalState}
use Rattle.mold_session.specs.Server.{IsAnswerable, checked_request}
use Rattle.mold_session.specs.Truthful.{MayAnswer, IsTrueDatagram}
use Rattle.mold_session.specs.declared.error.AnswerError.{AnswerError}
use Rattle.mold_wire.specs.Packet.{spelling_of}
use Rattle.mold_wire.specs.declared.packet.Packet.{Packet}
use Rattle.mold_wire.specs.declared.request.Request.{Request}
use Rattle.mold_wire.specs.declared.limits.TheConstants.{MAX_LIMIT}

-- the laws of the session about responses
pub record ServingLaws : Type 0 where
  pub answerable : (journal : JournalState) (request : Request) (bytes : List ℕ) →
      checked_request journal bytes ≡ Ok request → IsAnswerable journal request
  pub plan : (journal : JournalState) (burst : ℕ) (request : Request) → IsAnswerable journal request →
      IsPlan (plan_for journal burst request)
  pub within : (journal : JournalState) (burst : ℕ) (request : Request) →
      (plan_for journal burst request).to ≤ length journal.messages + 1
  pub answer_is : (journal : JournalState) (limit burst : ℕ) (request : Request) → IsAnswerable journal request →
      planned journal.messages limit (plan_for journal burst request)
      ≡ answer journal.messages journal.session limit request.sequence request.count burst
  pub told : (journal : JournalState) (limit : ℕ) (plan : PlanState) (index : ℕ) (packet : Packet) →
      MayAnswer journal limit → IsPlan plan → plan.to ≤ length journal.messages + 1 →
      plan.session ≡ journal.session → slice_get (planned journal.messages limit plan) index ≡ Some packet →
      IsTrueDatagram journal (spelling_of packet)

-- ---- packets that are offered

-- packets whose encodings satisfy `Good`
abbrev AllSpelled : (List ℕ → Type 0) → List Packet → Type 0
AllSpelled Good packets = AllByRecursion (λ packet. Good (spelling_of packet)) packets

-- what holds at each index of a list holds of all of it
each_at : {X : Type 0} (Q : X → Type 0) (xs : List X) →
    ((index : ℕ) (x : X) → slice_get xs index ≡ Some x → Q x) → AllByRecursion Q xs
each_at Q [] at = tt
each_at Q (x ∷ xs) at = (at 0 x refl, each_at Q xs (λ index y found. at (suc index) y found))

-- one more datagram
served_more : {P : Type 0} (Good : List ℕ → Type 0) (sent : List (P × List ℕ)) (letter : P × List ℕ) →
    AllSent Good sent → Good letter.1 → AllSent Good (sent ++ letter ∷ [])
served_more Good [] letter so good = (good, tt)
served_more Good (first ∷ sent) letter so good = (so.0, served_more Good sent letter so.1 good)

offer_sends_only : {P : Type 0} (Good : List ℕ → Type 0) (to : P) (fails : Bool) (packet : Packet)
    (responder : ResponderState P) → Good (spelling_of packet) → AllSent Good responder.port.sent →
    AllSent Good (offer to fails packet responder).port.sent
offer_sends_only Good to true packet responder good so = so
offer_sends_only Good to false packet responder good so =
    served_more Good responder.port.sent (to, spelling_of packet) so good

offer_all_sends_only : {P : Type 0} (Good : List ℕ → Type 0) (to : P) (packets : List Packet) (fails : List Bool)
    (responder : ResponderState P) → AllSpelled Good packets → AllSent Good responder.port.sent →
    AllSent Good (offer_all to packets fails responder).port.sent
unfolding offer_all
offer_all_sends_only Good to [] fails responder spelled so = so
offer_all_sends_only Good to (packet ∷ packets) fails responder spelled so =
    offer_all_sends_only Good to packets (drop 1 fails) (offer to (fails_first fails) packet responder) spelled.1
    (offer_sends_only Good to (fails_first fails) packet responder spelled.0 so)

-- the reply to a request has only packets whose encodings satisfy `Good`, or is a refusal
abbrev RepliesOnly : (List ℕ → Type 0) → Result (List Packet) AnswerError → Type 0
RepliesOnly Good (Ok packets) = AllSpelled Good packets
RepliesOnly Good (Err why) = Unit {0}

replied_sends_only : {P : Type 0} (Good : List ℕ → Type 0) (to : P) (fails : List Bool)
    (reply : Result (List Packet) AnswerError) (responder : ResponderState P) → RepliesOnly Good reply →
    AllSent Good responder.port.sent → AllSent Good (replied to fails reply responder).port.sent
replied_sends_only Good to fails (Ok packets) responder only so = offer_all_sends_only Good to packets fails _ only so
replied_sends_only Good to fails (Err why) responder only so = so

-- ---- responses are true

module _ (laws : ServingLaws) (service : Service) (may : MayAnswer service.journal service.limit) where
  answer_tells : (request : Request) → IsAnswerable service.journal request →
      AllSpelled (IsTrueDatagram service.journal)
      (answer service.journal.messages service.journal.session service.limit request.sequence request.count
      service.burst)
  answer_tells request is =
      let plan = plan_for service.journal service.burst request in
      subst (AllSpelled (IsTrueDatagram service.journal))
      (laws.answer_is service.journal service.limit service.burst request is)
      (each_at (λ packet. IsTrueDatagram service.journal (spelling_of packet))
      (planned service.journal.messages service.limit plan)
      (λ index packet found.
      laws.told service.journal service.limit plan index packet may (laws.plan service.journal service.burst request is)
      (laws.within service.journal service.burst request) refl found))

  reply_tells_to : (bytes : List ℕ) (asked : Result Request AnswerError) → checked_request service.journal bytes ≡ asked →
      RepliesOnly (IsTrueDatagram service.journal) (reply_to service asked)
  reply_tells_to bytes (Ok request) asks = answer_tells request (laws.answerable service.journal request bytes asks)
  reply_tells_to bytes (Err why) asks = tt

  met_tells : {P : Type 0} (fails : List Bool) (receipt : Receipt P) (responder : ResponderState P) →
      AllSent (IsTrueDatagram service.journal) responder.port.sent →
      AllSent (IsTrueDatagram service.journal) (met service fails receipt responder).port.sent
  met_tells fails (Datagram from bytes) responder so =
      replied_sends_only (IsTrueDatagram service.journal) from fails (reply service bytes) responder
      (reply_tells_to bytes (checked_request service.journal bytes) refl) so
  met_tells fails Quiet responder so = so
  met_tells fails Failure responder so = so

  turn_tells : {P : Type 0} (fails : List Bool) (responder : ResponderState P) →
      AllSent (IsTrueDatagram service.journal) responder.port.sent →
      AllSent (IsTrueDatagram service.journal) (serve_turn service fails responder).port.sent
  unfolding serve_turn
  turn_tells fails responder so =
      met_tells fails (cut MAX_LIMIT (next_of responder.port))
      (record { port = received responder.port; tally = responder.tally; requests = responder.requests }) so

  pub run_tells : {P : Type 0} (choices : List (List Bool)) (start : ResponderState P) →
      AllSent (IsTrueDatagram service.journal) start.port.sent →
      AllSent (IsTrueDatagram service.journal) (run (serving service) choices start).port.sent
  unfolding run
  run_tells [] start so = so
  run_tells (fails ∷ more) start so = run_tells more (serve_turn service fails start) (turn_tells fails start so)
