-- The responses to a request, offered one by one.
use Rattle.std.proofs.Common.{◌≡◌, ℕ, ◌-◌, Bool, true, false, List, [], ◌∷◌, ◌++◌, length, Result, Ok, Err, refl, sym, ap, subst, ◌∙◌, append_assoc, arith, inl, inr}
use Rattle.std.proofs.lemmas.Result.{IfOk-from_err, on_ok_weaker}
use Rattle.std.specs.Prelude.{IsErr, OnOk}
use Rattle.mold_ports.specs.Ports.{Port, offered}
use Rattle.mold_serve.specs.Answering.{OffersOne, OffersNext, OffersOrStops, Reaches, left_of}
use Rattle.mold_serve.specs.Serving.{Service, ResponderState, offer, offer_all, replied, reply, reply_to, service_of, responder_of}
use Rattle.mold_serve.specs.Tally.{with_answered, with_failed, with_refused}
use Rattle.mold_serve.specs.declared.tally.Tally.{Tally}
use Rattle.mold_serve.proofs.ServingLemmas.{offer_all_sends}
use Rattle.mold_session.specs.Answer.{PlanState, SendsNext, answer, moved, next_packet, next_part, plan_for, planned}
use Rattle.mold_session.specs.Journal.{JournalState}
use Rattle.mold_session.specs.Server.{IsAnswerable, ServerState, checked_request, counted, plan_of, planning}
use Rattle.mold_session.specs.declared.error.AnswerError.{AnswerError}
use Rattle.mold_turns.specs.Runs.{Begins}
use Rattle.mold_turns.proofs.RunLemmas.{begins_whole, none_ok, on_ok}
use Rattle.mold_wire.specs.declared.packet.Packet.{Packet}
use Rattle.mold_wire.specs.declared.request.Request.{Request}
use Rattle.mold_wire.specs.Packet.{Spells, spelling_of}

-- ---- one packet

abbrev responder : {P : Type 0} → Port P → Tally → ℕ → ResponderState P
responder port tally requests = record { port = port; tally = tally; requests = requests }

same_responder : {P : Type 0} {one other : Port P} {tally report : Tally} {requests counted : ℕ} → one ≡ other →
    tally ≡ report → requests ≡ counted → responder one tally requests ≡ responder other report counted
same_responder {P} {one} {other} {tally} {report} {requests} {counted} ports tallies numbers =
    ap (λ (p : Port P). responder p tally requests) ports
    ∙ ap (λ (t : Tally). responder other t requests) tallies
    ∙ ap (responder other report) numbers

module _ {P T E : Type 0} (to : P) (result : Result T E) (service : Service) (plan behind : PlanState)
    (bytes : List ℕ) (old new : Port P) (tally report : Tally) (server after : ServerState)
    (next : SendsNext service.journal.messages service.limit plan)
    (moves : behind ≡ moved plan (length (next_part service.journal.messages service.limit plan)))
    (spells : Spells (next_packet service.journal.messages service.limit plan) bytes) (same : after ≡ server) where
  parts : left_of service plan
      ≡ next_packet service.journal.messages service.limit plan ∷ left_of service behind
  parts =
      next.sent
      ∙ ap (λ (p : PlanState). next_packet service.journal.messages service.limit plan ∷ left_of service p)
      (sym moves)

  -- its send failed
  pub offered_in_vain : new ≡ offered true to bytes old → report ≡ with_failed tally →
      OffersOne to result (left_of service plan) (left_of service behind) (responder_of old tally server)
      (responder_of new report after)
  offered_in_vain sent counted = record {
    fails = true;
    packet = next_packet service.journal.messages service.limit plan;
    parts = parts;
    port = sent;
    whole = on_ok result (same_responder sent counted (ap (λ (s : ServerState). s.answered) same));
  }

  -- it was sent, and then memory ran out
  pub offered_unprinted : new ≡ offered false to bytes old → IsErr result →
      OffersOne to result (left_of service plan) (left_of service behind) (responder_of old tally server)
      (responder_of new report after)
  offered_unprinted sent refused = record {
    fails = false;
    packet = next_packet service.journal.messages service.limit plan;
    parts = parts;
    port = sent ∙ ap (λ (b : List ℕ). offered false to b old) spells.spelled;
    whole = IfOk-from_err result _ refused;
  }

  -- it was sent
  pub offered_well : (sequence top : ℕ) → sequence ≡ plan.from → top ≡ behind.from →
      new ≡ offered false to bytes old → report ≡ with_answered sequence (top - sequence) tally →
      OffersOne to result (left_of service plan) (left_of service behind) (responder_of old tally server)
      (responder_of new report after)
  offered_well sequence top first last sent counted =
      let packet = next_packet service.journal.messages service.limit plan in
      let count = length (next_part service.journal.messages service.limit plan) in
      let many : top - sequence ≡ count = omega (arith, first, last ∙ ap (λ (p : PlanState). p.from) moves) in
      let spelled : new ≡ offered false to (spelling_of packet) old =
      sent ∙ ap (λ (b : List ℕ). offered false to b old) spells.spelled in
      record {
        fails = false;
        packet = packet;
        parts = parts;
        port = spelled;
        whole =
            on_ok result
            (same_responder spelled
            (counted ∙ ap (λ (n : ℕ). with_answered n (top - sequence) tally) first
            ∙ ap (λ (n : ℕ). with_answered plan.from n tally) many)
            (ap (λ (s : ServerState). s.answered) same));
      }

-- ---- all packets

-- what is answered from stays the same while packets are offered
pub offers_of : {P T E : Type 0} (to : P) (result : Result T E) (more is : Bool) (service first : Service)
    (plan behind : PlanState) (old new : ResponderState P) → service ≡ first → more ≡ is →
    OffersNext to result more (left_of service plan) (left_of service behind) old new →
    OffersNext to result is (left_of first plan) (left_of first behind) old new
offers_of to result more is service first plan behind old new same so offers =
    subst (λ (b : Bool). OffersNext to result b (left_of first plan) (left_of first behind) old new) so
    (subst (λ (s : Service). OffersNext to result more (left_of s plan) (left_of s behind) old new) same offers)

pub stops_of : {P T E : Type 0} (to : P) (result : Result T E) (service first : Service) (plan behind : PlanState)
    (old new : ResponderState P) → service ≡ first →
    OffersOrStops to result (left_of service plan) (left_of service behind) old new →
    OffersOrStops to result (left_of first plan) (left_of first behind) old new
stops_of to result service first plan behind old new same offers =
    subst (λ (s : Service). OffersOrStops to result (left_of s plan) (left_of s behind) old new) same offers

-- Some of the packets were offered, and `left` remain. For all later choices, the offering continues from `now`.
pub record Offering {P : Type 0} (to : P) (all left : List Packet) (start now : ResponderState P) : Type 0 where
  pub fails : List Bool
  pub goes_on : (more : List Bool) → offer_all to all (fails ++ more) start ≡ offer_all to left more now

-- before the first packet
pub offering_init : {P : Type 0} (to : P) (all : List Packet) (start : ResponderState P) → Offering to all all start start
offering_init to all start = record { fails = []; goes_on = λ more. refl }

-- one packet after those
offer_first : {P : Type 0} (to : P) (fails : Bool) (packet : Packet) (left : List Packet) (more : List Bool)
    (responder : ResponderState P) →
    offer_all to (packet ∷ left) (fails ∷ more) responder ≡ offer_all to left more (offer to fails packet responder)
unfolding offer_all
offer_first to fails packet left more responder = refl

offering_after : {P T E : Type 0} {to : P} {all before after : List Packet} {start now : ResponderState P}
    (result : Result T E) (next : ResponderState P) (offering : Offering to all before start now)
    (one : OffersOne to result before after now next) (more : List Bool) →
    offer_all to all (offering.fails ++ one.fails ∷ more) start
    ≡ offer_all to after more (offer to one.fails one.packet now)
offering_after {P} {T} {E} {to} {all} {before} {after} {start} {now} result next offering one more =
    offering.goes_on (one.fails ∷ more)
    ∙ ap (λ (l : List Packet). offer_all to l (one.fails ∷ more) now) one.parts
    ∙ offer_first to one.fails one.packet after more now

-- one more was offered
pub offering_step : {P T E : Type 0} {to : P} {value : T} {all before after : List Packet} {start now : ResponderState P}
    (next : ResponderState P) → Offering to all before start now →
    OffersOne {T = T} {E = E} to (Ok value) before after now next → Offering to all after start next
offering_step {P} {T} {E} {to} {value} {all} {before} {after} {start} {now} next offering one = record {
  fails = offering.fails ++ one.fails ∷ [];
  goes_on = λ more.
      ap (λ (l : List Bool). offer_all to all l start) (append_assoc offering.fails (one.fails ∷ []) more)
      ∙ offering_after {T = T} {E = E} (Ok value) next offering one more
      ∙ ap (offer_all to after more) (sym one.whole);
}

-- no packet remained
no_more : {P : Type 0} (to : P) (more : List Bool) (responder : ResponderState P) → offer_all to [] more responder ≡ responder
unfolding offer_all
no_more to more responder = refl

offering_end : {P : Type 0} {to : P} {all left : List Packet} {start now : ResponderState P} (next : ResponderState P) →
    (offering : Offering to all left start now) → left ≡ [] → next ≡ now → next ≡ offer_all to all (offering.fails ++ []) start
offering_end {P} {to} {all} {left} {start} {now} next offering none same =
    same
    ∙ sym (no_more to [] now)
    ∙ ap (λ (l : List Packet). offer_all to l [] now) (sym none)
    ∙ sym (offering.goes_on [])

-- a fault after one that was sent
offering_cut : {P T E F : Type 0} {to : P} {all before after : List Packet} {start now : ResponderState P}
    (result : Result T E) (answer : Result (Unit {0}) F) (next : ResponderState P) (offering : Offering to all before start now)
    (one : OffersOne to result before after now next) → IsErr answer →
    Reaches answer next (offer_all to all (offering.fails ++ one.fails ∷ []) start)
offering_cut {P} {T} {E} {F} {to} {all} {before} {after} {start} {now} result answer next offering one failed =
    let end : ResponderState P = offer to one.fails one.packet now in
    let ran : ResponderState P = offer_all to all (offering.fails ++ one.fails ∷ []) start in
    record {
      whole = none_ok answer _ failed;
      sent =
          subst (λ (sent : List (P × List ℕ)). Begins sent ran.port.sent)
          (sym (ap (λ (p : Port P). p.sent) one.port))
          (subst (λ (s : ResponderState P). Begins end.port.sent s.port.sent)
          (sym (offering_after result next offering one []))
          (offer_all_sends to after [] end));
    }

-- nothing of the next packet was sent
offering_kept : {P F : Type 0} {to : P} {all before : List Packet} {start now : ResponderState P}
    (answer : Result (Unit {0}) F) (next : ResponderState P) (offering : Offering to all before start now) →
    next.port ≡ now.port → IsErr answer →
    Reaches answer next (offer_all to all (offering.fails ++ []) start)
offering_kept {P} {F} {to} {all} {before} {start} {now} answer next offering same failed =
    let ran : ResponderState P = offer_all to all (offering.fails ++ []) start in
    record {
      whole = none_ok answer _ failed;
      sent =
          subst (λ (sent : List (P × List ℕ)). Begins sent ran.port.sent) (sym (ap (λ (p : Port P). p.sent) same))
          (subst (λ (s : ResponderState P). Begins now.port.sent s.port.sent) (sym (offering.goes_on []))
          (offer_all_sends to before [] now));
    }

-- an error ended the offer of the next packet
pub offering_stopped : {P T E F : Type 0} {to : P} {all before after : List Packet} {start now : ResponderState P}
    (result : Result T E) (answer : Result (Unit {0}) F) (next : ResponderState P)
    (offering : Offering to all before start now) → OffersOrStops to result before after now next → IsErr answer →
    (fails : List Bool) × Reaches answer next (offer_all to all fails start)
offering_stopped result answer next offering (inl one) failed =
    (offering.fails ++ one.fails ∷ [], offering_cut result answer next offering one failed)
offering_stopped result answer next offering (inr same) failed =
    (offering.fails ++ [], offering_kept answer next offering same failed)

-- no packet remained
pub offering_done : {P E : Type 0} {to : P} {all left : List Packet} {start now : ResponderState P} (next : ResponderState P) →
    (offering : Offering to all left start now) → left ≡ [] → next ≡ now →
    Reaches {T = Unit {0}} {E = E} (Ok tt) next (offer_all to all (offering.fails ++ []) start)
offering_done {P} {E} {to} {all} {left} {start} {now} next offering none same =
    let end = offering_end next offering none same in
    record {
      whole = end;
      sent =
          subst (λ (s : ResponderState P). Begins next.port.sent s.port.sent) end (begins_whole next.port.sent);
    }

-- ---- a request

refused_by : (service : Service) (journal : JournalState) (burst : ℕ) (asked : Result Request AnswerError)
    (why : AnswerError) → Err why ≡ plan_of journal burst asked → reply_to service asked ≡ Err why
refused_by service journal burst (Ok request) why is = let no : ⊥ = cc in absurd no
refused_by service journal burst (Err error) why is = cc

-- a request without a plan is refused for the same reason
pub refused_so : {P E : Type 0} (result : Result (Unit {0}) E) (to : P) (journal : JournalState) (bytes : List ℕ)
    (why : AnswerError) (port : Port P) (tally report : Tally) (server after : ServerState) →
    Err why ≡ planning journal server.burst bytes → after ≡ server → OnOk result (report ≡ with_refused why tally) →
    Reaches result (responder_of port report after)
    (replied to [] (reply (service_of journal server) bytes) (responder_of port tally server))
refused_so {P} {E} result to journal bytes why port tally report server after planned same counted =
    let service = service_of journal server in
    let is : reply service bytes ≡ Err why =
    refused_by service journal server.burst (checked_request journal bytes) why planned in
    subst
    (λ (r : Result (List Packet) AnswerError).
    Reaches result (responder_of port report after) (replied to [] r (responder_of port tally server)))
    (sym is)
    (record {
      whole =
          on_ok_weaker result
          (λ (t : report ≡ with_refused why tally). same_responder refl t (ap (λ (s : ServerState). s.answered) same))
          counted;
      sent = begins_whole port.sent;
    })

-- a new plan sends the packets of the responses
plans : (journal : JournalState) (server : ServerState) (bytes : List ℕ) (plan : PlanState)
    (asked : Result Request AnswerError) →
    ((request : Request) → checked_request journal bytes ≡ Ok request → IsAnswerable journal request) →
    ((request : Request) → IsAnswerable journal request →
    planned journal.messages server.limit (plan_for journal server.burst request)
    ≡ answer journal.messages journal.session server.limit request.sequence request.count server.burst) →
    checked_request journal bytes ≡ asked → Ok plan ≡ plan_of journal server.burst asked →
    reply_to (service_of journal server) asked ≡ Ok (left_of (service_of journal server) plan)
plans journal server bytes plan (Err error) answerable answers is made = let no : ⊥ = cc in absurd no
plans journal server bytes plan (Ok request) answerable answers is made =
    let for : plan ≡ plan_for journal server.burst request = cc in
    ap Ok
    (sym (answers request (answerable request is))
    ∙ ap (planned journal.messages server.limit) (sym for))

-- a request is answered with all packets of its plan
pub answered_so : {P E : Type 0} (result : Result (Unit {0}) E) (to : P) (journal : JournalState) (bytes : List ℕ)
    (plan : PlanState) (fails : List Bool) (port : Port P) (tally : Tally) (server after : ServerState)
    (new : ResponderState P) →
    ((request : Request) → checked_request journal bytes ≡ Ok request → IsAnswerable journal request) →
    ((request : Request) → IsAnswerable journal request →
    planned journal.messages server.limit (plan_for journal server.burst request)
    ≡ answer journal.messages journal.session server.limit request.sequence request.count server.burst) →
    Ok plan ≡ planning journal server.burst bytes → after ≡ counted server →
    Reaches result new (offer_all to (left_of (service_of journal after) plan) fails (responder_of port tally after)) →
    Reaches result new (replied to fails (reply (service_of journal server) bytes) (responder_of port tally server))
answered_so {P} {E} result to journal bytes plan fails port tally server after new answerable answers made same reached =
    let service = service_of journal server in
    let is : reply service bytes ≡ Ok (left_of service plan) =
    plans journal server bytes plan (checked_request journal bytes) answerable answers refl made in
    subst (λ (r : Result (List Packet) AnswerError). Reaches result new (replied to fails r (responder_of port tally server)))
    (sym is)
    (subst
    (λ (s : ServerState).
    Reaches result new (offer_all to (left_of (service_of journal s) plan) fails (responder_of port tally s)))
    same
    reached)
