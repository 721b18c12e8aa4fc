-- Lemmas about one round of requests, and about the rounds as a loop.
use Rattle.std.proofs.Common.{◌≡◌, ℕ, ◌-◌, suc, Bool, true, false, List, [], ◌∷◌, ◌++◌, length, replicate}
use Rattle.std.proofs.Common.{Option, None, Some, Result, Ok, Err, ap, refl, sym, subst, ◌∙◌, append_assoc, arith, length-append}
use Rattle.std.proofs.Math.ListN.{length-replicate}
use Rattle.std.proofs.lemmas.Result.{on_ok_weaker}
use Rattle.std.specs.Prelude.{IsErr, OnOk, ◌≤◌}
use Rattle.std.proofs.KnownBytes.{Appends-nil}
use Rattle.mold_devices.specs.Devices.{AppendsPrefix}
use Rattle.mold_ports.specs.Ports.{Port, offered}
use Rattle.mold_receiver.specs.Wanted.{wanted}
use Rattle.mold_wire.specs.Request.{request_spelling}
use Rattle.mold_wire.specs.declared.request.Request.{Request}
use Rattle.mold_listen.specs.Listening.{Asking, Progress, receive_responses, progress, missed}
use Rattle.mold_turns.specs.Outgoing.{OutgoingState, with_fronts}
use Rattle.mold_loop.specs.Repairing.{HasRepaired, RepairState, after_responses, after_answers, missed_more, repaired}
use Rattle.mold_loop.specs.Repairing.{answers_sent, repairing, requested, round, rounds_side, served, side_before}
use Rattle.mold_loop.specs.Repairing.{text_before}
use Rattle.mold_loop.specs.Writing.{WritesPart}
use Rattle.mold_turns.specs.Runs.{Begins, run}
use Rattle.mold_turns.specs.Sides.{RestsOfTwo, TurnRestsOfTwo}
use Rattle.mold_serve.specs.Serving.{ResponderState, Service, responder_of, serve_turn}
use Rattle.mold_serve.specs.Answering.{Reaches}
use Rattle.mold_serve.specs.Tally.{no_tally}
use Rattle.mold_serve.specs.declared.tally.Tally.{Tally}
use Rattle.mold_session.specs.Server.{ServerState}
use Rattle.mold_listen.proofs.ListenLemmas.{hearing_sends, stepped}
use Rattle.mold_turns.proofs.OutgoingLemmas.{front_twice, fronts_twice}
use Rattle.mold_turns.proofs.RunLemmas.{GoingBeside, IsBeside, IsLoop, begins_more, begins_none, begins_trans}
use Rattle.mold_turns.proofs.RunLemmas.{begins_whole, none_ok, two_all}
use Rattle.mold_serve.proofs.ServingLemmas.{serving_is}
use Rattle.mold_listen.proofs.TurnLemmas.{answers_both, answers_print, answers_say}

-- ---- rounds are a loop

-- the state with texts put before both of its texts
abbrev pub both_before : {P : Type 0} → List ℕ → List ℕ → RepairState P → RepairState P
both_before front said s = record {
  server = s.server;
  requests = s.requests;
  answered = s.answered;
  progress = progress s.progress.arbitration (with_fronts front said s.progress.outgoing);
}

repaired_before : {P : Type 0} (service : Service) (front said : List ℕ) (fails : List Bool) (s : RepairState P) →
    repaired service fails (both_before front said s) ≡ both_before front said (repaired service fails s)
repaired_before {P} service front said fails s =
    let responder : ResponderState P = served service fails s in
    ap (after_answers responder)
    (answers_both front said responder.tally.answered
    (record { port = s.requests; progress = missed_more responder.tally.outgoing.failures s.progress }))

requested_before : {P : Type 0} (wish : Option Request) (to : P) (service : Service) (front said : List ℕ)
    (choice : Bool × List Bool) (s : RepairState P) →
    requested wish to service choice (both_before front said s) ≡ both_before front said
    (requested wish to service choice s)
requested_before None to service front said choice s = refl
requested_before (Some request) to service front said (true, fails) s = refl
requested_before (Some request) to service front said (false, fails) s =
    repaired_before service front said fails
    (record {
      server = s.server;
      requests = offered false to (request_spelling request) s.requests;
      answered = s.answered;
      progress = s.progress;
    })

pub round_before : {P : Type 0} (to : P) (service : Service) (front said : List ℕ) (choice : Bool × List Bool)
    (s : RepairState P) →
    round to service choice (both_before front said s) ≡ both_before front said (round to service choice s)
unfolding round
round_before to service front said choice s =
    requested_before (wanted s.progress.arbitration.view) to service front said choice s

repaired_prints : {P : Type 0} (service : Service) (fails : List Bool) (s : RepairState P) →
    Begins s.progress.outgoing.text (repaired service fails s).progress.outgoing.text
repaired_prints {P} service fails s =
    let responder : ResponderState P = served service fails s in
    answers_print responder.tally.answered
    (record { port = s.requests; progress = missed_more responder.tally.outgoing.failures s.progress })

repaired_says : {P : Type 0} (service : Service) (fails : List Bool) (s : RepairState P) →
    Begins s.progress.outgoing.side (repaired service fails s).progress.outgoing.side
repaired_says {P} service fails s =
    let responder : ResponderState P = served service fails s in
    answers_say responder.tally.answered
    (record { port = s.requests; progress = missed_more responder.tally.outgoing.failures s.progress })

repaired_requests : {P : Type 0} (service : Service) (fails : List Bool) (s : RepairState P) →
    (repaired service fails s).requests.sent ≡ s.requests.sent
repaired_requests {P} service fails s =
    let responder : ResponderState P = served service fails s in
    hearing_sends responder.tally.answered
    (record { port = s.requests; progress = missed_more responder.tally.outgoing.failures s.progress })

repaired_answers : {P : Type 0} (service : Service) (fails : List Bool) (s : RepairState P) →
    Begins s.server.sent (repaired service fails s).server.sent
repaired_answers service fails s =
    (serving_is service).sends fails (record { port = s.server; tally = no_tally; requests = s.answered })

requested_prints : {P : Type 0} (wish : Option Request) (to : P) (service : Service) (choice : Bool × List Bool)
    (s : RepairState P) → Begins s.progress.outgoing.text (requested wish to service choice s).progress.outgoing.text
requested_prints None to service choice s = begins_whole s.progress.outgoing.text
requested_prints (Some request) to service (true, fails) s = begins_whole s.progress.outgoing.text
requested_prints (Some request) to service (false, fails) s =
    repaired_prints service fails
    (record {
      server = s.server;
      requests = offered false to (request_spelling request) s.requests;
      answered = s.answered;
      progress = s.progress;
    })

requested_says : {P : Type 0} (wish : Option Request) (to : P) (service : Service) (choice : Bool × List Bool)
    (s : RepairState P) → Begins s.progress.outgoing.side (requested wish to service choice s).progress.outgoing.side
requested_says None to service choice s = begins_whole s.progress.outgoing.side
requested_says (Some request) to service (true, fails) s = begins_whole s.progress.outgoing.side
requested_says (Some request) to service (false, fails) s =
    repaired_says service fails
    (record {
      server = s.server;
      requests = offered false to (request_spelling request) s.requests;
      answered = s.answered;
      progress = s.progress;
    })

requested_sends : {P : Type 0} (wish : Option Request) (to : P) (service : Service) (choice : Bool × List Bool)
    (s : RepairState P) → Begins s.requests.sent (requested wish to service choice s).requests.sent
requested_sends None to service choice s = begins_whole s.requests.sent
requested_sends (Some request) to service (true, fails) s = begins_whole s.requests.sent
requested_sends {P} (Some request) to service (false, fails) s =
    subst (λ (l : List (P × List ℕ)). Begins s.requests.sent l)
    (sym (repaired_requests service fails
    (record {
      server = s.server;
      requests = offered false to (request_spelling request) s.requests;
      answered = s.answered;
      progress = s.progress;
    })))
    (begins_more s.requests.sent ((to, request_spelling request) ∷ []))

requested_answers : {P : Type 0} (wish : Option Request) (to : P) (service : Service) (choice : Bool × List Bool)
    (s : RepairState P) → Begins s.server.sent (requested wish to service choice s).server.sent
requested_answers None to service choice s = begins_whole s.server.sent
requested_answers (Some request) to service (true, fails) s = begins_whole s.server.sent
requested_answers (Some request) to service (false, fails) s =
    repaired_answers service fails
    (record {
      server = s.server;
      requests = offered false to (request_spelling request) s.requests;
      answered = s.answered;
      progress = s.progress;
    })

round_prints : {P : Type 0} (to : P) (service : Service) (choice : Bool × List Bool) (s : RepairState P) →
    Begins s.progress.outgoing.text (round to service choice s).progress.outgoing.text
unfolding round
round_prints to service choice s = requested_prints (wanted s.progress.arbitration.view) to service choice s

pub round_says : {P : Type 0} (to : P) (service : Service) (choice : Bool × List Bool) (s : RepairState P) →
    Begins s.progress.outgoing.side (round to service choice s).progress.outgoing.side
unfolding round
round_says to service choice s = requested_says (wanted s.progress.arbitration.view) to service choice s

round_sends : {P : Type 0} (to : P) (service : Service) (choice : Bool × List Bool) (s : RepairState P) →
    Begins s.requests.sent (round to service choice s).requests.sent
unfolding round
round_sends to service choice s = requested_sends (wanted s.progress.arbitration.view) to service choice s

pub round_answers : {P : Type 0} (to : P) (service : Service) (choice : Bool × List Bool) (s : RepairState P) →
    Begins (answers_sent s) (answers_sent (round to service choice s))
unfolding round
round_answers to service choice s = requested_answers (wanted s.progress.arbitration.view) to service choice s

pub rounds_are : {P : Type 0} (to : P) (service : Service) → IsLoop (repairing to service) text_before
rounds_are {P} to service = record {
  none = λ s. refl;
  twice = λ front back s.
      ap {B = RepairState P} (λ (outgoing : OutgoingState). record {
        server = s.server;
        requests = s.requests;
        answered = s.answered;
        progress = progress s.progress.arbitration outgoing;
      }) (front_twice front back s.progress.outgoing);
  turn = λ front. round_before to service front [];
  over = λ front s. refl;
  text = λ front s. refl;
  sent = λ front s. refl;
  prints = round_prints to service;
  sends = round_sends to service;
}

pub rounds_apart : {P : Type 0} (to : P) (service : Service) →
    IsBeside (repairing to service) text_before side_before rounds_side
rounds_apart {P} to service = record {
  nothing = λ s. refl;
  twice = λ one two s.
      ap {B = RepairState P} (λ (outgoing : OutgoingState). record {
        server = s.server;
        requests = s.requests;
        answered = s.answered;
        progress = progress s.progress.arbitration outgoing;
      }) (fronts_twice [] one [] two s.progress.outgoing);
  turn = round_before to service [];
  over = λ said s. refl;
  text = λ said s. refl;
  sent = λ said s. refl;
  swaps = λ said front s. refl;
  adds = λ said s. refl;
  same = λ front s. refl;
  says = round_says to service;
}

-- ---- responses

answer_step : {P : Type 0} (n : ℕ) (s : Asking P) → receive_responses n (stepped s) ≡ receive_responses (suc n) s
unfolding receive_responses
answer_step n s = refl

no_answer : {P : Type 0} (s : Asking P) → receive_responses 0 s ≡ s
unfolding receive_responses
no_answer s = refl

-- one more receive is made for a response
pub one_received : {P : Type 0} (left n : ℕ) (s after whole : Asking P) → left ≡ suc n → after ≡ stepped s →
    receive_responses left s ≡ whole → receive_responses n after ≡ whole
one_received left n s after whole more is with_receipt =
    ap (receive_responses n) is ∙ answer_step n s ∙ ap (λ (k : ℕ). receive_responses k s) (sym more) ∙ with_receipt

-- all receives are made
pub all_received : {P : Type 0} (left : ℕ) (s whole : Asking P) → left ≡ 0 → receive_responses left s ≡ whole → s ≡ whole
all_received left s whole none with_receipt = sym (no_answer s) ∙ ap (λ (k : ℕ). receive_responses k s) (sym none) ∙ with_receipt

-- ---- one round

-- the tally that a turn starts with
pub turn_from : {P T E : Type 0} (result : Result T E) (service : Service) (fails : List Bool) (port : Port P)
    (server : ServerState) (new : ResponderState P) {one other : Tally} → one ≡ other →
    Reaches result new (serve_turn service fails (responder_of port one server)) →
    Reaches result new (serve_turn service fails (responder_of port other server))
turn_from {P} result service fails port server new same reached =
    subst (λ (tally : Tally). Reaches result new (serve_turn service fails (responder_of port tally server))) same reached

state_is : {P : Type 0} (s : RepairState P) (responder : ResponderState P) (with_receipt : Asking P) → s.server ≡ responder.port →
    s.answered ≡ responder.requests → record { port = s.requests; progress = s.progress } ≡ with_receipt →
    s ≡ after_answers responder with_receipt
state_is {P} s responder with_receipt is_server is_answered is_received =
    ap {B = RepairState P} (λ (p : Port P). record { server = p; requests = s.requests; answered = s.answered; progress = s.progress })
    is_server
    ∙ ap {B = RepairState P} (λ (n : ℕ). record { server = responder.port; requests = s.requests; answered = n; progress = s.progress })
    is_answered
    ∙ ap (after_answers responder) is_received

-- the server took its turn, and its responses were received
pub has_repaired : {P T E : Type 0} (result : Result T E) (service : Service) (fails : List Bool)
    (before after : RepairState P) (responder : ResponderState P) (mid : Progress) (count : ℕ) →
    responder ≡ served service fails before → mid ≡ missed_more responder.tally.outgoing.failures before.progress →
    count ≡ responder.tally.answered → after.server ≡ responder.port → after.answered ≡ responder.requests →
    after.requests.sent ≡ before.requests.sent →
    OnOk result (record { port = after.requests; progress = after.progress }
    ≡ receive_responses count (record { port = before.requests; progress = mid })) →
    HasRepaired result after (repaired service fails before)
has_repaired {P} result service fails before after responder mid count is_served is_mid is_count server answered sent with_receipt =
    let all : ResponderState P → RepairState P = λ r. after_answers r (after_responses r before) in
    let same : receive_responses count (record { port = before.requests; progress = mid }) ≡ after_responses responder before =
    ap (λ (n : ℕ). receive_responses n (record { port = before.requests; progress = mid })) is_count
    ∙ ap (λ (e : Progress). receive_responses responder.tally.answered (record { port = before.requests; progress = e })) is_mid in
    record {
      whole =
          on_ok_weaker result
          (λ is. state_is after responder (after_responses responder before) server answered (is ∙ same) ∙ ap all is_served)
          with_receipt;
      requests = sent ∙ sym (repaired_requests service fails before);
      answers =
          subst (λ (l : List (P × List ℕ)). Begins after.server.sent l)
          (ap (λ (p : Port P). p.sent) server ∙ ap (λ (r : ResponderState P). r.port.sent) is_served)
          (begins_whole after.server.sent);
    }

-- the server's turn ended with a fault
pub repair_cut : {P T E : Type 0} {error : E} (service : Service) (fails : List Bool)
    (before after : RepairState P) → after.requests ≡ before.requests →
    Begins after.server.sent (served service fails before).port.sent →
    HasRepaired {T = T} {E = E} (Err error) after (repaired service fails before)
repair_cut {P} service fails before after same sent = record {
  whole = tt;
  requests = ap (λ (p : Port P). p.sent) same ∙ sym (repaired_requests service fails before);
  answers = sent;
}

-- the send of the request failed
pub round_missed : {P E : Type 0} (to : P) (service : Service) (request : Request) (before after : RepairState P)
    (requests : Port P) (bytes : List ℕ) (failed : Bool) → failed ≡ true → bytes ≡ request_spelling request →
    requests ≡ offered failed to bytes before.requests →
    after ≡ record { server = before.server; requests = requests; answered = before.answered; progress = missed before.progress } →
    HasRepaired {T = Unit {0}} {E = E} (Ok tt) after (requested (Some request) to service (true, []) before)
round_missed {P} to service request before after requests bytes failed fails spelled offers is =
    let of : Port P → RepairState P =
    λ p. record { server = before.server; requests = p; answered = before.answered; progress = missed before.progress } in
    let same : after ≡ requested (Some request) to service (true, []) before =
    is ∙ ap of (offers ∙ ap (λ (b : Bool). offered b to bytes before.requests) fails
    ∙ ap (λ (l : List ℕ). offered true to l before.requests) spelled) in
    record {
      whole = same;
      requests = ap (λ (s : RepairState P). s.requests.sent) same;
      answers = subst (λ (s : RepairState P). Begins after.server.sent s.server.sent) same (begins_whole after.server.sent);
    }

-- the request was sent, and the server took its turn
pub round_made : {P T E : Type 0} (result : Result T E) (to : P) (service : Service) (request : Request)
    (fails : List Bool) (before after : RepairState P) (requests : Port P) (bytes : List ℕ) (failed : Bool) →
    failed ≡ false → bytes ≡ request_spelling request → requests ≡ offered failed to bytes before.requests →
    HasRepaired result after
    (repaired service fails (record {
      server = before.server;
      requests = requests;
      answered = before.answered;
      progress = before.progress;
    })) →
    HasRepaired result after (requested (Some request) to service (false, fails) before)
round_made {P} result to service request fails before after requests bytes failed succeeds spelled offers has =
    subst
    (λ (p : Port P). HasRepaired result after
    (repaired service fails (record { server = before.server; requests = p; answered = before.answered; progress = before.progress })))
    (offers ∙ ap (λ (b : Bool). offered b to bytes before.requests) succeeds
    ∙ ap (λ (l : List ℕ). offered false to l before.requests) spelled)
    has

-- the round requests the wanted messages
pub round_is : {P T E : Type 0} (result : Result T E) (to : P) (service : Service) (request : Request)
    (choice : Bool × List Bool) (before after : RepairState P) → wanted before.progress.arbitration.view ≡ Some request →
    HasRepaired result after (requested (Some request) to service choice before) →
    HasRepaired result after (round to service choice before)
unfolding round
round_is {P} result to service request choice before after wish has =
    subst (λ (w : Option Request). HasRepaired result after (requested w to service choice before)) (sym wish) has

-- ---- nothing is wanted any more

stays : {P : Type 0} (to : P) (service : Service) (choices : List (Bool × List Bool)) (s : RepairState P) →
    wanted s.progress.arbitration.view ≡ None → run (repairing to service) choices s ≡ s
unfolding run round
stays to service [] s none = refl
stays {P} to service (choice ∷ more) s none =
    ap (run (repairing to service) more) (ap (λ (w : Option Request). requested w to service choice s) none)
    ∙ stays to service more s none

-- the remaining rounds change nothing
pub rests_still : {P T E : Type 0} (to : P) (service : Service) {value : T} (start now : RepairState P)
    (old new errors_old errors_new : Option (List ℕ)) (count turns : ℕ) →
    GoingBeside (repairing to service) text_before side_before start old new errors_old errors_new count now →
    count ≤ turns → wanted now.progress.arbitration.view ≡ None →
    RestsOfTwo {T = T} {E = E} (repairing to service) answers_sent text_before side_before rounds_side turns start
    (Ok value) old new errors_old errors_new now
rests_still {P} {T} {E} to service start now old new errors_old errors_new count turns beside few none =
    let going = beside.going in
    let choice : Bool × List Bool = (false, []) in
    let left : List (Bool × List Bool) = replicate (turns - count) choice in
    let all = going.choices ++ left in
    two_all (rounds_are to service) (rounds_apart to service) answers_sent (λ front s. refl) (λ said s. refl)
    (round_answers to service) {T = T} {E = E} turns
    (let same : length all ≡ turns =
    omega (arith, few, going.counted, length-append going.choices left, length-replicate (turns - count) choice) in same)
    (record {
      said = beside.said;
      appended = beside.appended;
      going = record {
        choices = all;
        counted = refl;
        written = going.written;
        appended = going.appended;
        goes_on = λ more.
            ap (λ (l : List (Bool × List Bool)). run (repairing to service) l start)
            (append_assoc going.choices left more)
            ∙ going.goes_on (left ++ more)
            ∙ stays to service (left ++ more) (both_before going.written beside.said now) none
            ∙ sym (stays to service more (both_before going.written beside.said now) none);
      };
    })

-- ---- between the rounds

pub sent_alike : {A : Type 0} {xs ys : List A} → xs ≡ ys → Begins xs ys
sent_alike {A} {xs} {ys} same = subst (λ (l : List A). Begins xs l) same (begins_whole xs)

-- a round was made, and then a prefix of each text was written
pub round_written : {P T U E F : Type 0} (to : P) (service : Service) (choice : Bool × List Bool) (value : U)
    (result : Result T E) (before made : RepairState P) {old new errors_old errors_new : Option (List ℕ)}
    (left : OutgoingState) → HasRepaired {T = U} {E = F} (Ok value) made (round to service choice before) →
    WritesPart result made.progress.outgoing left old new errors_old errors_new →
    TurnRestsOfTwo (repairing to service) answers_sent text_before side_before rounds_side before result old new
    errors_old errors_new
    (record {
      server = made.server;
      requests = made.requests;
      answered = made.answered;
      progress = progress made.progress.arbitration left;
    })
round_written {P} to service choice value result before made left has writes =
    let of : OutgoingState → RepairState P = λ o. record {
      server = made.server;
      requests = made.requests;
      answered = made.answered;
      progress = progress made.progress.arbitration o;
    } in
    record {
      turn = record {
        said = writes.said;
        appended = writes.told;
        turn = record {
          choice = choice;
          written = writes.written;
          appended = writes.appended;
          whole = on_ok_weaker result (λ is. sym has.whole ∙ ap of is) writes.whole;
          front =
              subst (λ (s : RepairState P). Begins writes.written s.progress.outgoing.text) has.whole writes.text;
          sent = sent_alike has.requests;
        };
        front = subst (λ (s : RepairState P). Begins writes.said s.progress.outgoing.side) has.whole writes.side;
      };
      others = has.answers;
    }

-- memory ran out in a round, and a prefix of the former text was written
pub round_failed : {P T U E F : Type 0} (to : P) (service : Service) (choice : Bool × List Bool) (step : Result U F)
    (result : Result T E) (before made after : RepairState P) {old new : Option (List ℕ)} (errors : Option (List ℕ)) →
    HasRepaired step made (round to service choice before) → after.requests ≡ made.requests →
    after.server ≡ made.server → AppendsPrefix old new before.progress.outgoing.text → IsErr result →
    TurnRestsOfTwo (repairing to service) answers_sent text_before side_before rounds_side before result old new errors
    errors after
round_failed {P} to service choice step result before made after errors has requests server cut failed = record {
  turn = record {
    said = [];
    appended = Appends-nil errors;
    turn = record {
      choice = choice;
      written = cut.front;
      appended = cut.appended;
      whole = none_ok result _ failed;
      front =
          begins_trans (record { rest = cut.rest; parts = cut.parts }) (round_prints to service choice before);
      sent = sent_alike (ap (λ (p : Port P). p.sent) requests ∙ has.requests);
    };
    front = begins_none _;
  };
  others =
      subst (λ (p : Port P). Begins p.sent (round to service choice before).server.sent) (sym server) has.answers;
}

-- the state after a repair, with the server that the loop left
pub repaired_so : {P T E : Type 0} (result : Result T E) (port requests : Port P) (answered last : ℕ) (e : Progress)
    (wanted : RepairState P) → last ≡ answered →
    HasRepaired result (record { server = port; requests = requests; answered = answered; progress = e }) wanted →
    HasRepaired result (record { server = port; requests = requests; answered = last; progress = e }) wanted
repaired_so result port requests answered last e wanted same has =
    subst
    (λ (n : ℕ). HasRepaired result (record { server = port; requests = requests; answered = n; progress = e }) wanted)
    (sym same)
    has
