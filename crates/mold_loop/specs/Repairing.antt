-- Defines a round of requests in a loop. All rounds together are a run of `repairing`.
use Rattle.std.specs.Prelude.{◌≡◌, ℕ, Bool, true, false, List, []}
use Rattle.std.specs.Prelude.{Option, None, Some, Result, OnOk}
use Rattle.mold_ports.specs.Ports.{Port, offered}
use Rattle.mold_receiver.specs.Arbiter.{Arbitration}
use Rattle.mold_receiver.specs.Wanted.{wanted}
use Rattle.mold_session.specs.Server.{ServerState}
use Rattle.mold_wire.specs.Request.{request_spelling}
use Rattle.mold_wire.specs.declared.request.Request.{Request}
use Rattle.mold_listen.specs.Listening.{Asking, Progress, receive_responses, progress, missed}
use Rattle.mold_turns.specs.Outgoing.{OutgoingState, failed_often, with_front, with_fronts}
use Rattle.mold_turns.specs.Runs.{Begins, Loop}
use Rattle.mold_serve.specs.Serving.{ResponderState, Service, serve_turn}
use Rattle.mold_serve.specs.Tally.{no_tally}
use Rattle.mold_loop.specs.declared.loop_parts.Listener.{Listener}
use Rattle.mold_loop.specs.declared.loop_parts.LoopPorts.{LoopPorts}

-- The state of the rounds: the server's port, the port of requests, how many requests the server has responded to, and
-- the listener's progress.
pub record RepairState (P : Type 0) : Type 0 where
  pub server : Port P
  pub requests : Port P
  pub answered : ℕ
  pub progress : Progress

-- The state of the rounds with these ports, this server, this arbiter, and this unwritten text and count of failures.
abbrev pub repair_state : {P : Type 0} → Port P → Port P → ServerState → Arbitration → OutgoingState → RepairState P
repair_state port requests server arbitration outgoing = record {
  server = port;
  requests = requests;
  answered = server.answered;
  progress = progress arbitration outgoing;
}

-- The state of the rounds of a loop with these ports, this server and this listener. `port` returns the model of a
-- port.
abbrev pub rounds_at : {D A P : Type 0} → (D → Port P) → LoopPorts D A → ServerState → Listener → RepairState P
rounds_at port ports server listener =
    repair_state (port ports.server) (port ports.requests) server listener.arbiter listener.printer.outgoing

-- The listener's progress after `count` more failed sends or receives.
abbrev pub missed_more : ℕ → Progress → Progress
missed_more count e = progress e.arbitration (failed_often count e.outgoing)

-- The server after one turn, with a new tally. `fails` lists which sends of responses fail.
abbrev pub served : {P : Type 0} → Service → List Bool → RepairState P → ResponderState P
served service fails s = serve_turn service fails (record { port = s.server; tally = no_tally; requests = s.answered })

-- The listener after it counted the failures of the server's turn and made one receive for each response that was
-- sent.
abbrev pub after_responses : {P : Type 0} → ResponderState P → RepairState P → Asking P
after_responses responder s =
    receive_responses responder.tally.answered
    (record { port = s.requests; progress = missed_more responder.tally.outgoing.failures s.progress })

-- The state of the rounds that the server's turn and the receives for its responses leave.
abbrev pub after_answers : {P : Type 0} → ResponderState P → Asking P → RepairState P
after_answers responder with_receipt = record {
  server = responder.port;
  requests = with_receipt.port;
  answered = responder.requests;
  progress = with_receipt.progress;
}

-- The state after the server took one turn and its responses were received.
abbrev pub repaired : {P : Type 0} → Service → List Bool → RepairState P → RepairState P
repaired service fails s =
    after_answers (served service fails s) (after_responses (served service fails s) s)

-- The state after a request, if one is wanted, was sent to the server at `to`. If the send fails, the failure is
-- counted. Otherwise the server takes one turn. `choice` says whether the send fails, and which sends of responses
-- fail.
abbrev pub requested : {P : Type 0} → Option Request → P → Service → Bool × List Bool → RepairState P → RepairState P
requested None to service choice s = s
requested (Some request) to service (true, fails) s = record {
  server = s.server;
  requests = offered true to (request_spelling request) s.requests;
  answered = s.answered;
  progress = missed s.progress;
}
requested (Some request) to service (false, fails) s =
    repaired service fails
    (record {
      server = s.server;
      requests = offered false to (request_spelling request) s.requests;
      answered = s.answered;
      progress = s.progress;
    })

-- The state after one round: the wanted messages are requested. If none are wanted, nothing changes.
unfoldable pub round : {P : Type 0} → P → Service → Bool × List Bool → RepairState P → RepairState P
round to service choice s = requested (wanted s.progress.arbitration.view) to service choice s

-- The loop over rounds. One iteration is one round.
abbrev pub repairing : {P : Type 0} → P → Service → Loop (Bool × List Bool) (RepairState P) (P × List ℕ)
repairing to service = record {
  turn = round to service;
  over = λ s. false;
  text = λ s. s.progress.outgoing.text;
  sent = λ s. s.requests.sent;
}

-- The responses that the server's port sent.
abbrev pub answers_sent : {P : Type 0} → RepairState P → List (P × List ℕ)
answers_sent s = s.server.sent

-- The state with `front` put before its text for standard output.
abbrev pub text_before : {P : Type 0} → List ℕ → RepairState P → RepairState P
text_before front s = record {
  server = s.server;
  requests = s.requests;
  answered = s.answered;
  progress = progress s.progress.arbitration (with_front front s.progress.outgoing);
}

-- The state with `said` put before its text for standard error.
abbrev pub side_before : {P : Type 0} → List ℕ → RepairState P → RepairState P
side_before said s = record {
  server = s.server;
  requests = s.requests;
  answered = s.answered;
  progress = progress s.progress.arbitration (with_fronts [] said s.progress.outgoing);
}

-- All text for standard error.
abbrev pub rounds_side : {P : Type 0} → RepairState P → List ℕ
rounds_side s = s.progress.outgoing.side

-- The state `wanted` was reached. After a fault, the same requests were sent, and the responses sent are a prefix.
pub record HasRepaired {P T E : Type 0} (result : Result T E) (after wanted : RepairState P) : Type 0 where
  pub whole : OnOk result (after ≡ wanted)
  pub requests : after.requests.sent ≡ wanted.requests.sent
  pub answers : Begins after.server.sent wanted.server.sent
