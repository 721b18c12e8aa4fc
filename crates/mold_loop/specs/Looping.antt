-- Defines the loop in one process: the passing of the publisher's datagrams, then the rounds of requests. The
-- datagrams are a run of `passing`, the rounds are a run of `repairing`.
use Rattle.std.specs.Prelude.{◌≡◌, ℕ, ◌+◌, Bool, true, false, List, ◌++◌, length, map}
use Rattle.std.specs.Prelude.{Option, None, Some, Result, IfOk, IfSome, OnOk}
use Rattle.std.specs.Io.KnownBytes.{Appends}
use Rattle.mold_devices.specs.Devices.{AppendsPrefix}
use Rattle.mold_input.specs.Entries.{InputEntries}
use Rattle.mold_ports.specs.Ports.{Port, offered, received}
use Rattle.mold_publish.specs.Publishing.{PublishedInput, input_published, refused_text}
use Rattle.mold_publish.specs.declared.message_refusal.MessageRefusal.{MessageRefusal}
use Rattle.mold_receiver.specs.Arbiter.{Arbitration}
use Rattle.mold_receiver.specs.declared.line.Line.{Line}
use Rattle.mold_receiver.specs.declared.line.Line.TheVariants.{A, B}
use Rattle.mold_session.specs.Journal.{JournalState}
use Rattle.mold_session.specs.Publisher.{PublisherState}
use Rattle.mold_session.specs.Server.{ServerState}
use Rattle.mold_listen.specs.Listening.{Progress, with_next_receipt, progress, last_lines, last_note, listener_status}
use Rattle.mold_turns.specs.Outgoing.{OutgoingState, failed_once, note_side, note_text, with_fronts}
use Rattle.mold_loop.specs.Passing.{all_routed, routed}
use Rattle.mold_send.specs.PublishLoop.{data_after, left_journal}
use Rattle.mold_loop.specs.Repairing.{RepairState, repairing}
use Rattle.mold_turns.specs.Runs.{Begins, Loop, run}
use Rattle.mold_serve.specs.Serving.{Service, service_of}
use Rattle.mold_loop.specs.Writing.{HasWritten}
use Rattle.mold_loop.specs.declared.loop_parts.Drops.{Drops}
use Rattle.mold_loop.specs.declared.loop_parts.Listener.{Listener}
use Rattle.mold_loop.specs.declared.loop_parts.LoopPorts.{LoopPorts}
use Rattle.mold_loop.specs.declared.loop_parts.Routes.{Routes}

-- The outcome of a datagram on one line: it is left out there, its send fails, or it is sent.
pub data Outcome : Type 0 where
  LeftOut : Outcome
  Failed : Outcome
  Sent : Outcome

-- Whether a datagram with this outcome is offered on the line.
abbrev pub goes_out : Outcome → Bool
goes_out LeftOut = false
goes_out Failed = true
goes_out Sent = true

-- Whether a datagram with this outcome is sent on the line.
abbrev pub is_sent : Outcome → Bool
is_sent LeftOut = false
is_sent Failed = false
is_sent Sent = true

-- The publisher's port after one datagram with this outcome on a line, whose address is `to`.
abbrev pub port_after : {P : Type 0} → Outcome → P → List ℕ → Port P → Port P
port_after LeftOut to datagram port = port
port_after Failed to datagram port = offered true to datagram port
port_after Sent to datagram port = offered false to datagram port

-- The text and the count of failures after this outcome. A failed send is counted.
abbrev pub outgoing_after : Outcome → OutgoingState → OutgoingState
outgoing_after LeftOut outgoing = outgoing
outgoing_after Failed outgoing = failed_once outgoing
outgoing_after Sent outgoing = outgoing

-- One outcome of a datagram on a line leads from `old` and `before` to `new` and `after`. `goes` is whether the
-- datagram was offered there, and `sent` whether it was sent.
pub record ComesOf {P : Type 0} (goes sent : Bool) (to : P) (datagram : List ℕ) (old new : Port P)
    (before after : OutgoingState) : Type 0 where
  pub outcome : Outcome
  pub goes_as : goes ≡ goes_out outcome
  pub sent_as : sent ≡ is_sent outcome
  pub port : new ≡ port_after outcome to datagram old
  pub outgoing : after ≡ outgoing_after outcome before

-- A datagram has an outcome on line A and then one on line B.
pub record ComesOfBoth {P : Type 0} (routes sent : Routes) (a b : P) (datagram : List ℕ) (old new : Port P)
    (before after : OutgoingState) : Type 0 where
  -- The publisher's port between the two sends.
  pub port : Port P
  pub outgoing : OutgoingState
  pub on_a : ComesOf routes.a sent.a a datagram old port before outgoing
  pub on_b : ComesOf routes.b sent.b b datagram port new outgoing after

-- A datagram and its outcome on each line.
pub record Pass : Type 0 where
  pub datagram : List ℕ
  pub a : Outcome
  pub b : Outcome

-- The lines that a datagram is offered on, paired with the datagram.
abbrev pub routed_by : Pass → Routes × List ℕ
routed_by pass = (record { a = goes_out pass.a; b = goes_out pass.b }, pass.datagram)

-- The lines that a datagram is sent on.
abbrev pub sent_by : Pass → Routes
sent_by pass = record { a = is_sent pass.a; b = is_sent pass.b }

-- The state of the lines of a loop: the publisher's port, the ports of lines A and B, and the listener's progress.
pub record LineState (P : Type 0) : Type 0 where
  pub publisher : Port P
  pub a : Port P
  pub b : Port P
  pub progress : Progress

-- The state of the lines with these ports, this arbiter, and this unwritten text and count of failures.
abbrev pub line_state : {P : Type 0} → Port P → Port P → Port P → Arbitration → OutgoingState → LineState P
line_state publisher a b arbitration outgoing =
    record { publisher = publisher; a = a; b = b; progress = progress arbitration outgoing }

-- The state of the lines of a loop with these ports and this listener. `port` returns the model of a port.
abbrev pub lines_at : {D A P : Type 0} → (D → Port P) → LoopPorts D A → Listener → LineState P
lines_at port ports listener =
    line_state (port ports.publisher) (port ports.a) (port ports.b) listener.arbiter listener.printer.outgoing

-- The state of the lines after a datagram was offered on line A and then on line B, with these outcomes.
abbrev pub offered_by : {P : Type 0} → P → P → Pass → LineState P → LineState P
offered_by a b pass s =
    line_state (port_after pass.b b pass.datagram (port_after pass.a a pass.datagram s.publisher)) s.a s.b
    s.progress.arbitration (outgoing_after pass.b (outgoing_after pass.a s.progress.outgoing))

-- The port of a line after one receive, or unchanged if none is made.
abbrev pub received_if : {P : Type 0} → Bool → Port P → Port P
received_if false port = port
received_if true port = received port

-- The listener's progress after one receive on `line`, or unchanged if none is made.
abbrev pub after_line_if : {P : Type 0} → Bool → Line → Port P → Progress → Progress
after_line_if false line port e = e
after_line_if true line port e = with_next_receipt (Some line) port e

-- The state of the lines after one receive on each line of `lines`, on A and then on B.
abbrev pub after_routes : {P : Type 0} → Routes → LineState P → LineState P
after_routes lines s = record {
  publisher = s.publisher;
  a = received_if lines.a s.a;
  b = received_if lines.b s.b;
  progress = after_line_if lines.b B s.b (after_line_if lines.a A s.a s.progress);
}

-- The state of the lines after a datagram was passed: it is offered, and then received on the lines where it was sent.
unfoldable pub passed : {P : Type 0} → P → P → Pass → LineState P → LineState P
passed a b pass s = after_routes (sent_by pass) (offered_by a b pass s)

-- The loop over the datagrams of the publisher. One iteration passes one datagram.
abbrev pub passing : {P : Type 0} → P → P → Loop Pass (LineState P) (P × List ℕ)
passing a b = record {
  turn = passed a b;
  over = λ s. false;
  text = λ s. s.progress.outgoing.text;
  sent = λ s. s.publisher.sent;
}

-- The state with `front` put before its text for standard output, and `said` before that for standard error.
abbrev pub texts_front : {P : Type 0} → List ℕ → List ℕ → LineState P → LineState P
texts_front front said s = line_state s.publisher s.a s.b s.progress.arbitration
    (with_fronts front said s.progress.outgoing)

-- The datagrams were passed, with some outcomes. After a fault, only the publisher's port is known: it is as after all
-- of them.
pub record HasPassed {P T E : Type 0} (a b : P) (datagrams : List (Routes × List ℕ)) (result : Result T E)
    (before after : LineState P) : Type 0 where
  pub passes : List Pass
  pub are : map routed_by passes ≡ datagrams
  pub whole : OnOk result (after ≡ run (passing a b) passes before)
  pub offered : after.publisher ≡ (run (passing a b) passes before).publisher

-- What passing these datagrams leaves, together with the writes after it. They were passed with some outcomes. The
-- texts written are prefixes of the texts after them. After a fault, only that and the publisher's port are known.
pub record PassRests {P T E : Type 0} (a b : P) (datagrams : List (Routes × List ℕ)) (result : Result T E)
    (before after : LineState P) (old new errors_old errors_new : Option (List ℕ)) : Type 0 where
  pub passes : List Pass
  pub are : map routed_by passes ≡ datagrams
  -- The text that was written to standard output.
  pub written : List ℕ
  pub appended : Appends old new written
  -- The text that was written to standard error.
  pub said : List ℕ
  pub told : Appends errors_old errors_new said
  pub whole : OnOk result (run (passing a b) passes before ≡ texts_front written said after)
  pub text : Begins written (run (passing a b) passes before).progress.outgoing.text
  pub side : Begins said (run (passing a b) passes before).progress.outgoing.side
  pub offered : after.publisher ≡ (run (passing a b) passes before).publisher

-- The datagrams `front` are a prefix of the data datagrams for `input`. The publisher starts as `start`.
abbrev pub BeginsData : PublisherState → List (List ℕ) → InputEntries → Type 0
BeginsData start front input =
    Begins front (data_after start.limit start.sent (input_published start.journal input))

-- The datagrams `front` are all data datagrams for `input`. Publishing them leaves `journal`, and
-- `refused` is the reason why the next entry is refused, if one is.
abbrev pub IsData : PublisherState → List (List ℕ) → JournalState → Option MessageRefusal → InputEntries → Type 0
IsData start front journal refused input =
    (data_after start.limit start.sent (input_published start.journal input) ≡ front)
    × (input_published start.journal input ≡ record { journal = journal; refused = refused })

-- The loop passed data datagrams for its input. On success it passed all of them. Each of its texts was written up to
-- some point, and the rest is still to be printed. After a fault, the datagrams passed and the texts written are
-- prefixes.
pub record ReceivesMessages {P E : Type 0} (drops : Drops) (a b : P) (start now : PublisherState)
    (known : Option InputEntries) (result : Result (Option MessageRefusal) E) (before after : LineState P)
    (old new errors_old errors_new : Option (List ℕ)) : Type 0 where
  -- The datagrams that were offered.
  pub front : List (List ℕ)
  -- The same datagrams with their outcomes.
  pub passes : List Pass
  pub are : map routed_by passes ≡ routed drops 1 front
  -- The text that was written to standard output.
  pub written : List ℕ
  pub appended : Appends old new written
  -- The text that was written to standard error.
  pub said : List ℕ
  pub told : Appends errors_old errors_new said
  pub whole : OnOk result (run (passing a b) passes before ≡ texts_front written said after)
  pub text : Begins written (run (passing a b) passes before).progress.outgoing.text
  pub side : Begins said (run (passing a b) passes before).progress.outgoing.side
  pub offered : after.publisher ≡ (run (passing a b) passes before).publisher
  pub begins : IfSome known (BeginsData start front)
  pub all : IfOk result (λ refused. IfSome known (IsData start front now.journal refused))

-- The state of the rounds with the listener's progress replaced by `e`.
abbrev pub with_progress : {P : Type 0} → Progress → RepairState P → RepairState P
with_progress e s = record { server = s.server; requests = s.requests; answered = s.answered; progress = e }

-- The state after the rounds. If a line is refused, no round is made.
abbrev pub rounds_made : {P : Type 0} → Option MessageRefusal → P → Service → List (Bool × List Bool) → RepairState P →
    RepairState P
rounds_made None to service choices s = run (repairing to service) choices s
rounds_made (Some why) to service choices s = s

-- What a loop prints at its end apart from messages: the last lines of a listener or, if an entry is refused, the line
-- that reports the refusal.
abbrev pub loop_note : Bool → JournalState → Option MessageRefusal → Progress → List ℕ
loop_note reporting journal None e = last_note reporting e
loop_note reporting journal (Some why) e = refused_text (length journal.messages + 1) why

-- What a loop prints on standard output after the messages. Among lines these are its last lines. In the format
-- `BlocksToEmpty` it is the mark of the end if no entry is refused and the listener has finished.
abbrev pub loop_lines : Bool → JournalState → Option MessageRefusal → Progress → List ℕ
loop_lines reporting journal None e = last_lines reporting e
loop_lines reporting journal (Some why) e =
    note_text e.outgoing.format (refused_text (length journal.messages + 1) why)

-- The last lines of a loop on standard error. There are none if messages are printed as lines.
abbrev pub loop_side : Bool → JournalState → Option MessageRefusal → Progress → List ℕ
loop_side reporting journal refused e = note_side e.outgoing.format (loop_note reporting journal refused e)

-- The status of a loop: that of a listener, or 2 if an entry is refused.
abbrev pub loop_status : Option MessageRefusal → Progress → ℕ
loop_status None e = listener_status e
loop_status (Some why) e = 2

-- All text that a loop prints on standard output: the listener's text and the last lines.
abbrev pub loop_text : Bool → PublishedInput → Progress → List ℕ
loop_text reporting published e = e.outgoing.text ++ loop_lines reporting published.journal published.refused e

-- All text that a loop prints on standard error.
abbrev pub loop_side_text : Bool → PublishedInput → Progress → List ℕ
loop_side_text reporting published e =
    e.outgoing.side ++ loop_side reporting published.journal published.refused e

-- The ports, the arbiter and the count of failures are those of `line_end` and `round_end`. All text is written.
pub record LoopAgrees {P : Type 0} (lines line_end : LineState P) (rounds round_end : RepairState P) : Type 0 where
  pub publisher_left : lines.publisher ≡ line_end.publisher
  pub a_left : lines.a ≡ line_end.a
  pub b_left : lines.b ≡ line_end.b
  pub server_left : rounds.server ≡ round_end.server
  pub requests_left : rounds.requests ≡ round_end.requests
  pub answered_left : rounds.answered ≡ round_end.answered
  pub arbiter_left : rounds.progress.arbitration ≡ round_end.progress.arbitration
  pub outgoing_left : HasWritten round_end.progress.outgoing rounds.progress.outgoing

-- The state of the lines after the datagrams of `passes`, with their outcomes.
abbrev pub lines_after : {P : Type 0} → P → P → List Pass → LineState P → LineState P
lines_after a b passes lines = run (passing a b) passes lines

-- The state of the rounds after all rounds, if the listener's progress before them is `with_receipt`.
abbrev pub rounds_after : {P : Type 0} → P → PublishedInput → ServerState → List (Bool × List Bool) → Progress →
    RepairState P → RepairState P
rounds_after to published server choices with_receipt rounds =
    rounds_made published.refused to (service_of (left_journal published) server) choices
    (with_progress with_receipt rounds)

-- The state at the end of a loop: after the datagrams of `passes` and then after all rounds.
abbrev pub loop_end : {P : Type 0} → P → P → P → PublishedInput → ServerState → List Pass → List (Bool × List Bool) →
    LineState P → RepairState P → RepairState P
loop_end a b to published server passes choices lines rounds =
    rounds_after to published server choices (lines_after a b passes lines).progress rounds

-- The port `left` is the publisher's port after a prefix of `passes`.
pub record IsPortAfter {P : Type 0} (a b : P) (passes : List Pass) (lines : LineState P) (left : Port P) : Type 0 where
  pub front : List Pass
  pub begins : Begins front passes
  pub port : left ≡ (lines_after a b front lines).publisher

-- The outcome of a loop in one process that published this input. It agrees with a run of the loop for some choice of
-- which sends fail. After a success, all text of that run is written, its status is returned, and the loop is in its
-- last state. After a fault, the texts written and the requests and responses sent are prefixes of the run's. A prefix
-- of the run's datagrams was offered to the publisher's port.
pub record LoopRun {P E : Type 0} (reporting : Bool) (drops : Drops) (a b to : P) (turns limit sent : ℕ)
    (published : PublishedInput) (server : ServerState) (lines : LineState P) (rounds : RepairState P)
    (result : Result ℕ E) (old new errors_old errors_new : Option (List ℕ)) (lines_left : LineState P)
    (rounds_left : RepairState P) : Type 0 where
  -- The publisher's datagrams with their outcomes.
  pub passes : List Pass
  pub are : map routed_by passes ≡ all_routed drops limit sent published
  -- For each round: whether the send of the request fails, and which sends of responses fail.
  pub choices : List (Bool × List Bool)
  pub counted : length choices ≡ turns
  pub whole : IfOk result (λ status.
      Appends old new (loop_text reporting published
      (loop_end a b to published server passes choices lines rounds).progress)
      × (status ≡ loop_status published.refused
      (loop_end a b to published server passes choices lines rounds).progress))
  pub left : OnOk result (LoopAgrees lines_left (lines_after a b passes lines) rounds_left
      (loop_end a b to published server passes choices lines rounds))
  pub front : AppendsPrefix old new
      (loop_text reporting published (loop_end a b to published server passes choices lines rounds).progress)
  pub said : OnOk result (Appends errors_old errors_new
      (loop_side_text reporting published (loop_end a b to published server passes choices lines rounds).progress))
  pub said_front : AppendsPrefix errors_old errors_new
      (loop_side_text reporting published (loop_end a b to published server passes choices lines rounds).progress)
  pub offers : IsPortAfter a b passes lines lines_left.publisher
  pub requests : Begins rounds_left.requests.sent
      (loop_end a b to published server passes choices lines rounds).requests.sent
  pub answers : Begins rounds_left.server.sent
      (loop_end a b to published server passes choices lines rounds).server.sent
