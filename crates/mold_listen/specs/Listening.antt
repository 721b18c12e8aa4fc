-- The turns of a listener on two lines: what it receives, requests and prints. A whole run is `run` of `listening`.
use Rattle.std.specs.Prelude.{◌≡◌, ◌⊎◌, ℕ, zero, suc, Bool, true, false, ◌==◌, if◌then◌else◌, List, [], ◌∷◌, ◌++◌}
use Rattle.std.specs.Prelude.{Option, None, Some, Result, OnOk}
use Rattle.mold_ports.specs.Ports.{Port, Receipt, Datagram, Quiet, Failure, cut, next_of, offered, received}
use Rattle.mold_receiver.specs.Arbiter.{Arbitration, arbitrates}
use Rattle.mold_receiver.specs.Receive.{receive}
use Rattle.mold_receiver.specs.Wanted.{wanted}
use Rattle.mold_receiver.specs.declared.line.Line.{Line}
use Rattle.mold_receiver.specs.declared.line.Line.TheVariants.{A, B}
use Rattle.mold_input.specs.declared.message_format.MessageFormat.{MessageFormat}
use Rattle.mold_turns.specs.Outgoing.{OutgoingState, failed_once, note_side, nothing_in, with_both, with_front, with_fronts}
use Rattle.mold_turns.specs.Outgoing.{with_more, with_stop}
use Rattle.mold_turns.specs.Runs.{Begins, Loop}
use Rattle.mold_listen.specs.declared.feed_listener.FeedListener.{FeedListener}
use Rattle.mold_wire.specs.Request.{request_spelling}
use Rattle.mold_wire.specs.declared.request.Request.{Request}
use Rattle.mold_listen.specs.Text.{end_note, end_status, end_text, finished_line, handed_text, open_line, printable}
use Rattle.mold_listen.specs.Text.{reports_text, stop_after, taking_side, taking_stop, taking_text}
use Rattle.mold_receiver.specs.Store.{Message}
use Rattle.mold_wire.specs.declared.limits.TheConstants.{MAX_LIMIT}

-- An arbiter, and the outgoing text and failures of the listener.
pub record Progress : Type 0 where
  pub arbitration : Arbitration
  pub outgoing : OutgoingState

-- The pair of this arbiter and this outgoing state.
abbrev pub progress : Arbitration → OutgoingState → Progress
progress arbitration outgoing = record { arbitration = arbitration; outgoing = outgoing }

-- The outgoing state after messages were delivered. They have consecutive numbers, and the first number is `number`.
abbrev pub with_handed : ℕ → List Message → OutgoingState → OutgoingState
with_handed number messages outgoing = with_stop (stop_after outgoing.format outgoing.stopped number messages)
    (with_more (handed_text outgoing.format number (printable outgoing.format outgoing.stopped messages)) outgoing)

-- The progress after the arbiter took a datagram. It was received on `line`, or as a response if there is no line. The
-- messages that it delivers are printed, or the reason why it is refused. In the format `BlocksToEmpty` printing stops
-- before an empty message.
abbrev pub taken : Option Line → List ℕ → Progress → Progress
taken line bytes e = record {
  arbitration = arbitrates line bytes e.arbitration;
  outgoing = with_stop
      (taking_stop e.outgoing.format e.outgoing.stopped e.arbitration.view.next (receive e.arbitration.view bytes))
      (with_both
      (taking_text e.outgoing.format e.outgoing.stopped e.arbitration.view.next (receive e.arbitration.view bytes))
      (taking_side e.outgoing.format (receive e.arbitration.view bytes)) e.outgoing);
}

-- The progress after a send or receive failed.
abbrev pub missed : Progress → Progress
missed e = record { arbitration = e.arbitration; outgoing = failed_once e.outgoing }

-- The progress after a receive on `line`. A datagram is taken, and a failure is counted.
abbrev pub with_receipt : {P : Type 0} → Option Line → Receipt P → Progress → Progress
with_receipt line (Datagram from bytes) e = taken line bytes e
with_receipt line Quiet e = e
with_receipt line Failure e = missed e

-- The progress after the next receive of the port. Only the first 65,507 bytes of a datagram are used.
unfoldable pub with_next_receipt : {P : Type 0} → Option Line → Port P → Progress → Progress
with_next_receipt line port e = with_receipt line (cut MAX_LIMIT (next_of port)) e

-- Whether the receive gives a datagram.
abbrev pub is_datagram : {P : Type 0} → Receipt P → Bool
is_datagram (Datagram from bytes) = true
is_datagram Quiet = false
is_datagram Failure = false

-- The number of receives that are made for one request, at most `most`. The first receive that gives no datagram is
-- the last one.
unfoldable pub receives : {P : Type 0} → ℕ → List (Receipt P) → ℕ
receives zero comes = 0
receives (suc most) [] = 1
receives (suc most) (Datagram from bytes ∷ comes) = suc (receives most comes)
receives (suc most) (Quiet ∷ comes) = 1
receives (suc most) (Failure ∷ comes) = 1

-- The port that requests are sent from, and the progress of the listener.
pub record Asking (P : Type 0) : Type 0 where
  pub port : Port P
  pub progress : Progress

-- The state with this port, this arbiter and this outgoing state.
abbrev pub asking : {P : Type 0} → Port P → Arbitration → OutgoingState → Asking P
asking port arbitration outgoing = record { port = port; progress = progress arbitration outgoing }

-- The state after a number of receives of responses.
unfoldable pub receive_responses : {P : Type 0} → ℕ → Asking P → Asking P
receive_responses zero s = s
receive_responses (suc more) s =
    receive_responses more (record { port = received s.port; progress = with_next_receipt None s.port s.progress })

-- The state after a turn's request, if there is one. If its send fails, the failure is counted. Otherwise at most
-- `burst` receives are made, up to the first that gives no datagram.
abbrev pub asked : {P : Type 0} → Option Request → P → ℕ → Bool → Asking P → Asking P
asked None server burst fails s = s
asked (Some request) server burst true s =
    record { port = offered true server (request_spelling request) s.port; progress = missed s.progress }
asked (Some request) server burst false s =
    receive_responses (receives burst s.port.comes)
    (record { port = offered false server (request_spelling request) s.port; progress = s.progress })

-- After a success, the request was made and `after` is the state that follows; its send failed or succeeded. After a
-- fault, what was sent is the same as without the fault.
pub record HasAsked {P T E : Type 0} (request : Option Request) (server : P) (burst : ℕ) (result : Result T E)
    (before after : Asking P) : Type 0 where
  -- whether the send of the request failed
  pub fails : Bool
  pub whole : OnOk result (after ≡ asked request server burst fails before)
  pub sent : after.port.sent ≡ (asked request server burst fails before).port.sent

-- The state of a listener: the ports of lines A and B, the port that requests are sent from, and its progress.
pub record ListenerState (P : Type 0) : Type 0 where
  pub a : Port P
  pub b : Port P
  pub requests : Port P
  pub progress : Progress

-- The state with these ports, this arbiter and this outgoing state.
abbrev pub listener : {P : Type 0} → Port P → Port P → Port P → Arbitration → OutgoingState → ListenerState P
listener a b requests arbitration outgoing =
    record { a = a; b = b; requests = requests; progress = progress arbitration outgoing }

-- The state of the listener `feed`. `port` gives the model of each port.
abbrev pub state : {D P : Type 0} → (D → Port P) → FeedListener D → ListenerState P
state port feed =
    listener (port feed.a.now) (port feed.b.now) (port feed.requests.now) feed.arbiter.now feed.printer.now.outgoing

-- The part of the state of the listener `feed` that a request changes. `port` gives the model of its port.
abbrev pub asking_state : {D P : Type 0} → (D → Port P) → FeedListener D → Asking P
asking_state port feed = asking (port feed.requests.now) feed.arbiter.now feed.printer.now.outgoing

-- The listener still has the same ports, arbiter and printer.
pub record IsSame {D : Type 0} (old new : FeedListener D) : Type 0 where
  pub a : new.a.ghost_name ≡ old.a.ghost_name
  pub b : new.b.ghost_name ≡ old.b.ghost_name
  pub requests : new.requests.ghost_name ≡ old.requests.ghost_name
  pub arbiter : new.arbiter.ghost_name ≡ old.arbiter.ghost_name
  pub printer : new.printer.ghost_name ≡ old.printer.ghost_name

-- The progress after one receive on line A and then one on line B.
abbrev pub after_lines : {P : Type 0} → ListenerState P → Progress
after_lines s = with_next_receipt (Some B) s.b (with_next_receipt (Some A) s.a s.progress)

-- The state after the receives on both lines and then the request.
abbrev pub turn_asked : {P : Type 0} → P → ℕ → Bool → ListenerState P → Asking P
turn_asked server burst fails s =
    asked (wanted (after_lines s).arbitration.view) server burst fails
    (record { port = s.requests; progress = after_lines s })

-- The state after one turn. `fails` states whether the send of the request fails.
unfoldable pub turn : {P : Type 0} → P → ℕ → Bool → ListenerState P → ListenerState P
turn server burst fails s = record {
  a = received s.a;
  b = received s.b;
  requests = (turn_asked server burst fails s).port;
  progress = (turn_asked server burst fails s).progress;
}

-- After a success, one turn was made and `after` is the state that follows. After a fault, what was sent is a prefix
-- of what the turn sends.
pub record HasTurned {P T E : Type 0} (server : P) (burst : ℕ) (result : Result T E) (before after : ListenerState P) :
    Type 0 where
  -- whether the send of the request failed
  pub fails : Bool
  pub whole : OnOk result (after ≡ turn server burst fails before)
  pub sent : Begins after.requests.sent (turn server burst fails before).requests.sent

-- The end of the session is known to be `next`: all messages before it were delivered.
abbrev pub ends_at : Option ℕ → ℕ → Bool
ends_at None next = false
ends_at (Some end) next = end == next

-- Whether the listener has delivered all messages up to the known end of the session.
abbrev pub is_finished : Progress → Bool
is_finished e = ends_at e.arbitration.view.ended e.arbitration.view.next

-- Whether a listener ends: printing stopped before an empty message, or it has finished.
abbrev pub ends_by : Option ℕ → Bool → Bool
ends_by None finished = finished
ends_by (Some empty) finished = true

-- Whether the listener ends after a turn that leaves this progress.
abbrev pub is_over : Progress → Bool
is_over e = ends_by e.outgoing.stopped (is_finished e)

-- The loop of a listener. It ends after the first turn that leaves the listener finished, or that delivers an empty
-- message which cannot be printed.
abbrev pub listening : {P : Type 0} → P → ℕ → Loop Bool (ListenerState P) (P × List ℕ)
listening server burst = record {
  turn = turn server burst;
  over = λ s. is_over s.progress;
  text = λ s. s.progress.outgoing.text;
  sent = λ s. s.requests.sent;
}

-- The listener is in the turn after the state `s`: it has received on neither line, on line A only, or on both lines.
abbrev pub IsInNextTurn : {P : Type 0} → Port P → Port P → ListenerState P → Type 0
IsInNextTurn a b s = ((a ≡ s.a) × (b ≡ s.b)) ⊎ ((a ≡ received s.a) × ((b ≡ s.b) ⊎ (b ≡ received s.b)))

-- The state with `front` put before its text.
abbrev pub put_before : {P : Type 0} → List ℕ → ListenerState P → ListenerState P
put_before front s =
    listener s.a s.b s.requests s.progress.arbitration (with_front front s.progress.outgoing)

-- The state with `said` put before its text for standard error.
abbrev pub put_beside : {P : Type 0} → List ℕ → ListenerState P → ListenerState P
put_beside said s =
    listener s.a s.b s.requests s.progress.arbitration (with_fronts [] said s.progress.outgoing)

-- All text of the listener for standard error.
abbrev pub side_text : {P : Type 0} → ListenerState P → List ℕ
side_text s = s.progress.outgoing.side

-- The state before the first turn: no text and no failures. Messages are printed in this format.
abbrev pub beginning : {P : Type 0} → MessageFormat → Port P → Port P → Port P → Arbitration → ListenerState P
beginning format a b requests arbitration = listener a b requests arbitration (nothing_in format)

-- The last line of a listener, which depends on whether it has finished.
abbrev pub last_line : Progress → List ℕ
last_line e =
    if is_finished e
    then finished_line e.arbitration.view.next e.outgoing.failures
    else open_line e.arbitration.view.next e.arbitration.view.known e.outgoing.failures

-- The status that belongs to a listener's last line: 0 if it has finished, otherwise 1.
abbrev pub line_status : Progress → ℕ
line_status e = if is_finished e then 0 else 1

-- The status of a listener: 2 if printing stopped before an empty message. Otherwise 0 if it has finished, and 1 if not.
abbrev pub listener_status : Progress → ℕ
listener_status e = end_status e.outgoing.stopped (is_finished e)

-- What a listener prints at its end apart from messages: the reports of both lines, if they were requested, and then
-- its last line. If printing stopped before an empty message, it is only the line of that message.
abbrev pub last_note : Bool → Progress → List ℕ
last_note reporting e = end_note e.outgoing.stopped
    (reports_text reporting e.arbitration.reports e.arbitration.view.known ++ last_line e)

-- What a listener prints on standard output after the messages: among lines its last lines, in the format
-- `BlocksToEmpty` the mark of the end if it has finished.
abbrev pub last_lines : Bool → Progress → List ℕ
last_lines reporting e =
    end_text e.outgoing.format e.outgoing.stopped (is_finished e) (last_note reporting e)

-- The last lines of a listener on standard error. There are none if messages are printed as lines.
abbrev pub last_side : Bool → Progress → List ℕ
last_side reporting e = note_side e.outgoing.format (last_note reporting e)

-- The last lines on standard output of a listener in the state `s`.
abbrev pub listened_lines : {P : Type 0} → Bool → ListenerState P → List ℕ
listened_lines reporting s = last_lines reporting s.progress

-- The last lines on standard error of a listener in the state `s`.
abbrev pub listened_side : {P : Type 0} → Bool → ListenerState P → List ℕ
listened_side reporting s = last_side reporting s.progress

-- The status of a listener in the state `s`.
abbrev pub status : {P : Type 0} → ListenerState P → ℕ
status s = listener_status s.progress

-- The ports and the arbiter are those of the state `end`.
pub record Agrees {P : Type 0} (a b requests : Port P) (arbitration : Arbitration) (end : ListenerState P) :
    Type 0 where
  pub a_left : a ≡ end.a
  pub b_left : b ≡ end.b
  pub requests_left : requests ≡ end.requests
  pub arbiter_left : arbitration ≡ end.progress.arbitration
