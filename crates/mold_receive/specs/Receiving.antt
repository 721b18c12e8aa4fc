-- The calls that a receiver over ports makes of its repairer, and what they print and send.
use Rattle.std.specs.Prelude.{◌≡◌, ℕ, ◌+◌, ◌-◌, ◌&&◌, ◌==◌, Bool, true, false, if◌then◌else◌}
use Rattle.std.specs.Prelude.{codes, decimal}
use Rattle.std.specs.Prelude.{IfSome, length, List, [], ◌∷◌, ◌++◌, slice_get, Option, None, Some, Result, OnErr, OnOk}
use Rattle.std.specs.Io.KnownBytes.{Appends}
use Rattle.mold_devices.specs.Devices.{AppendsPrefix}
use Rattle.mold_devices.specs.Writing.{Moves}
use Rattle.mold_input.specs.declared.message_format.MessageFormat.{MessageFormat}
use Rattle.mold_input.specs.declared.message_format.MessageFormat.TheVariants.{Lines, Blocks, BlocksToEmpty}
use Rattle.mold_listen.specs.Listening.{ends_at}
use Rattle.mold_listen.specs.Text.{end_text, handed_text, printable, stop_after}
use Rattle.mold_pacing.specs.declared.gap.Gap.{Gap}
use Rattle.mold_port_set.specs.PortSet.{Given, PortSetState, Sent}
use Rattle.mold_receive.specs.declared.feed_receiver.FeedReceiver.{FeedReceiver}
use Rattle.mold_receive.specs.declared.first_packet.FirstPacket.{FirstPacket}
use Rattle.mold_receiver.specs.Batch.{Handed}
use Rattle.mold_receiver.specs.declared.line.Line.TheVariants.{A, B}
use Rattle.mold_repair.specs.Run.{IsStepOf}
use Rattle.mold_repair.specs.declared.ask.Ask.{Ask}
use Rattle.mold_repair.specs.declared.origin.RepairOrigin.{RepairOrigin}
use Rattle.mold_repair.specs.declared.origin.RepairOrigin.TheVariants.{Line, Server}
use Rattle.mold_repair.specs.declared.outcome.Outcome.{Outcome}
use Rattle.mold_repair.specs.declared.repairer.Repairer.{Repairer}
use Rattle.mold_repair.specs.declared.step.RepairStep.{RepairStep}
use Rattle.mold_repair.specs.declared.step.RepairStep.TheVariants.{Take, Poll, Lost, Pass}
use Rattle.mold_text.specs.Line.{line_of}
use Rattle.mold_turns.specs.Outgoing.{note_text}
use Rattle.mold_turns.specs.Runs.{Begins}
use Rattle.mold_wire.specs.Request.{request_spelling}

-- A call of the repairer: its step, what it returned, and the repairer before and after it.
pub record Call : Type 0 where
  pub before : Repairer
  pub after : Repairer
  pub step : RepairStep
  pub outcome : Outcome
  pub is : IsStepOf before after step outcome
  -- whether the send of the request failed, if the call returned one
  pub fails : Bool

-- The calls follow each other, from the repairer `old` to the repairer `new`.
unfoldable pub Follow : Repairer → List Call → Repairer → Type 0
Follow old [] new = new ≡ old
Follow old (call ∷ calls) new = (call.before ≡ old) × Follow call.after calls new

-- The index of the port on which datagrams of this origin arrive. `lines` is the number of lines: the ports of the
-- servers follow those of the lines.
abbrev pub port_of : ℕ → RepairOrigin → ℕ
port_of lines (Line A) = 0
port_of lines (Line B) = 1
port_of lines (Server server) = lines + server

-- The datagram that a step took, if it took one.
abbrev pub taken_by : ℕ → RepairStep → List Given
taken_by lines (Take time origin datagram) = record { port = port_of lines origin; bytes = datagram.now } ∷ []
taken_by lines (Poll time) = []
taken_by lines (Lost time) = []
taken_by lines (Pass time) = []

-- The datagrams that calls took, in order.
unfoldable pub all_taken : ℕ → List Call → List Given
all_taken lines [] = []
all_taken lines (call ∷ calls) = taken_by lines call.step ++ all_taken lines calls

-- The datagram of a request to this server, if there is such a server.
abbrev pub datagram_to : {P : Type 0} → ℕ → Ask → Option P → List (Sent P)
datagram_to lines ask None = []
datagram_to lines ask (Some server) =
    record { port = lines + ask.server; to = server; bytes = request_spelling ask.request } ∷ []

-- The datagram of the request that a call returned, if it returned one. `servers` has the address of each server.
abbrev pub datagram_of : {P : Type 0} → ℕ → List P → Option Ask → List (Sent P)
datagram_of lines servers None = []
datagram_of lines servers (Some ask) = datagram_to lines ask (slice_get servers ask.server)

-- The datagrams of the requests that calls returned and that could be sent, in order.
unfoldable pub all_sent : {P : Type 0} → ℕ → List P → List Call → List (Sent P)
all_sent lines servers [] = []
all_sent lines servers (call ∷ calls) =
    (if call.fails then [] else datagram_of lines servers call.outcome.ask) ++ all_sent lines servers calls

-- The line of messages that were given up: their first and their last number.
abbrev pub lost_line : Gap → List ℕ
lost_line gap = line_of (codes "lost" ∷ decimal gap.first ∷ decimal (gap.end - 1) ∷ [])

-- The text on standard output for messages that were given up, if there are any. If messages are printed as blocks, it
-- is empty.
abbrev pub lost_text : MessageFormat → Option Gap → List ℕ
lost_text format None = []
lost_text format (Some gap) = note_text format (lost_line gap)

-- The text of a call on standard output: what was given up, and then the messages that it delivered.
abbrev pub call_text : MessageFormat → Call → List ℕ
call_text format call =
    lost_text format call.outcome.lost ++ handed_text format call.is.handed.first call.is.handed.messages

-- The text of calls on standard output.
unfoldable pub all_text : MessageFormat → List Call → List ℕ
all_text format [] = []
all_text format (call ∷ calls) = call_text format call ++ all_text format calls

-- Whether a message stops printing: it is empty, and an empty block would mark the end.
abbrev pub stops_at : MessageFormat → List ℕ → Bool
stops_at Lines message = false
stops_at Blocks message = false
stops_at BlocksToEmpty message = length message == 0

-- The number of the first empty message that a call delivered, if it stops printing. In the formats `Lines` and `Blocks`
-- no message does.
abbrev pub call_stop : MessageFormat → Call → Option ℕ
call_stop format call = stop_after format None call.is.handed.first call.is.handed.messages

-- The first number, if there is one, otherwise the second one.
abbrev pub earlier : Option ℕ → Option ℕ → Option ℕ
earlier None later = later
earlier (Some number) later = Some number

-- The number of the first empty message that calls delivered, if it stops printing.
unfoldable pub stop_in : MessageFormat → List Call → Option ℕ
stop_in format [] = None
stop_in format (call ∷ calls) = earlier (call_stop format call) (stop_in format calls)

-- The text of a call on standard output up to the message that stops printing, if one does.
abbrev pub call_to_stop : MessageFormat → Call → List ℕ
call_to_stop format call =
    lost_text format call.outcome.lost
    ++ handed_text format call.is.handed.first (printable format None call.is.handed.messages)

-- The text after the message that stops printing is not printed.
abbrev pub unless_stopped : Option ℕ → List ℕ → List ℕ
unless_stopped None text = text
unless_stopped (Some number) text = []

-- The text of calls on standard output up to the message that stops printing, if one does.
unfoldable pub text_to_stop : MessageFormat → List Call → List ℕ
text_to_stop format [] = []
text_to_stop format (call ∷ calls) =
    call_to_stop format call ++ unless_stopped (call_stop format call) (text_to_stop format calls)

-- Printing stopped before the message `number` of a batch. The text `before` and that of the messages before this one
-- are written.
pub record HasCut (format : MessageFormat) (handed : Handed) (before : List ℕ) (held_old held_new : Option (List ℕ))
    (number : ℕ) : Type 0 where
  pub empty : stop_after format None handed.first handed.messages ≡ Some number
  pub appended : Appends held_old held_new
      (before ++ handed_text format handed.first (printable format None handed.messages))

-- One call was made of the repairer, with this step. It returned this request or none. What it delivered and gave up
-- was printed.
pub record HasCalled (format : MessageFormat) (step : RepairStep) (ask : Option Ask) (old new : Repairer)
    (before after : List ℕ) : Type 0 where
  pub call : Call
  pub from : call.before ≡ old
  pub to : call.after ≡ new
  pub stepped : call.step ≡ step
  pub asked : call.outcome.ask ≡ ask
  pub printed : after ≡ before ++ call_text format call

-- A call stopped printing before the message `number`. The text `before` and that of the call up to this message are
-- written.
pub record HasCutCall (format : MessageFormat) (call : Call) (before : List ℕ) (held_old held_new : Option (List ℕ))
    (number : ℕ) : Type 0 where
  pub empty : call_stop format call ≡ Some number
  pub appended : Appends held_old held_new (before ++ call_to_stop format call)

-- One call was made of the repairer, as in `HasCalled`. Its text joined the text `before`, which was not written yet.
-- After a success no message stopped printing, a prefix of both was written, and `after` is the rest. After a fault some
-- prefix was written, and if `stopped` is a number, exactly the text up to this message.
pub record HasPrinted {T E : Type 0} (format : MessageFormat) (step : RepairStep) (ask : Option Ask) (old new : Repairer)
    (before after : List ℕ) (held_old held_new : Option (List ℕ)) (stopped : Option ℕ) (result : Result T E) :
    Type 0 where
  pub text : List ℕ
  pub called : HasCalled format step ask old new before text
  pub full : OnOk result (call_stop format called.call ≡ None)
  pub moved : OnOk result (Moves held_old held_new text after)
  pub front : OnErr result (AppendsPrefix held_old held_new text)
  pub cut : OnErr result (IfSome stopped (HasCutCall format called.call before held_old held_new))

-- A receiver over ports: its repairer, its ports, and all text that it has printed.
pub record ReceiverState (P : Type 0) : Type 0 where
  pub repairer : Repairer
  pub ports : PortSetState P
  pub text : List ℕ

-- The receiver made some calls of its repairer, and nothing else that changes it. It took exactly the datagrams that
-- its ports gave, sent the requests that it was to send, and printed what the calls delivered and gave up. No message
-- stopped printing. What ports give and send is stated only if it is known, which it is for ports in memory.
pub record HasReceived {P : Type 0} (lines : ℕ) (servers : List P) (format : MessageFormat) (modeled : Bool)
    (old new : ReceiverState P) : Type 0 where
  pub calls : List Call
  pub follow : Follow old.repairer calls new.repairer
  pub taken : modeled ≡ true → new.ports.given ≡ old.ports.given ++ all_taken lines calls
  pub sent : modeled ≡ true → new.ports.sent ≡ old.ports.sent ++ all_sent lines servers calls
  pub printed : new.text ≡ old.text ++ all_text format calls
  pub full : stop_in format calls ≡ None

-- The step is a poll, or only lets time pass. It delivers no message and gives up none.
abbrev pub IsAsking : RepairStep → Type 0
IsAsking (Take time origin datagram) = ⊥
IsAsking (Poll time) = Unit {0}
IsAsking (Lost time) = ⊥
IsAsking (Pass time) = Unit {0}

-- Each of the calls is a poll, or only lets time pass.
unfoldable pub AreAsking : List Call → Type 0
AreAsking [] = Unit {0}
AreAsking (call ∷ calls) = IsAsking call.step × AreAsking calls

-- The receiver polled its repairer or waited, and took nothing. It sent the requests that it was to send.
pub record HasAsked {P : Type 0} (lines : ℕ) (servers : List P) (format : MessageFormat) (modeled : Bool)
    (old new : ReceiverState P) : Type 0 where
  pub received : HasReceived lines servers format modeled old new
  pub asking : AreAsking received.calls

-- The state of the receiver `feed`. `state` gives that of its ports.
abbrev pub state_of : {D P : Type 0} → (D → PortSetState P) → FeedReceiver D → ReceiverState P
state_of state feed =
    record { repairer = feed.repairer; ports = state feed.ports; text = feed.outgoing.text }

-- What a receiver over ports leaves in time: the text `written`, and the text that it still holds, are what it printed.
pub record HasWritten {P : Type 0} (lines : ℕ) (servers : List P) (format : MessageFormat) (modeled : Bool)
    (old new : ReceiverState P) (held_old held_new : Option (List ℕ)) : Type 0 where
  pub written : List ℕ
  pub appended : Appends held_old held_new written
  pub received : HasReceived lines servers format modeled old
      (record { repairer = new.repairer; ports = new.ports; text = written ++ new.text })

-- The text ends in `last`.
pub record EndsIn (last text : List ℕ) : Type 0 where
  pub front : List ℕ
  pub parts : text ≡ front ++ last

-- Whether the receiver has delivered or given up all messages up to the known end of the session.
abbrev pub is_finished : Repairer → Bool
is_finished repairer = ends_at repairer.arbiter.view.ended repairer.arbiter.view.next

-- The last line of a receiver that is finished: the number of the next message, the count of messages that were given
-- up, and the count of failed waits, receives and sends.
abbrev pub finished_line : Repairer → ℕ → List ℕ
finished_line repairer failures = line_of
    (codes "finished" ∷ codes "next" ∷ decimal repairer.arbiter.view.next
    ∷ codes "lost" ∷ decimal repairer.counts.lost ∷ codes "failed" ∷ decimal failures ∷ [])

-- The last line of a receiver that is not finished. It also has the known top.
abbrev pub open_line : Repairer → ℕ → List ℕ
open_line repairer failures = line_of
    (codes "open" ∷ codes "next" ∷ decimal repairer.arbiter.view.next
    ∷ codes "known" ∷ decimal repairer.arbiter.view.known
    ∷ codes "lost" ∷ decimal repairer.counts.lost ∷ codes "failed" ∷ decimal failures ∷ [])

-- The last line of a receiver that received no first packet.
abbrev pub unopened_line : ℕ → ℕ → List ℕ
unopened_line next failures = line_of
    (codes "open" ∷ codes "next" ∷ decimal next ∷ codes "known" ∷ decimal next
    ∷ codes "lost" ∷ decimal 0 ∷ codes "failed" ∷ decimal failures ∷ [])

-- The last line.
abbrev pub last_line : Repairer → ℕ → List ℕ
last_line repairer failures =
    if is_finished repairer then finished_line repairer failures else open_line repairer failures

-- The status: 0 if the receiver is finished and nothing was given up, otherwise 1.
abbrev pub last_status : Repairer → ℕ
last_status repairer = if is_finished repairer && repairer.counts.lost == 0 then 0 else 1

-- A receiver at its start, before it printed anything.
abbrev pub started : {P : Type 0} → Repairer → PortSetState P → ReceiverState P
started repairer ports = record { repairer = repairer; ports = ports; text = [] }

-- The datagram of a first packet, if there is one. `lines` is the number of lines.
abbrev pub datagram_of_first : ℕ → Option FirstPacket → List Given
datagram_of_first lines None = []
datagram_of_first lines (Some first) =
    record { port = port_of lines first.origin; bytes = first.datagram.items } ∷ []

-- The receiver took the datagrams `first`, which its ports had given before, and then exactly those that its ports
-- gave. It sent the requests that it was to send, and printed what the calls delivered and gave up.
pub record HasRun {P : Type 0} (lines : ℕ) (servers : List P) (format : MessageFormat) (modeled : Bool)
    (first : List Given) (old new : ReceiverState P) : Type 0 where
  pub calls : List Call
  pub follow : Follow old.repairer calls new.repairer
  -- what the ports gave since then
  pub since : List Given
  pub given : modeled ≡ true → new.ports.given ≡ old.ports.given ++ since
  pub taken : modeled ≡ true → all_taken lines calls ≡ first ++ since
  pub sent : modeled ≡ true → new.ports.sent ≡ old.ports.sent ++ all_sent lines servers calls
  pub printed : new.text ≡ old.text ++ all_text format calls

-- What a receiver over ports leaves after a fault: a prefix of the text of some calls that it made was written.
pub record HasFailed {P : Type 0} (lines : ℕ) (servers : List P) (format : MessageFormat) (modeled : Bool)
    (old : ReceiverState P) (held_old held_new : Option (List ℕ)) : Type 0 where
  pub end : ReceiverState P
  pub ran : HasRun lines servers format modeled [] old end
  pub front : AppendsPrefix held_old held_new end.text

-- A receiver has stopped printing before the empty message `number`. This is the first empty one that its calls
-- delivered. Exactly the text up to this message is written, and no mark of the end.
pub record HasStopped {P : Type 0} (lines : ℕ) (servers : List P) (format : MessageFormat) (modeled : Bool)
    (first : List Given) (old : ReceiverState P) (new : Repairer) (after : PortSetState P)
    (held_old held_new : Option (List ℕ)) (number : ℕ) : Type 0 where
  pub text : List ℕ
  pub ran : HasRun lines servers format modeled first
      old (record { repairer = new; ports = after; text = text })
  pub empty : stop_in format ran.calls ≡ Some number
  pub appended : Appends held_old held_new (old.text ++ text_to_stop format ran.calls)

-- A receiver that took the datagrams `first`, and nothing else yet. The text `written`, and the text that it still
-- holds, are what it printed. No message stopped printing.
pub record HasBegun {P : Type 0} (lines : ℕ) (servers : List P) (format : MessageFormat) (modeled : Bool)
    (first : List Given) (old new : ReceiverState P) (held_old held_new : Option (List ℕ)) : Type 0 where
  pub written : List ℕ
  pub appended : Appends held_old held_new written
  pub ran : HasRun lines servers format modeled first old
      (record { repairer = new.repairer; ports = new.ports; text = written ++ new.text })
  pub full : stop_in format ran.calls ≡ None

-- A receiver has ended: all its text is written, and then its last line. No message stopped printing. If messages are
-- printed as blocks, the last line and the lines `lost` are not on standard output. In the format `BlocksToEmpty` the
-- mark of the end, which is an empty block, follows the text if the status is 0.
pub record HasEnded {P : Type 0} (lines : ℕ) (servers : List P) (format : MessageFormat) (modeled : Bool)
    (first : List Given) (old : ReceiverState P) (new : Repairer) (after : PortSetState P)
    (held_old held_new : Option (List ℕ)) (status : ℕ) : Type 0 where
  pub text : List ℕ
  pub ran : HasRun lines servers format modeled first
      old (record { repairer = new; ports = after; text = text })
  pub full : stop_in format ran.calls ≡ None
  pub appended : Appends held_old held_new
      (text ++ end_text format None (status == 0) (last_line new after.failures))
  pub status_is : status ≡ last_status new

-- The loop of a receiver over ports ended with a fault. It has written a prefix of a text: that of some calls, and then
-- what follows at the end.
pub record HasBroken {P : Type 0} (lines : ℕ) (servers : List P) (format : MessageFormat) (modeled : Bool)
    (first : List Given) (old : ReceiverState P) (held_old held_new : Option (List ℕ)) : Type 0 where
  -- the prefix of `first` that was taken
  pub took : List Given
  pub part : Begins took first
  pub end : ReceiverState P
  pub ran : HasRun lines servers format modeled took old end
  pub front : AppendsPrefix held_old held_new
      (end.text ++ end_text format None (last_status end.repairer == 0) (last_line end.repairer end.ports.failures))
