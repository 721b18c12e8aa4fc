-- What a publisher sends on two lines, prints and saves if its messages are those of an input.
use Rattle.std.specs.Prelude.{◌≡◌, ◌⊎◌, ℕ, ◌+◌, Bool, true, false, List, []}
use Rattle.std.specs.Prelude.{◌∷◌, ◌++◌, codes, decimal, length, map, replicate}
use Rattle.std.specs.Prelude.{Option, None, Some, Result, Ok, Err, IfOk, OnOk, IfSome}
use Rattle.std.specs.Io.KnownBytes.{Appends}
use Rattle.mold_wire.specs.Block.{blocks}
use Rattle.mold_wire.specs.Packet.{spelling_of}
use Rattle.mold_wire.specs.declared.packet.Packet.{Packet}
use Rattle.mold_wire.specs.declared.packet.Body.TheVariants.{Heartbeat}
use Rattle.mold_devices.specs.Devices.{AppendsPrefix, one_more}
use Rattle.mold_input.specs.Entries.{InputEntries}
use Rattle.mold_devices.specs.declared.fault.CommandFault.{CommandFault}
use Rattle.mold_devices.specs.declared.fault.CommandFault.TheVariants.{Read, Write, Memory}
use Rattle.mold_ports.specs.Ports.{Port, offered}
use Rattle.mold_session.specs.File.{AppendsFile, head_2}
use Rattle.mold_session.specs.Journal.{JournalState}
use Rattle.mold_session.specs.Publisher.{PublisherState}
use Rattle.mold_text.specs.Line.{line_of}
use Rattle.mold_turns.specs.Outgoing.{OutgoingState, failed_once, nothing_out}
use Rattle.mold_turns.specs.Runs.{Begins}
use Rattle.mold_send.specs.declared.publication.Publication.{Publication}
use Rattle.mold_send.specs.declared.sending.TwoLines.{TwoLines}
use Rattle.mold_publish.specs.Sending.{end_packet, packets_after, packets_before}
use Rattle.mold_publish.specs.Publishing.{packed_status, PublishedInput, input_published, refused_text}
use Rattle.mold_publish.specs.declared.message_refusal.MessageRefusal.{MessageRefusal}

-- The state of a publisher at work: its port, and its outgoing text and failures.
pub record PublicationState (P : Type 0) : Type 0 where
  pub port : Port P
  pub outgoing : OutgoingState

-- The state with this port and this outgoing state.
abbrev pub publication_of : {P : Type 0} → Port P → OutgoingState → PublicationState P
publication_of port outgoing = record { port = port; outgoing = outgoing }

-- The outgoing state after a send. A send that fails is counted.
abbrev pub failed_after : Bool → OutgoingState → OutgoingState
failed_after true outgoing = failed_once outgoing
failed_after false outgoing = outgoing

-- The state after a datagram was offered to `to`. `fails` states whether the send failed.
abbrev pub offer : {P : Type 0} → Bool → P → List ℕ → PublicationState P → PublicationState P
offer fails to bytes publication = record {
  port = offered fails to bytes publication.port;
  outgoing = failed_after fails publication.outgoing;
}

-- The datagrams were offered in order, each to its address. Any of the sends may have failed.
abbrev pub Sends : {P : Type 0} → List (P × List ℕ) → PublicationState P → PublicationState P → Type 0
Sends [] old new = new ≡ old
Sends (letter ∷ letters) old new = (fails : Bool) × Sends letters (offer fails letter.0 letter.1 old) new

-- Each datagram with its two addresses, `a` first and then `b`.
abbrev pub both : {P : Type 0} → P → P → List (List ℕ) → List (P × List ℕ)
both a b [] = []
both a b (datagram ∷ datagrams) = (a, datagram) ∷ (b, datagram) ∷ both a b datagrams

-- The state of a sender on two lines. `port` gives the model of its port.
abbrev pub lines_state : {D A P : Type 0} → (D → Port P) → TwoLines D A → PublicationState P
lines_state port lines = publication_of (port lines.port.now) lines.outgoing.now

-- The datagrams were offered in order, each on line A and then on line B.
abbrev pub SendsBoth : {D P : Type 0} → (D → Port P) → List (List ℕ) → TwoLines D P → TwoLines D P → Type 0
SendsBoth port datagrams old new =
    Sends (both old.a.now old.b.now datagrams) (lines_state port old) (lines_state port new)

-- The sender still has the same port and the same two addresses.
pub record IsSameLines {D A : Type 0} (old new : TwoLines D A) : Type 0 where
  pub port : new.port.ghost_name ≡ old.port.ghost_name
  pub a : new.a ≡ old.a
  pub b : new.b ≡ old.b
  pub outgoing : new.outgoing.ghost_name ≡ old.outgoing.ghost_name

-- The publisher at work still has the same publisher, port and addresses.
pub record IsSame {D A : Type 0} (old new : Publication D A) : Type 0 where
  pub publisher : new.publisher.ghost_name ≡ old.publisher.ghost_name
  pub two_lines : IsSameLines old.two_lines new.two_lines

-- The datagram of the packet, if there is a packet.
abbrev pub spelled_some : Option Packet → List (List ℕ)
spelled_some None = []
spelled_some (Some packet) = spelling_of packet ∷ []

-- The data packets of all messages after the first `sent` messages, or those of them that are sent before a refusal.
abbrev pub packets_to_send : ℕ → ℕ → JournalState → Option MessageRefusal → List Packet
packets_to_send limit sent journal None = packets_after limit sent journal
packets_to_send limit sent journal (Some refusal) = packets_before refusal.kind (packets_after limit sent journal)

-- The datagrams of these data packets.
abbrev pub data_after : ℕ → ℕ → PublishedInput → List (List ℕ)
data_after limit sent published =
    map spelling_of (packets_to_send limit sent published.journal published.refused)

-- The heartbeat of a session whose messages are all sent.
abbrev pub beat_packet : JournalState → Packet
beat_packet journal = record { session = journal.session; sequence = length journal.messages + 1; body = Heartbeat }

-- The datagrams of `beats` heartbeats, and then of `ends` end packets.
abbrev pub close_datagrams : ℕ → ℕ → JournalState → List (List ℕ)
close_datagrams beats ends journal =
    replicate beats (spelling_of (beat_packet journal)) ++ replicate ends (spelling_of (end_packet journal))

-- The datagrams that are offered after the data: none if an entry is refused, otherwise heartbeats and end packets.
abbrev pub after_data : ℕ → ℕ → JournalState → Option MessageRefusal → List (List ℕ)
after_data beats ends journal None = close_datagrams beats ends journal
after_data beats ends journal (Some why) = []

-- All datagrams that are offered when an input is published, in order.
abbrev pub all_datagrams : ℕ → ℕ → ℕ → PublishedInput → List (List ℕ)
all_datagrams limit beats ends published =
    data_after limit 0 published ++ after_data beats ends published.journal published.refused

-- The last line: the number of messages, of data datagrams and of failed sends.
abbrev pub published_line : ℕ → ℕ → ℕ → List ℕ
published_line messages datagrams failed = line_of
    (codes "published" ∷ decimal messages ∷ codes "datagrams" ∷ decimal datagrams
    ∷ codes "failed" ∷ decimal failed ∷ [])

-- The text of a publisher: its last line, or the line of the refusal if an entry is refused.
abbrev pub report_text : JournalState → Option MessageRefusal → ℕ → ℕ → List ℕ
report_text journal None datagrams failed = published_line (length journal.messages) datagrams failed
report_text journal (Some why) datagrams failed = refused_text (length journal.messages + 1) why

-- The text of a publisher of this input, if `failed` sends failed.
abbrev pub published_text : ℕ → PublishedInput → ℕ → List ℕ
published_text limit published failed =
    report_text published.journal published.refused (length (data_after limit 0 published)) failed

-- The file of the closed journal. It is empty if an entry is refused.
abbrev pub saved_bytes : JournalState → Option MessageRefusal → List ℕ
saved_bytes journal None = head_2 journal.session.0 true (length journal.messages) ++ blocks journal.messages
saved_bytes journal (Some why) = []

-- The journal, which is closed unless an entry is refused.
abbrev pub closed_unless : Option MessageRefusal → JournalState → JournalState
closed_unless None journal = record journal { closed = true }
closed_unless (Some why) journal = journal

-- The journal that publishing leaves. It is closed unless an entry is refused.
abbrev pub left_journal : PublishedInput → JournalState
left_journal published = closed_unless published.refused published.journal

-- The sink's bytes grew by the file of the closed journal. If an entry is refused, they stay the same.
abbrev pub Saves : JournalState → Option MessageRefusal → Option (List ℕ) → Option (List ℕ) → Type 0
Saves journal None old new = AppendsFile old new journal.session journal.messages true
Saves journal (Some why) old new = new ≡ old

-- The messages of the input `known` were published, and the datagrams `front` were offered. After a success, these are
-- all data datagrams, and the result is the reason if an entry is refused. After a fault, they are a prefix of the data
-- datagrams.
pub record SendsMessages {P E : Type 0} (a b : P) (start now : PublisherState) (known : Option InputEntries)
    (result : Result (Option MessageRefusal) E) (old new : PublicationState P) (count : ℕ) : Type 0 where
  -- the datagrams that were offered
  pub front : List (List ℕ)
  pub sends : Sends (both a b front) old new
  pub counted : OnOk result (count ≡ length front)
  -- they are a prefix of the data datagrams of the whole input
  pub begins : IfSome known (λ input.
      Begins front (data_after start.limit start.sent (input_published start.journal input)))
  -- after a success, they are all of them, and the journal has the messages of the input
  pub whole : IfOk result (λ refused. IfSome known (λ input.
      (data_after start.limit start.sent (input_published start.journal input) ≡ front)
      × (input_published start.journal input ≡ record { journal = now.journal; refused = refused })))

-- A publisher at work published messages and offered their data (`SendsMessages`). `datagrams` counts the data
-- datagrams.
abbrev pub SendsInput : {D P E : Type 0} → (D → Port P) → Option InputEntries → Result (Option MessageRefusal) E →
    Publication D P → Publication D P → Type 0
SendsInput port known result old new =
    SendsMessages old.two_lines.a.now old.two_lines.b.now old.publisher.now new.publisher.now known result
    (lines_state port old.two_lines) (lines_state port new.two_lines) new.datagrams

-- What publishing an input leaves. For some choice of which sends fail, `end` is the state after all datagrams were
-- offered to `a` and then to `b`. After a success, the port is that of `end`, the text and the journal's file are
-- written, and the result is the status. After a fault, what was sent, written and saved are prefixes of these.
pub record PublishRun {P : Type 0} (a b : P) (beats ends limit : ℕ) (published : PublishedInput)
    (result : Result ℕ CommandFault) (before after : Port P) (text_old text_new file_old file_new : Option (List ℕ)) :
    Type 0 where
  -- the state after all datagrams were offered
  pub end : PublicationState P
  pub sends : Sends (both a b (all_datagrams limit beats ends published)) (publication_of before nothing_out) end
  -- after a success, the port is as in that state
  pub port : OnOk result (after ≡ end.port)
  -- after a success, the text is written and the status is returned
  pub text : IfOk result (λ status.
      Appends text_old text_new (published_text limit published end.outgoing.failures)
      × (status ≡ packed_status published.refused))
  -- after a success, the journal is saved unless an entry is refused
  pub file : OnOk result (Saves published.journal published.refused file_old file_new)
  -- in any case, what was sent is a prefix of what that state has sent
  pub sent_front : Begins after.sent end.port.sent
  -- in any case, a prefix of the text is written
  pub text_front : AppendsPrefix text_old text_new (published_text limit published end.outgoing.failures)
  -- in any case, a prefix of the file of the journal is written
  pub file_front : AppendsPrefix file_old file_new (saved_bytes published.journal published.refused)

-- Which count of failures rises with a fault: the source's with `Read`, one of the two sinks' with `Write`, and none
-- with `Memory`.
abbrev pub CountsPublishFault : ℕ → ℕ → ℕ → ℕ → ℕ → ℕ → CommandFault → Type 0
CountsPublishFault source_old source_new sink_old sink_new file_old file_new Read =
    (source_new ≡ one_more source_old) × (sink_new ≡ sink_old) × (file_new ≡ file_old)
CountsPublishFault source_old source_new sink_old sink_new file_old file_new Write =
    (source_new ≡ source_old)
    × (((sink_new ≡ one_more sink_old) × (file_new ≡ file_old))
    ⊎ ((sink_new ≡ sink_old) × (file_new ≡ one_more file_old)))
CountsPublishFault source_old source_new sink_old sink_new file_old file_new Memory =
    (source_new ≡ source_old) × (sink_new ≡ sink_old) × (file_new ≡ file_old)

-- Which count of failures rises: the source's after `Read`, one of the two sinks' after `Write`, and none after
-- `Memory` or a success.
abbrev pub CountsPublish : {T : Type 0} → ℕ → ℕ → ℕ → ℕ → ℕ → ℕ → Result T CommandFault → Type 0
CountsPublish source_old source_new sink_old sink_new file_old file_new (Ok _) =
    (source_new ≡ source_old) × (sink_new ≡ sink_old) × (file_new ≡ file_old)
CountsPublish source_old source_new sink_old sink_new file_old file_new (Err fault) =
    CountsPublishFault source_old source_new sink_old sink_new file_old file_new fault
