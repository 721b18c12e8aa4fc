-- What `mold pack` prints for its input.
use Rattle.std.specs.Prelude.{ℕ, ◌+◌, List, [], ◌++◌, length, Option, None, Some}
use Rattle.mold_devices.specs.Turns.{Printing}
use Rattle.mold_input.specs.Entries.{Entry}
use Rattle.mold_input.specs.Formats.{entries_of, kind_of}
use Rattle.mold_input.specs.declared.message_format.MessageFormat.{MessageFormat}
use Rattle.mold_input.specs.declared.input_kind.InputKind.{InputKind}
use Rattle.mold_input.specs.declared.input_kind.InputKind.TheVariants.{Lines, Blocks}
use Rattle.mold_session.specs.Journal.{JournalState}
use Rattle.mold_session.specs.Publisher.{PublisherState, after_datagram, fresh_publisher, next_datagram}
use Rattle.mold_wire.specs.declared.session.Session.{Session}
use Rattle.mold_show.specs.Packets.{line_of_some, packet_line, packet_lines}
use Rattle.mold_publish.specs.Publishing.{input_published, packed_status, refused_text}
use Rattle.mold_publish.specs.Sending.{end_packet, packets_after, packets_before}
use Rattle.mold_publish.specs.declared.message_refusal.MessageRefusal.{MessageRefusal}

-- What is printed for the messages after the first `sent` ones: their data packets and the end packet. If the entry
-- after the last message is refused, the line of the refusal takes the place of the end packet. For an input of lines,
-- the last data packet is then left out too.
abbrev pub packed_text : ℕ → ℕ → JournalState → Option MessageRefusal → List ℕ
packed_text limit sent journal None =
    packet_lines (packets_after limit sent journal) ++ packet_line (end_packet journal)
packed_text limit sent journal (Some refusal) =
    packet_lines (packets_before refusal.kind (packets_after limit sent journal))
    ++ refused_text (length journal.messages + 1) refusal

-- What a publisher prints for the remaining input of this kind, and its exit status. `entries` determines how the bytes
-- encode messages.
abbrev pub pack_printing : InputKind → (List ℕ → List Entry) → PublisherState → Printing
pack_printing kind entries publisher = record {
  text = λ input. let published = input_published publisher.journal (record { kind = kind; entries = entries input }) in
      packed_text publisher.limit publisher.sent published.journal published.refused;
  status = λ input.
      packed_status (input_published publisher.journal (record { kind = kind; entries = entries input })).refused;
}

-- What is printed for a whole input in this format. The entries before the first refused one are the messages of the
-- session. The first message has number 1.
unfoldable pub pack_text : MessageFormat → Session → ℕ → List ℕ → List ℕ
pack_text format session limit input =
    (pack_printing (kind_of format) (entries_of format) (fresh_publisher session limit)).text input

-- The exit status for a whole input in this format.
unfoldable pub pack_status : MessageFormat → Session → ℕ → List ℕ → ℕ
pack_status format session limit input =
    (pack_printing (kind_of format) (entries_of format) (fresh_publisher session limit)).status input

-- The line of the datagram that is printed before a refusal. Of an input of lines there is none.
abbrev pub line_before : InputKind → PublisherState → List ℕ
line_before Lines publisher = []
line_before Blocks publisher = line_of_some (next_datagram publisher)

-- The publisher after that datagram.
abbrev pub left_before : InputKind → PublisherState → PublisherState
left_before Lines publisher = publisher
left_before Blocks publisher = after_datagram publisher
