-- What a turn of `mold pack` prints.
use Rattle.std.proofs.Common.{arith, ◌≡◌, ◌∙◌, ℕ, ◌+◌, ◌<◌, List, [], ◌∷◌, ◌++◌, length, Option, None, Some}
use Rattle.std.proofs.Common.{ap, refl, sym}
use Rattle.std.proofs.Common.{append_assoc, subst}
use Rattle.std.proofs.lemmas.List.{append-nil}
use Rattle.mold_wire.specs.declared.packet.Packet.{Packet}
use Rattle.mold_input.specs.Entries.{Entry, InputEntries, known_input}
use Rattle.mold_input.specs.declared.input_kind.InputKind.{InputKind}
use Rattle.mold_input.specs.declared.input_kind.InputKind.TheVariants.{Lines, Blocks}
use Rattle.mold_devices.specs.Turns.{GoesOver, IsTurn}
use Rattle.mold_devices.specs.declared.turn.Turn.TheVariants.{More, Done}
use Rattle.mold_session.specs.Datagrams.{data_packet}
use Rattle.mold_session.specs.Journal.{JournalState}
use Rattle.mold_session.specs.Publisher.{PublisherState, next_datagram, after_datagram}
use Rattle.mold_show.specs.Pack.{left_before, line_before, packed_text, pack_printing}
use Rattle.mold_publish.specs.Sending.{all_but_last, end_packet, packets_after, packets_before}
use Rattle.mold_publish.specs.Publishing.{packed_status}
use Rattle.mold_show.specs.Packets.{packet_line, packet_lines, line_of_some}
use Rattle.mold_publish.specs.Publishing.{PublishedInput, input_published, refused_text, HasRoom, IsJustFull, Fills}
use Rattle.mold_publish.specs.declared.message_refusal.MessageRefusal.{MessageRefusal}
use Rattle.mold_publish.specs.declared.filling.Filled.TheVariants.{Full, End, Refused}
use Rattle.mold_publish.proofs.DatagramLemmas.{PackingLaws, grown, full_front, full_datagram, full_packets}
use Rattle.mold_publish.proofs.DatagramLemmas.{more_packets, list_of, room_behind, room_packets}

-- ---- texts

first_line : (packet : Packet) (packets : List Packet) →
    packet_lines (packet ∷ packets) ≡ packet_line packet ++ packet_lines packets
unfolding packet_lines
first_line packet packets = refl

some_lines : (datagram : Option Packet) → packet_lines (list_of datagram) ≡ line_of_some datagram
unfolding packet_lines
some_lines None = refl
some_lines (Some packet) = append-nil (packet_line packet)

none_but_last : (datagram : Option Packet) → packet_lines (all_but_last (list_of datagram)) ≡ []
unfolding packet_lines all_but_last
none_but_last None = refl
none_but_last (Some packet) = refl

first_but_last : (packet : Packet) (packets : List Packet) → 0 < length packets →
    all_but_last (packet ∷ packets) ≡ packet ∷ all_but_last packets
unfolding all_but_last
first_but_last packet [] some = absurd (omega arith)
first_but_last packet (next ∷ packets) some = refl

first_before : (kind : InputKind) (packet : Packet) (packets : List Packet) → 0 < length packets →
    packets_before kind (packet ∷ packets) ≡ packet ∷ packets_before kind packets
first_before Lines packet packets some = first_but_last packet packets some
first_before Blocks packet packets some = refl

-- The packet of the messages that were not printed yet is printed before a refusal unless the input is of lines.
last_before : (kind : InputKind) (now : PublisherState) →
    packet_lines (packets_before kind (list_of (next_datagram now))) ≡ line_before kind now
last_before Lines now = none_but_last (next_datagram now)
last_before Blocks now = some_lines (next_datagram now)

pub room_before : PackingLaws → (kind : InputKind) (now : PublisherState) → HasRoom now → HasRoom (left_before kind now)
room_before laws Lines now room = room
room_before laws Blocks now room = room_behind laws now room

-- The first of several packets is printed first.
first_printed : (limit sent then : ℕ) (journal : JournalState) (packet : Packet) (refused : Option MessageRefusal) →
    packets_after limit sent journal ≡ packet ∷ packets_after limit then journal →
    0 < length (packets_after limit then journal) →
    packed_text limit sent journal refused ≡ packet_line packet ++ packed_text limit then journal refused
first_printed limit sent then journal packet None packets some =
    let behind = packet_line (end_packet journal) in
    ap (λ (ps : List Packet). packet_lines ps ++ behind) packets
    ∙ ap (λ (t : List ℕ). t ++ behind) (first_line packet (packets_after limit then journal))
    ∙ append_assoc (packet_line packet) (packet_lines (packets_after limit then journal)) behind
first_printed limit sent then journal packet (Some refusal) packets some =
    let behind = refused_text (length journal.messages + 1) refusal in
    let rest = packets_after limit then journal in
    ap (λ (ps : List Packet). packet_lines (packets_before refusal.kind ps) ++ behind) packets
    ∙ ap (λ (ps : List Packet). packet_lines ps ++ behind) (first_before refusal.kind packet rest some)
    ∙ ap (λ (t : List ℕ). t ++ behind) (first_line packet (packets_before refusal.kind rest))
    ∙ append_assoc (packet_line packet) (packet_lines (packets_before refusal.kind rest)) behind

-- ---- turns

-- What is printed for the messages after the first `sent` ones.
abbrev shown : ℕ → ℕ → PublishedInput → List ℕ
shown limit sent published = packed_text limit sent published.journal published.refused

shown_same : (start now : PublisherState) (one other : PublishedInput) → now.limit ≡ start.limit →
    now.sent ≡ start.sent → one ≡ other → shown start.limit start.sent one ≡ shown now.limit now.sent other
shown_same start now one other limit sent same =
    ap (λ (n : ℕ). shown n start.sent one) (sym limit)
    ∙ ap (λ (n : ℕ). shown now.limit n one) (sym sent)
    ∙ ap (shown now.limit now.sent) same

full_shown : PackingLaws → (now : PublisherState) → IsJustFull now → (input : InputEntries) →
    shown now.limit now.sent (input_published now.journal input)
    ≡ line_of_some (next_datagram now) ++ shown now.limit (after_datagram now).sent (input_published now.journal input)
full_shown laws now full input =
    let published = input_published now.journal input in
    let more = grown input now.journal in
    let packet = data_packet now.journal.session (now.sent + 1) full.found in
    first_printed now.limit now.sent (now.sent + length full.found) published.journal packet published.refused
    (full_packets laws now full published.journal more) (more_packets laws now full published.journal more)
    ∙ ap (λ (d : Option Packet). line_of_some d ++ shown now.limit (now.sent + length full.found) published)
    (sym (full_datagram laws now full))
    ∙ ap (λ (ms : List (List ℕ)). line_of_some (next_datagram now) ++ shown now.limit (now.sent + length ms) published)
    (sym (full_front laws now full))

module _ (kind : InputKind) (entries : List ℕ → List Entry) where
  -- The remaining input, if its bytes are known.
  abbrev input_of : Option (List ℕ) → Option InputEntries
  input_of known = known_input kind entries known

  abbrev told : List ℕ → InputEntries
  told bytes = record { kind = kind; entries = entries bytes }

  full_goes : PackingLaws → (start now : PublisherState) (known left : Option (List ℕ)) →
      Fills start now (input_of known) (input_of left) Full →
      GoesOver (pack_printing kind entries start) (pack_printing kind entries (after_datagram now)) known left
      (line_of_some (next_datagram now)) More
  full_goes laws start now None left filled = tt
  full_goes laws start now (Some xs) None filled = absurd filled.input
  full_goes laws start now (Some xs) (Some ys) filled = (
    shown_same start now (input_published start.journal (told xs)) (input_published now.journal (told ys))
        filled.limit filled.sent filled.input
        ∙ full_shown laws now filled.room (told ys),
    ap (λ (p : PublishedInput). packed_status p.refused) filled.input,
  )

  -- A turn that prints a datagram.
  pub turn_full : PackingLaws → (start now after : PublisherState) (known left : Option (List ℕ)) (old new : List ℕ) →
      Fills start now (input_of known) (input_of left) Full → after ≡ after_datagram now →
      new ≡ old ++ line_of_some (next_datagram now) →
      IsTurn (pack_printing kind entries start) (pack_printing kind entries after) known left old new More
  turn_full laws start now after known left old new filled sent written =
      subst (λ (p : PublisherState).
      IsTurn (pack_printing kind entries start) (pack_printing kind entries p) known left old new More) (sym sent)
      (record {
        added = line_of_some (next_datagram now);
        written = written;
        goes = full_goes laws start now known left filled;
      })

  end_goes : PackingLaws → (start now after : PublisherState) (known left : Option (List ℕ)) →
      Fills start now (input_of known) (input_of left) End →
      GoesOver (pack_printing kind entries start) (pack_printing kind entries after) known left
      (line_of_some (next_datagram now) ++ packet_line (end_packet now.journal)) (Done 0)
  end_goes laws start now after None left filled = tt
  end_goes laws start now after (Some xs) None filled = absurd filled.input
  end_goes laws start now after (Some xs) (Some ys) filled =
      let published : PublishedInput = record { journal = now.journal; refused = None } in
      let behind = packet_line (end_packet now.journal) in (
        shown_same start now (input_published start.journal (told xs)) published filled.limit filled.sent filled.input
            ∙ ap (λ (ps : List Packet). packet_lines ps ++ behind) (room_packets laws now filled.room)
            ∙ ap (λ (t : List ℕ). t ++ behind) (some_lines (next_datagram now)),
        ap (λ (p : PublishedInput). packed_status p.refused) filled.input,
      )

  -- The turn after the last message.
  pub turn_end : PackingLaws → (start now after : PublisherState) (known left : Option (List ℕ))
      (old mid new : List ℕ) → Fills start now (input_of known) (input_of left) End →
      mid ≡ old ++ line_of_some (next_datagram now) → new ≡ mid ++ packet_line (end_packet now.journal) →
      IsTurn (pack_printing kind entries start) (pack_printing kind entries after) known left old new (Done 0)
  turn_end laws start now after known left old mid new filled datagram last = record {
    added = line_of_some (next_datagram now) ++ packet_line (end_packet now.journal);
    written =
        last
        ∙ ap (λ (t : List ℕ). t ++ packet_line (end_packet now.journal)) datagram
        ∙ append_assoc old (line_of_some (next_datagram now)) (packet_line (end_packet now.journal));
    goes = end_goes laws start now after known left filled;
  }

  refused_goes : PackingLaws → (start now after : PublisherState) (known left : Option (List ℕ))
      (refusal : MessageRefusal) → Fills start now (input_of known) (input_of left) (Refused refusal) →
      GoesOver (pack_printing kind entries start) (pack_printing kind entries after) known left
      (line_before refusal.kind now ++ refused_text (length now.journal.messages + 1) refusal) (Done 2)
  refused_goes laws start now after None left refusal filled = tt
  refused_goes laws start now after (Some xs) None refusal filled = absurd filled.input
  refused_goes laws start now after (Some xs) (Some ys) refusal filled =
      let published : PublishedInput = record { journal = now.journal; refused = Some refusal } in
      let behind = refused_text (length now.journal.messages + 1) refusal in (
        shown_same start now (input_published start.journal (told xs)) published filled.limit filled.sent filled.input
            ∙ ap (λ (ps : List Packet). packet_lines (packets_before refusal.kind ps) ++ behind)
            (room_packets laws now filled.room)
            ∙ ap (λ (t : List ℕ). t ++ behind) (last_before refusal.kind now),
        ap (λ (p : PublishedInput). packed_status p.refused) filled.input,
      )

  -- The turn of a refused entry.
  pub turn_refused : PackingLaws → (start now after : PublisherState) (known left : Option (List ℕ))
      (old mid new : List ℕ) (number : ℕ) (refusal : MessageRefusal) →
      Fills start now (input_of known) (input_of left) (Refused refusal) →
      number ≡ length now.journal.messages + 1 → mid ≡ old ++ line_before refusal.kind now →
      new ≡ mid ++ refused_text number refusal →
      IsTurn (pack_printing kind entries start) (pack_printing kind entries after) known left old new (Done 2)
  turn_refused laws start now after known left old mid new number refusal filled numbered before written = record {
    added = line_before refusal.kind now ++ refused_text (length now.journal.messages + 1) refusal;
    written =
        written
        ∙ ap (λ (n : ℕ). mid ++ refused_text n refusal) numbered
        ∙ ap (λ (t : List ℕ). t ++ refused_text (length now.journal.messages + 1) refusal) before
        ∙ append_assoc old (line_before refusal.kind now) (refused_text (length now.journal.messages + 1) refusal);
    goes = refused_goes laws start now after known left refusal filled;
  }

-- The journal stays the same before a refusal.
pub journal_before : (kind : InputKind) (now : PublisherState) → (left_before kind now).journal ≡ now.journal
journal_before Lines now = refl
journal_before Blocks now = refl
