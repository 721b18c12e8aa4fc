-- The datagrams that a publisher sends of the messages of an input.
use Rattle.std.proofs.Common.{arith, ◌≡◌, ◌∙◌, ℕ, ◌+◌, ◌-◌, ◌<◌, ◌≤◌, List, [], ◌∷◌, ◌++◌}
use Rattle.std.proofs.Common.{length, length-append, drop, map, Option, None, Some, Result, Ok, Err, ap, refl, sym, subst}
use Rattle.std.proofs.Common.{append_assoc, inl, inr}
use Rattle.std.proofs.lemmas.Bool.{eq-eqb, ne_eqb, cases_eq}
use Rattle.std.proofs.lemmas.List.{append-nil, drop-append-le, drop-drop, drop_all, length-drop}
use Rattle.std.proofs.Math.Seq.{drop-append_seam}
use Rattle.mold_wire.specs.declared.session.Session.{Session}
use Rattle.mold_wire.specs.declared.packet.Packet.{Packet}
use Rattle.mold_wire.specs.Packing.{packet_length, Fits, IsFront, front}
use Rattle.mold_session.specs.Datagrams.{data_packet, packing}
use Rattle.mold_session.specs.Journal.{JournalState, appended}
use Rattle.mold_session.specs.Publisher.{PublisherState, unsent_of, next_front, next_datagram, after_datagram}
use Rattle.mold_publish.specs.Sending.{packets_after}
use Rattle.mold_input.specs.Entries.{Entry, InputEntries, line_entry}
use Rattle.mold_input.specs.declared.input_kind.InputKind.{InputKind}
use Rattle.mold_input.specs.declared.input_kind.InputKind.TheVariants.{Lines}
use Rattle.mold_publish.specs.Publishing.{PublishedInput, published_from, entries_published, entry_outcome}
use Rattle.mold_publish.specs.Publishing.{input_published, lines_published}
use Rattle.mold_publish.specs.Publishing.{HasRoom, IsJustFull}
use Rattle.mold_publish.proofs.PublishingLemmas.{lines_same}
use Rattle.mold_publish.specs.declared.message_refusal.MessageRefusal.{MessageRefusal}

-- the laws of `mold_wire` and `mold_session` about prefixes and about the packing of messages
pub record PackingLaws : Type 0 where
  pub is_front : (limit : ℕ) (messages : List (List ℕ)) (most : ℕ) → 20 ≤ limit →
      IsFront limit messages most (front limit messages most)
  pub only : (limit : ℕ) (messages : List (List ℕ)) (most : ℕ) (found : List (List ℕ)) →
      IsFront limit messages most found → found ≡ front limit messages most
  pub stops : (limit : ℕ) (messages : List (List ℕ)) (most : ℕ) (found behind : List (List ℕ)) →
      messages ≡ found ++ behind → length found ≤ most → Fits limit found →
      ((next : List ℕ) (more : List (List ℕ)) →
      behind ≡ next ∷ more → length found < most → ¬ Fits limit (found ++ next ∷ [])) →
      IsFront limit messages most found
  pub some : (limit : ℕ) (message : List ℕ) (messages found : List (List ℕ)) (most : ℕ) →
      IsFront limit (message ∷ messages) most found → 0 < most → Fits limit (message ∷ []) → 0 < length found
  pub whole : (limit : ℕ) (messages : List (List ℕ)) (most : ℕ) →
      length messages ≤ most → Fits limit messages → IsFront limit messages most messages
  pub none : (limit : ℕ) (session : Session) (sequence : ℕ) → packing limit session sequence [] ≡ []
  pub first : (limit : ℕ) (session : Session) (sequence : ℕ) (messages found behind : List (List ℕ)) →
      front limit messages (length messages) ≡ found → 0 < length found → messages ≡ found ++ behind →
      packing limit session sequence messages
      ≡ data_packet session sequence found ∷ packing limit session (sequence + length found) behind

-- ---- prefixes that fit

pub least_limit : (limit : ℕ) (messages : List (List ℕ)) → Fits limit messages → 20 ≤ limit
unfolding packet_length
least_limit limit messages fits = omega (arith, fits)

none_fits : (limit : ℕ) → 20 ≤ limit → Fits limit []
unfolding packet_length
none_fits limit least = omega (arith, least)

-- messages that fit are the longest prefix that fits, if they do not fit with the next message
front_at : PackingLaws → (limit : ℕ) (found : List (List ℕ)) (last : List ℕ) (more : List (List ℕ)) (most : ℕ) →
    length found ≤ most → Fits limit found → ¬ Fits limit (found ++ last ∷ []) →
    front limit (found ++ last ∷ more) most ≡ found
front_at laws limit found last more most few fits unfit =
    sym (laws.only limit (found ++ last ∷ more) most found
    (laws.stops limit (found ++ last ∷ more) most found (last ∷ more) refl few fits
    (λ next rest same less fitting.
    unfit (subst (λ (m : List ℕ). Fits limit (found ++ m ∷ [])) (let e : next ≡ last = cc in e) fitting))))

-- there is a message before one that fits alone
some_found : (limit : ℕ) (found : List (List ℕ)) (last : List ℕ) → ¬ Fits limit (found ++ last ∷ []) →
    Fits limit (last ∷ []) → 0 < length found
some_found limit [] last unfit alone = absurd (unfit alone)
some_found limit (message ∷ found) last unfit alone = omega arith

-- messages whose first one fits alone are packed into at least one packet
some_packed : PackingLaws → (limit : ℕ) (session : Session) (sequence : ℕ) (message : List ℕ)
    (messages : List (List ℕ)) → Fits limit (message ∷ []) → 0 < length (packing limit session sequence (message ∷ messages))
some_packed laws limit session sequence message messages alone =
    let most : ℕ = length (message ∷ messages) in
    let is = laws.is_front limit (message ∷ messages) most (least_limit limit (message ∷ []) alone) in
    let some = laws.some limit message messages (front limit (message ∷ messages) most) most is (omega arith) alone in
    omega (
      arith,
      ap (λ (packets : List Packet). length packets)
          (laws.first limit session sequence (message ∷ messages) (front limit (message ∷ messages) most) is.behind refl
          some is.parts),
    )

-- ---- what further entries add

-- messages were appended to those of a journal
pub record Grown (old new : JournalState) : Type 0 where
  pub more : List (List ℕ)
  pub messages : new.messages ≡ old.messages ++ more
  pub session : new.session ≡ old.session

grown_by : (journal new : JournalState) (message : List ℕ) → Grown (appended journal message) new → Grown journal new
grown_by journal new message grown = record {
  more = message ∷ grown.more;
  messages = grown.messages ∙ append_assoc journal.messages (message ∷ []) grown.more;
  session = grown.session;
}

grown_from : (journal : JournalState) (outcome : Result (List ℕ) MessageRefusal) (behind : JournalState → PublishedInput) →
    ((next : JournalState) → Grown next (behind next).journal) →
    Grown journal (published_from journal outcome behind).journal
grown_from journal (Ok message) behind each =
    grown_by journal (behind (appended journal message)).journal message (each (appended journal message))
grown_from journal (Err why) behind each =
    record { more = []; messages = sym (append-nil journal.messages); session = refl }

grown_entries : (kind : InputKind) (entries : List Entry) (journal : JournalState) →
    Grown journal (entries_published kind journal entries).journal
unfolding entries_published
grown_entries kind [] journal = record { more = []; messages = sym (append-nil journal.messages); session = refl }
grown_entries kind (entry ∷ entries) journal =
    grown_from journal (entry_outcome kind journal entry) (λ next. entries_published kind next entries)
    (grown_entries kind entries)

pub grown : (input : InputEntries) (journal : JournalState) → Grown journal (input_published journal input).journal
grown input journal = grown_entries input.kind input.entries journal

pub grown_lines : (lines : List (List ℕ)) (journal : JournalState) → Grown journal (lines_published journal lines).journal
grown_lines lines journal =
    subst (λ (after : PublishedInput). Grown journal after.journal) (lines_same journal lines)
    (grown_entries Lines (map line_entry lines) journal)

-- ---- the datagram of a publisher that is just full

module _ (laws : PackingLaws) (publisher : PublisherState) (full : IsJustFull publisher) where
  unsent_length : length publisher.journal.messages - publisher.sent ≡ length full.found + 1
  unsent_length =
      sym (length-drop publisher.sent publisher.journal.messages)
      ∙ ap (λ (ms : List (List ℕ)). length ms) full.parts
      ∙ length-append full.found (full.last ∷ [])

  pub full_front : next_front publisher ≡ full.found
  full_front =
      ap (λ (ms : List (List ℕ)). front publisher.limit ms (length publisher.journal.messages)) full.parts
      ∙ front_at laws publisher.limit full.found full.last [] (length publisher.journal.messages)
      (omega (arith, unsent_length)) full.fits full.more

  pub full_datagram :
      next_datagram publisher ≡ Some (data_packet publisher.journal.session (publisher.sent + 1) full.found)
  full_datagram =
      rw (ne_eqb publisher.sent (length publisher.journal.messages)
      (λ same. absurd (omega (arith, unsent_length, same))))
      (ap (λ (ms : List (List ℕ)). Some (data_packet publisher.journal.session (publisher.sent + 1) ms)) full_front)

  -- the last message remains after it
  pub full_left : drop (publisher.sent + length full.found) publisher.journal.messages ≡ full.last ∷ []
  full_left =
      sym (drop-drop (length full.found) publisher.sent publisher.journal.messages)
      ∙ ap (drop (length full.found)) full.parts
      ∙ drop-append_seam full.found (full.last ∷ [])

  pub full_room : HasRoom (after_datagram publisher)
  full_room =
      subst (λ (ms : List (List ℕ)). HasRoom (record publisher { sent = publisher.sent + length ms })) (sym full_front)
      (record {
        sent = omega (arith, unsent_length);
        fits = subst (λ (ms : List (List ℕ)). Fits publisher.limit ms) (sym full_left) full.alone;
      })

  -- whatever comes after, it is the first datagram, and another one follows
  module _ (journal : JournalState) (more : Grown publisher.journal journal) where
    all_behind : drop publisher.sent journal.messages ≡ full.found ++ full.last ∷ more.more
    all_behind =
        ap (drop publisher.sent) more.messages
        ∙ drop-append-le publisher.sent publisher.journal.messages more.more (omega (arith, unsent_length))
        ∙ ap (λ (ms : List (List ℕ)). ms ++ more.more) full.parts
        ∙ append_assoc full.found (full.last ∷ []) more.more

    all_left : drop (publisher.sent + length full.found) journal.messages ≡ full.last ∷ more.more
    all_left =
        sym (drop-drop (length full.found) publisher.sent journal.messages)
        ∙ ap (drop (length full.found)) all_behind
        ∙ drop-append_seam full.found (full.last ∷ more.more)

    all_front :
        front publisher.limit (drop publisher.sent journal.messages) (length (drop publisher.sent journal.messages))
        ≡ full.found
    all_front =
        ap (λ (ms : List (List ℕ)). front publisher.limit ms (length ms)) all_behind
        ∙ front_at laws publisher.limit full.found full.last more.more (length (full.found ++ full.last ∷ more.more))
        (omega (arith, length-append full.found (full.last ∷ more.more))) full.fits full.more

    abbrev pub packets_left : List Packet
    packets_left = packets_after publisher.limit (publisher.sent + length full.found) journal

    pub full_packets : packets_after publisher.limit publisher.sent journal
        ≡ data_packet publisher.journal.session (publisher.sent + 1) full.found ∷ packets_left
    full_packets =
        laws.first publisher.limit journal.session (publisher.sent + 1) (drop publisher.sent journal.messages)
        full.found (full.last ∷ more.more) all_front
        (some_found publisher.limit full.found full.last full.more full.alone) all_behind
        ∙ ap (λ (ms : List (List ℕ)). data_packet journal.session (publisher.sent + 1) full.found
        ∷ packing publisher.limit journal.session (publisher.sent + 1 + length full.found) ms) (sym all_left)
        ∙ ap (λ (n : ℕ). data_packet journal.session (publisher.sent + 1) full.found
        ∷ packing publisher.limit journal.session n (drop (publisher.sent + length full.found) journal.messages))
        (omega arith)
        ∙ ap (λ (s : Session). data_packet s (publisher.sent + 1) full.found ∷ packets_left) more.session

    pub more_packets : 0 < length packets_left
    more_packets =
        subst (λ (ms : List (List ℕ)). 0 < length (packing publisher.limit journal.session
        (publisher.sent + length full.found + 1) ms)) (sym all_left)
        (some_packed laws publisher.limit journal.session (publisher.sent + length full.found + 1) full.last more.more
        full.alone)

-- ---- the datagram of a publisher whose messages fit one

-- the optional packet as a list
abbrev pub list_of : Option Packet → List Packet
list_of None = []
list_of (Some packet) = packet ∷ []

module _ (laws : PackingLaws) (publisher : PublisherState) (room : HasRoom publisher) where
  left_length : length (unsent_of publisher) ≡ length publisher.journal.messages - publisher.sent
  left_length = length-drop publisher.sent publisher.journal.messages

  room_front : next_front publisher ≡ unsent_of publisher
  room_front =
      sym (laws.only publisher.limit (unsent_of publisher) (length publisher.journal.messages) (unsent_of publisher)
      (laws.whole publisher.limit (unsent_of publisher) (length publisher.journal.messages)
      (omega (arith, left_length)) room.fits))

  pub all_sent : (after_datagram publisher).sent ≡ length publisher.journal.messages
  all_sent =
      omega (arith, ap (λ (ms : List (List ℕ)). length ms) room_front, left_length, room.sent)

  pub room_behind : HasRoom (after_datagram publisher)
  room_behind = record {
    sent = omega (arith, all_sent);
    fits =
        subst (λ (ms : List (List ℕ)). Fits publisher.limit ms)
        (sym (drop_all (after_datagram publisher).sent publisher.journal.messages (omega (arith, all_sent))))
        (none_fits publisher.limit (least_limit publisher.limit (unsent_of publisher) room.fits));
  }

  pub room_packets : packets_after publisher.limit publisher.sent publisher.journal ≡ list_of (next_datagram publisher)
  room_packets = elim (cases_eq publisher.sent (length publisher.journal.messages)) [
    | inl same ↦
        rw (eq-eqb publisher.sent (length publisher.journal.messages) same)
        (ap (packing publisher.limit publisher.journal.session (publisher.sent + 1))
        (drop_all publisher.sent publisher.journal.messages (omega (arith, same)))
        ∙ laws.none publisher.limit publisher.journal.session (publisher.sent + 1))
    | inr other ↦
        rw (ne_eqb publisher.sent (length publisher.journal.messages) other)
        (laws.first publisher.limit publisher.journal.session (publisher.sent + 1) (unsent_of publisher)
        (unsent_of publisher) []
        (sym (laws.only publisher.limit (unsent_of publisher) (length (unsent_of publisher)) (unsent_of publisher)
        (laws.whole publisher.limit (unsent_of publisher) (length (unsent_of publisher)) (omega arith) room.fits)))
        (omega (arith, left_length, room.sent, other)) (sym (append-nil (unsent_of publisher)))
        ∙ ap (λ (packets : List Packet).
        data_packet publisher.journal.session (publisher.sent + 1) (unsent_of publisher) ∷ packets)
        (laws.none publisher.limit publisher.journal.session (publisher.sent + 1 + length (unsent_of publisher)))
        ∙ ap (λ (ms : List (List ℕ)). data_packet publisher.journal.session (publisher.sent + 1) ms ∷ [])
        (sym room_front))
  ]
