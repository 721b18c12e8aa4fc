-- What an honest listener does with one datagram, and with one datagram after another.
use Rattle.std.proofs.Common.{◌≡◌, ℕ, ◌+◌, ◌≤◌, Bool, List, [], ◌∷◌, ◌++◌, length, refl, sym, ap, ap₂, subst, ◌∙◌}
use Rattle.std.proofs.Common.{inl, inr, arith, append_assoc, append-nil, not}
use Rattle.std.specs.Prelude.{◌↔◌, Option, None, Some, Result, Ok, Err, slice_get}
use Rattle.std.specs.List.{AllByRecursion}
use Rattle.std.specs.Str.{bytes_eq}
use Rattle.std.proofs.lemmas.Bool.{cases_Bool}
use Rattle.std.proofs.lemmas.Slice.Eq.{bytes_eq-Decides}
use Rattle.mold_receiver.specs.Arbiter.{Arbitration, arbitrated}
use Rattle.mold_receiver.specs.Honest.{IsHonest, IsTakenHonestly}
use Rattle.mold_receiver.specs.Receive.{IsTakenPacket, Reception, decide, receive, receive_packet, receive_read}
use Rattle.mold_receiver.specs.Receive.{reception}
use Rattle.mold_receiver.specs.Store.{Message, first_conflict, from_next, numbered}
use Rattle.mold_receiver.specs.View.{View}
use Rattle.mold_receiver.specs.declared.line.Line.{Line}
use Rattle.mold_rule.specs.Refusals.{conflict_at, end_below, end_conflict, first_some, past_end, past_last, refuse_if}
use Rattle.mold_rule.specs.Refusals.{sequence_zero}
use Rattle.mold_rule.specs.declared.refusal.Refusal.{Refusal}
use Rattle.mold_rule.specs.declared.refusal.Refusal.TheVariants.{Malformed, WrongSession}
use Rattle.mold_session.specs.Answer.{between}
use Rattle.mold_session.specs.Journal.{JournalState}
use Rattle.mold_session.specs.Truthful.{IsTrueDatagram}
use Rattle.mold_wire.specs.Block.{IsBytes}
use Rattle.mold_wire.specs.Fault.{FaultAt}
use Rattle.mold_wire.specs.Packet.{Spells, messages_of, top_of}
use Rattle.mold_wire.specs.Reading.{reading}
use Rattle.mold_wire.specs.Truth.{IsTruePacket, published_at}
use Rattle.mold_wire.specs.declared.error.DecodeError.{DecodeError}
use Rattle.mold_wire.specs.declared.packet.Packet.{Packet}
use Rattle.mold_wire.specs.declared.session.Session.{Session}
use Rattle.mold_feed.specs.Received.{IsHarmless, IsReason, IsForeign, RefusesForeign, PrintedLine, Refuses, handed_of, printable_lines}
use Rattle.mold_feed.specs.Received.{printed_lines_text}
use Rattle.mold_input.specs.declared.message_format.MessageFormat.{MessageFormat}
use Rattle.mold_listen.specs.Listening.{Progress, taken}
use Rattle.mold_listen.specs.Text.{handed_text, printable, stop_after, taking_stop, taking_text}
use Rattle.mold_feed.proofs.PrintedLineLemmas.{between_none, counted_joined, handed_between, handed_of-append}
use Rattle.mold_feed.proofs.PrintedLineLemmas.{handed_of-handing, handing, handing-append, numbered-append}
use Rattle.mold_feed.proofs.PrintedLineLemmas.{refused-append, refused-handing, text-append, text-handing}
use Rattle.mold_feed.proofs.StopLemmas.{lines_stop, none_printable, none_stops, printable-append, printable-handing}
use Rattle.mold_feed.proofs.StopLemmas.{refusal_stops, refusal_text, stop-append, stop-handing}

-- the laws of the receiver and of the packets about a received datagram
pub record HearingLaws : Type 0 where
  pub take : (v : View) (packet : Packet) (bytes : List ℕ) (published : List Message) (closed : Bool) →
      IsHonest v published closed → Spells packet bytes → packet.session ≡ v.session →
      IsTruePacket packet published closed → IsTakenHonestly v bytes published closed
  pub taken : (v : View) (bytes : List ℕ) (r : Reception) → receive v bytes ≡ Ok r → IsTakenPacket v bytes r
  pub spelled : (packet : Packet) (bytes : List ℕ) → IsBytes bytes → reading bytes ≡ Ok packet → Spells packet bytes
  pub fault : (error : DecodeError) (bytes : List ℕ) → IsBytes bytes →
      (reading bytes ≡ Err error) ↔ FaultAt error bytes

-- What may be received: only harmless bytes. If `Plain` holds, only datagrams that are true of the session.
pub record MayCome (journal : JournalState) (Plain : Type 0) (Good : List ℕ → Type 0) : Type 0 where
  pub harmless : (bytes : List ℕ) → Good bytes → IsHarmless journal bytes
  pub told : Plain → (bytes : List ℕ) → Good bytes → IsTrueDatagram journal bytes

-- an honest listener of the session
pub record IsSound (journal : JournalState) (e : Progress) : Type 0 where
  pub honest : IsHonest e.arbitration.view journal.messages journal.closed
  pub session : e.arbitration.view.session ≡ journal.session

-- What an honest listener has done between two states. It printed lines that deliver the messages published between
-- the two next numbers, and that refuse bytes which may be received. If `Plain` holds, it refused nothing.
pub record HasHeard (journal : JournalState) (Plain : Type 0) (Good : List ℕ → Type 0) (old new : Progress) : Type 0 where
  pub printed_lines : List PrintedLine
  pub text : new.outgoing.text
      ≡ old.outgoing.text
      ++ printed_lines_text old.outgoing.format
      (printable_lines old.outgoing.format old.outgoing.stopped printed_lines)
  pub stop : new.outgoing.stopped ≡ lines_stop old.outgoing.format old.outgoing.stopped printed_lines
  pub format : new.outgoing.format ≡ old.outgoing.format
  pub refused : AllByRecursion (RefusesForeign Good journal.session) printed_lines
  pub from : old.arbitration.view.next ≤ new.arbitration.view.next
  pub handed : handed_of printed_lines ≡ numbered old.arbitration.view.next
      (between journal.messages old.arbitration.view.next new.arbitration.view.next)
  pub plain : Plain → printed_lines ≡ handing old.arbitration.view.next
      (between journal.messages old.arbitration.view.next new.arbitration.view.next)
  pub sound : IsSound journal new

first_number : (journal : JournalState) (e : Progress) → IsSound journal e → 1 ≤ e.arbitration.view.next
first_number journal e sound = sound.honest.well_formed.first

-- the next number is at most the number after the last published message
pub last_number : (journal : JournalState) (e : Progress) → IsSound journal e →
    e.arbitration.view.next ≤ length journal.messages + 1
last_number journal e sound = omega (arith, sound.honest.well_formed.ahead, sound.honest.known)

-- ---- a view that stays the same

still_next : (journal : JournalState) (old new : Progress) → new.arbitration.view ≡ old.arbitration.view →
    between journal.messages old.arbitration.view.next new.arbitration.view.next ≡ []
still_next journal old new same =
    ap (λ (v : View). between journal.messages old.arbitration.view.next v.next) same
    ∙ between_none journal.messages old.arbitration.view.next

still_sound : (journal : JournalState) (old new : Progress) → IsSound journal old →
    new.arbitration.view ≡ old.arbitration.view → IsSound journal new
still_sound journal old new sound same = record {
  honest = subst (λ (v : View). IsHonest v journal.messages journal.closed) (sym same) sound.honest;
  session = ap (λ (v : View). v.session) same ∙ sound.session;
}

-- ---- the view after a datagram

view_taken : (line : Option Line) (bytes : List ℕ) (old : Arbitration) (reception : Reception) →
    (arbitrated line bytes old (Ok reception)).view ≡ reception.view
view_taken None bytes old reception = refl
view_taken (Some line) bytes old reception = refl

view_refused : (line : Option Line) (bytes : List ℕ) (old : Arbitration) (why : Refusal) →
    (arbitrated line bytes old (Err why)).view ≡ old.view
view_refused None bytes old why = refl
view_refused (Some line) bytes old why = refl

-- ---- why bytes are refused

-- a packet of another session is refused with `WrongSession`
other_refused : (v : View) (packet : Packet) → (packet.session ≡ v.session → ⊥) →
    receive_packet v packet ≡ Err WrongSession
other_refused v packet other =
    elim (cases_Bool (bytes_eq packet.session.0 v.session.0)) [
      | inl same ↦
          absurd (other (let e = (bytes_eq-Decides packet.session.0 v.session.0).0 same in λ i. record { 0 = e i }))
      | inr differs ↦
          ap (λ (t : Bool). decide (first_some (refuse_if (not t) WrongSession
          ∷ sequence_zero packet
          ∷ past_last packet
          ∷ end_conflict packet.body packet.sequence v.ended
          ∷ end_below packet.body packet.sequence v.known
          ∷ past_end v.ended packet.body (top_of packet)
          ∷ conflict_at (first_conflict v.store (from_next v.next packet.sequence (messages_of packet.body)))
          ∷ [])) (reception v packet)) differs
    ]

-- why bytes are refused that do not encode a packet of the session
has_reason : HearingLaws → (v : View) (session : Session) (bytes : List ℕ) (read : Result Packet DecodeError)
    (why : Refusal) → v.session ≡ session → IsForeign session bytes → reading bytes ≡ read →
    receive_read v read ≡ Err why → IsReason session bytes why
has_reason laws v session bytes (Err error) why same strange is refused =
    inl (error, (laws.fault error bytes strange.0).0 is, (let e : why ≡ Malformed error = cc in e))
has_reason laws v session bytes (Ok packet) why same strange is refused =
    let spelled : Spells packet bytes = laws.spelled packet bytes strange.0 is in
    let other : packet.session ≡ session → ⊥ = strange.1 packet spelled in
    let wrong : receive_packet v packet ≡ Err WrongSession = other_refused v packet (λ e. other (e ∙ same)) in
    inr (packet, spelled, other, (let e : why ≡ WrongSession = cc (wrong, refused) in e))

-- ---- what a listener receives

module _ (journal : JournalState) (Plain : Type 0) (Good : List ℕ → Type 0) where
  -- nothing is printed
  pub nothing_received : (old new : Progress) → IsSound journal old → new.arbitration.view ≡ old.arbitration.view →
      new.outgoing.text ≡ old.outgoing.text → new.outgoing.format ≡ old.outgoing.format →
      new.outgoing.stopped ≡ old.outgoing.stopped → HasHeard journal Plain Good old new
  unfolding handing
  nothing_received old new sound same text format stopped =
      let next : new.arbitration.view.next ≡ old.arbitration.view.next = ap (λ (v : View). v.next) same in
      record {
        printed_lines = [];
        text =
            text ∙ sym (append-nil old.outgoing.text)
            ∙ ap (λ (l : List PrintedLine). old.outgoing.text ++ printed_lines_text old.outgoing.format l)
            (sym (none_printable old.outgoing.format old.outgoing.stopped));
        stop = stopped ∙ sym (none_stops old.outgoing.format old.outgoing.stopped);
        format = format;
        refused = tt;
        from = omega (arith, next);
        handed = sym (ap (numbered old.arbitration.view.next) (still_next journal old new same));
        plain = λ _. sym (ap (handing old.arbitration.view.next) (still_next journal old new same));
        sound = still_sound journal old new sound same;
      }

  -- messages are delivered, and each is the published one with its number
  messages_received : (old new : Progress) (messages : List Message) → IsSound journal old →
      new.arbitration.view.next ≡ old.arbitration.view.next + length messages →
      new.outgoing.text
      ≡ old.outgoing.text
      ++ handed_text old.outgoing.format old.arbitration.view.next
      (printable old.outgoing.format old.outgoing.stopped messages) →
      new.outgoing.stopped ≡ stop_after old.outgoing.format old.outgoing.stopped old.arbitration.view.next messages →
      new.outgoing.format ≡ old.outgoing.format →
      ((i : ℕ) (m : Message) → slice_get messages i ≡ Some m →
      published_at journal.messages (old.arbitration.view.next + i) ≡ Some m) → IsSound journal new →
      HasHeard journal Plain Good old new
  messages_received old new messages sound next text stopped format each after =
      let from : ℕ = old.arbitration.view.next in
      let piece : messages ≡ between journal.messages from new.arbitration.view.next =
      handed_between journal.messages messages from new.arbitration.view.next (first_number journal old sound)
      (last_number journal old sound) next each in
      record {
        printed_lines = handing from messages;
        text =
            text
            ∙ ap (λ (l : List ℕ). old.outgoing.text ++ l)
            (sym
            (ap (printed_lines_text old.outgoing.format)
            (printable-handing old.outgoing.format old.outgoing.stopped from messages)
            ∙ text-handing old.outgoing.format from (printable old.outgoing.format old.outgoing.stopped messages)));
        stop = stopped ∙ sym (stop-handing old.outgoing.format old.outgoing.stopped from messages);
        format = format;
        refused = refused-handing Good journal.session from messages;
        from = omega (arith, next);
        handed = handed_of-handing from messages ∙ ap (numbered from) piece;
        plain = λ _. ap (handing from) piece;
        sound = after;
      }

  -- one after the other
  pub then_received : (old mid new : Progress) → IsSound journal old → HasHeard journal Plain Good old mid →
      HasHeard journal Plain Good mid new → HasHeard journal Plain Good old new
  then_received old mid new sound before behind =
      let first : ℕ = old.arbitration.view.next in
      let middle : ℕ = mid.arbitration.view.next in
      let last : ℕ = new.arbitration.view.next in
      let low : 1 ≤ first = first_number journal old sound in
      let within : middle ≤ length journal.messages + 1 = last_number journal mid before.sound in
      let format : MessageFormat = old.outgoing.format in
      let front : List PrintedLine = printable_lines format old.outgoing.stopped before.printed_lines in
      let rest : List PrintedLine =
      printable_lines format (lines_stop format old.outgoing.stopped before.printed_lines) behind.printed_lines in
      record {
        printed_lines = before.printed_lines ++ behind.printed_lines;
        text =
            behind.text
            ∙ ap (λ (f : MessageFormat). mid.outgoing.text
            ++ printed_lines_text f (printable_lines f mid.outgoing.stopped behind.printed_lines)) before.format
            ∙ ap (λ (s : Option ℕ). mid.outgoing.text
            ++ printed_lines_text format (printable_lines format s behind.printed_lines)) before.stop
            ∙ ap (λ (l : List ℕ). l ++ printed_lines_text format rest) before.text
            ∙ append_assoc old.outgoing.text (printed_lines_text format front) (printed_lines_text format rest)
            ∙ ap (λ (l : List ℕ). old.outgoing.text ++ l)
            (sym
            (ap (printed_lines_text format)
            (printable-append format old.outgoing.stopped before.printed_lines behind.printed_lines)
            ∙ text-append format front rest));
        stop =
            behind.stop
            ∙ ap (λ (f : MessageFormat). lines_stop f mid.outgoing.stopped behind.printed_lines) before.format
            ∙ ap (λ (s : Option ℕ). lines_stop format s behind.printed_lines) before.stop
            ∙ sym (stop-append format old.outgoing.stopped before.printed_lines behind.printed_lines);
        format = behind.format ∙ before.format;
        refused =
            refused-append Good journal.session before.printed_lines behind.printed_lines before.refused behind.refused;
        from = omega (arith, before.from, behind.from);
        handed =
            handed_of-append before.printed_lines behind.printed_lines
            ∙ ap₂ (λ (l m : List (ℕ × Message)). l ++ m) before.handed behind.handed
            ∙ sym
            (counted_joined numbered numbered-append journal.messages first middle last low before.from behind.from
            within);
        plain = λ is_plain.
            ap₂ (λ (l m : List PrintedLine). l ++ m) (before.plain is_plain) (behind.plain is_plain)
            ∙ sym
            (counted_joined handing handing-append journal.messages first middle last low before.from behind.from
            within);
        sound = behind.sound;
      }

  module _ (laws : HearingLaws) (may : MayCome journal Plain Good) where
    -- a true datagram is taken
    true_received : (line : Option Line) (bytes : List ℕ) (e : Progress) → IsSound journal e → IsTrueDatagram journal bytes →
        HasHeard journal Plain Good e (taken line bytes e)
    true_received line bytes e sound told =
        let v : View = e.arbitration.view in
        let took : IsTakenHonestly v bytes journal.messages journal.closed =
        laws.take v told.packet bytes journal.messages journal.closed sound.honest told.spelled
        (told.session ∙ sym sound.session) told.so in
        let rule : IsTakenPacket v bytes took.reception = laws.taken v bytes took.reception took.received in
        let view : (taken line bytes e).arbitration.view ≡ took.reception.view =
        ap (λ (t : Result Reception Refusal). (arbitrated line bytes e.arbitration t).view) took.received
        ∙ view_taken line bytes e.arbitration took.reception in
        let next : took.reception.view.next ≡ v.next + length took.reception.handed =
        ap (λ (r : Reception). r.view.next) rule.taken
        ∙ ap (λ (r : Reception). v.next + length r.handed) (sym rule.taken) in
        messages_received e (taken line bytes e) took.reception.handed sound (ap (λ (w : View). w.next) view ∙ next)
        (ap (λ (t : Result Reception Refusal).
        e.outgoing.text ++ taking_text e.outgoing.format e.outgoing.stopped v.next t) took.received)
        (ap (taking_stop e.outgoing.format e.outgoing.stopped v.next) took.received)
        refl took.handed
        (record {
          honest = subst (λ (w : View). IsHonest w journal.messages journal.closed) (sym view) took.honest;
          session =
              ap (λ (w : View). w.session) view ∙ ap (λ (r : Reception). r.view.session) rule.taken ∙ sound.session;
        })

    -- bytes that do not encode a packet of the session are refused
    refused_received : (line : Option Line) (bytes : List ℕ) (e : Progress) (why : Refusal) → IsSound journal e →
        Good bytes → IsForeign journal.session bytes → (Plain → ⊥) → receive e.arbitration.view bytes ≡ Err why →
        HasHeard journal Plain Good e (taken line bytes e)
    refused_received line bytes e why sound good strange never is =
        let new : Progress = taken line bytes e in
        let reason : IsReason journal.session bytes why =
        has_reason laws e.arbitration.view journal.session bytes (reading bytes) why sound.session strange refl is in
        let view : new.arbitration.view ≡ e.arbitration.view =
        ap (λ (t : Result Reception Refusal). (arbitrated line bytes e.arbitration t).view) is
        ∙ view_refused line bytes e.arbitration why in
        let next : new.arbitration.view.next ≡ e.arbitration.view.next = ap (λ (v : View). v.next) view in
        record {
          printed_lines = Refuses bytes why ∷ [];
          text =
              ap (λ (t : Result Reception Refusal).
              e.outgoing.text ++ taking_text e.outgoing.format e.outgoing.stopped e.arbitration.view.next t) is
              ∙ ap (λ (l : List ℕ). e.outgoing.text ++ l)
              (sym (refusal_text e.outgoing.format e.outgoing.stopped bytes why));
          stop =
              ap (taking_stop e.outgoing.format e.outgoing.stopped e.arbitration.view.next) is
              ∙ sym (refusal_stops e.outgoing.format e.outgoing.stopped bytes why);
          format = refl;
          refused = ((good, strange, reason), tt);
          from = omega (arith, next);
          handed = sym (ap (numbered e.arbitration.view.next) (still_next journal e new view));
          plain = λ is_plain. absurd (never is_plain);
          sound = still_sound journal e new sound view;
        }

    strange_received : (line : Option Line) (bytes : List ℕ) (e : Progress) (received : Result Reception Refusal) →
        IsSound journal e → Good bytes → IsForeign journal.session bytes → (Plain → ⊥) →
        receive e.arbitration.view bytes ≡ received → HasHeard journal Plain Good e (taken line bytes e)
    strange_received line bytes e (Ok reception) sound good strange never is =
        let rule : IsTakenPacket e.arbitration.view bytes reception = laws.taken e.arbitration.view bytes reception is in
        absurd
        (strange.1 rule.packet (laws.spelled rule.packet bytes strange.0 rule.read) (rule.session ∙ sound.session))
    strange_received line bytes e (Err why) sound good strange never is =
        refused_received line bytes e why sound good strange never is

    -- what may be received is taken or refused
    pub taken_received : (line : Option Line) (bytes : List ℕ) (e : Progress) → IsSound journal e → Good bytes →
        HasHeard journal Plain Good e (taken line bytes e)
    taken_received line bytes e sound good =
        elim (may.harmless bytes good) [
          | inl told ↦ true_received line bytes e sound told
          | inr strange ↦
              strange_received line bytes e (receive e.arbitration.view bytes) sound good strange
              (λ is_plain.
              let told : IsTrueDatagram journal bytes = may.told is_plain bytes good in
              strange.1 told.packet told.spelled told.session)
              refl
        ]
