-- What the returned datagrams state is true of the journal.
use Rattle.std.proofs.Common.{◌≡◌, ℕ, ◌+◌, ◌-◌, ◌<◌, ◌≤◌, cond, Bool, true, false, List, ◌++◌, length, drop, None, Some}
use Rattle.std.proofs.Common.{refl, sym, ap, ◌∙◌, append_assoc, inl, inr, arith}
use Rattle.std.proofs.lemmas.Bool.{cases_eq, eq-eqb, ne_eqb}
use Rattle.std.proofs.lemmas.List.{take-append-drop}
use Rattle.mold_wire.specs.declared.packet.Packet.{Packet}
use Rattle.mold_wire.specs.declared.packet.Body.TheVariants.{Data, Heartbeat, End}
use Rattle.mold_wire.specs.Packet.{Spells, messages_of}
use Rattle.mold_wire.specs.Truth.{IsTruePacket}
use Rattle.mold_session.proofs.AnswerLemmas.{is_part}
use Rattle.mold_session.proofs.FrontLemmas.{FrontIs}
use Rattle.mold_session.specs.Answer.{between, PlanState, IsPlan, next_part, next_packet}
use Rattle.mold_session.specs.Datagrams.{data_packet}
use Rattle.mold_session.specs.Journal.{JournalState, IsJournal}
use Rattle.mold_session.specs.Publisher.{PublisherState, IsPublisher, unsent_of, next_front, next_datagram, next_heartbeat, next_end, Lends}
use Rattle.mold_session.specs.Truthful.{IsTrueDatagram}

-- A law of mold_wire: a data packet is true if the journal has its messages at its sequence number.
abbrev pub Piece : Type 0
Piece =
    (packet : Packet) (published behind : List (List ℕ)) (closed : Bool) →
    length published < 18446744073709551615 → 1 ≤ packet.sequence → packet.body ≡ Data (messages_of packet.body) →
    drop (packet.sequence - 1) published ≡ messages_of packet.body ++ behind → IsTruePacket packet published closed

-- The datagram of a publisher's unsent messages is true.
pub datagram_true :
    (publisher : PublisherState) (bytes : List ℕ) → Piece → FrontIs → IsPublisher publisher →
    Lends (next_datagram publisher) (Some bytes) → IsTrueDatagram publisher.journal bytes
datagram_true publisher bytes piece front_is is lends =
    let published : List (List ℕ) = publisher.journal.messages in
    elim (cases_eq publisher.sent (length published)) [
      | inl all ↦ absurd (rw (eq-eqb publisher.sent (length published) all) at lends)
      | inr some ↦
          let longest =
          front_is publisher.limit (unsent_of publisher) (length published) (omega (arith, is.limited.0)) in
          let packet : Packet = data_packet publisher.journal.session (publisher.sent + 1) (next_front publisher) in
          let index : publisher.sent + 1 - 1 ≡ publisher.sent = omega arith in
          record {
            packet = packet;
            spelled = rw (ne_eqb publisher.sent (length published) some) at lends;
            session = refl;
            so = piece packet published longest.behind publisher.journal.closed is.journaled.few (omega arith) refl
                (ap (λ (n : ℕ). drop n published) index ∙ longest.parts);
          }
    ]

-- A packet that is returned only while the session is open, or only when it is closed.
lends_open :
    (closed : Bool) (packet : Packet) (bytes : List ℕ) → Lends (cond closed None (Some packet)) (Some bytes) →
    Spells packet bytes
lends_open true packet bytes lends = absurd lends
lends_open false packet bytes lends = lends

lends_closed :
    (closed : Bool) (packet : Packet) (bytes : List ℕ) → Lends (cond closed (Some packet) None) (Some bytes) →
    (closed ≡ true) × Spells packet bytes
lends_closed true packet bytes lends = (refl, lends)
lends_closed false packet bytes lends = absurd lends

-- A heartbeat is true.
pub heartbeat_true :
    (publisher : PublisherState) (bytes : List ℕ) → IsPublisher publisher →
    Lends (next_heartbeat publisher) (Some bytes) → IsTrueDatagram publisher.journal bytes
heartbeat_true publisher bytes is lends =
    let packet : Packet = record {
      session = publisher.journal.session;
      sequence = publisher.sent + 1;
      body = Heartbeat;
    } in
    record {
      packet = packet;
      spelled = lends_open publisher.journal.closed packet bytes lends;
      session = refl;
      so = record { few = is.journaled.few; said = (omega arith, omega (arith, is.published)) };
    }

-- An end packet is true.
pub end_true :
    (publisher : PublisherState) (bytes : List ℕ) → IsPublisher publisher →
    Lends (next_end publisher) (Some bytes) → IsTrueDatagram publisher.journal bytes
end_true publisher bytes is lends =
    let packet : Packet = record {
      session = publisher.journal.session;
      sequence = length publisher.journal.messages + 1;
      body = End;
    } in
    let both = lends_closed publisher.journal.closed packet bytes lends in
    record {
      packet = packet;
      spelled = both.1;
      session = refl;
      so = record { few = is.journaled.few; said = (both.0, refl) };
    }

-- The datagram of a plan is true.
pub packet_true :
    (journal : JournalState) (limit : ℕ) (plan : PlanState) (bytes : List ℕ) → Piece → FrontIs → IsJournal journal →
    20 ≤ limit → IsPlan plan → plan.to ≤ length journal.messages + 1 → plan.session ≡ journal.session →
    Spells (next_packet journal.messages limit plan) bytes → IsTrueDatagram journal bytes
packet_true journal limit plan bytes piece front_is journaled room is last named spelled =
    let published : List (List ℕ) = journal.messages in
    let asked : List (List ℕ) = between published plan.from plan.to in
    let part : List (List ℕ) = next_part published limit plan in
    let next = is_part published limit plan part is last (front_is limit asked (length asked) room) in
    let left : List (List ℕ) = between published (plan.from + length part) plan.to in
    let behind : List (List ℕ) = drop (plan.to - plan.from) (drop (plan.from - 1) published) in
    record {
      packet = next_packet published limit plan;
      spelled = spelled;
      session = named;
      so = piece (next_packet published limit plan) published (left ++ behind) journal.closed journaled.few is.0 refl
          (sym (take-append-drop (plan.to - plan.from) (drop (plan.from - 1) published))
          ∙ ap (λ (t : List (List ℕ)). t ++ behind) next.parts
          ∙ append_assoc part left behind);
    }
