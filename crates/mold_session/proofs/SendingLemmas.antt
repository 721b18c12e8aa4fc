-- The packets that a publisher or a server sends next have an encoding, and it is true of the journal.
use Rattle.std.proofs.Common.{◌≡◌, ℕ, zero, suc, ◌+◌, ◌-◌, ◌<◌, ◌≤◌, ◌^◌, cond, Bool, true, false, List, [], ◌∷◌, length}
use Rattle.std.proofs.Common.{drop, length-drop, ◌++◌, Option, None, Some, sym, ap, subst, ◌∙◌, inl, inr, arith}
use Rattle.std.specs.Prelude.{slice_get}
use Rattle.std.specs.List.{AllByRecursion}
use Rattle.std.proofs.lemmas.Bool.{cases_eq, eq-eqb, ne_eqb}
use Rattle.std.proofs.lemmas.Option.{none-some, same_Some}
use Rattle.mold_wire.specs.Block.{IsMessage}
use Rattle.mold_wire.specs.Packet.{IsPacket, Spells, spelling_of}
use Rattle.mold_wire.specs.Packing.{Fits, front}
use Rattle.mold_wire.specs.declared.packet.Packet.{Packet}
use Rattle.mold_wire.specs.declared.packet.Body.TheVariants.{Heartbeat, End}
use Rattle.mold_wire.specs.declared.session.Session.{Session}
use Rattle.mold_session.proofs.FrontLemmas.{Alone, FrontIs, SomeFront, each_drop, each_take, fit_alone, some_front}
use Rattle.mold_session.proofs.TruthLemmas.{Piece, datagram_true, end_true, heartbeat_true, packet_true}
use Rattle.mold_session.proofs.AnswerLemmas.{between_length, next_of, none_of}
use Rattle.mold_session.specs.Answer.{IsPlan, IsSpent, PlanState, between, moved, next_packet, next_part, planned}
use Rattle.mold_session.specs.Datagrams.{data_packet}
use Rattle.mold_session.specs.Journal.{IsWithin, JournalState}
use Rattle.mold_session.specs.Publisher.{IsPublisher, Lends, PublisherState, next_datagram, next_end, next_front}
use Rattle.mold_session.specs.Publisher.{next_heartbeat, unsent_of}
use Rattle.mold_session.specs.Truthful.{MayAnswer, IsTrueDatagram}

-- The laws of mold_wire that these proofs use.
pub record WireLaws : Type 0 where
  pub front_is : FrontIs
  pub some : SomeFront
  pub alone : Alone
  pub piece : Piece
  pub most : (limit : ℕ) (messages : List (List ℕ)) → limit ≤ 65507 → Fits limit messages → length messages ≤ 32743
  pub spelled : (packet : Packet) → IsPacket packet → Spells packet (spelling_of packet)

-- The messages of a datagram are no longer than a block allows.
each_is_message :
    (longest : ℕ) (messages : List (List ℕ)) → longest < 65536 → AllByRecursion (IsWithin longest) messages →
    AllByRecursion IsMessage messages
each_is_message longest [] short each = tt
each_is_message longest (message ∷ messages) short each =
    (omega (arith, short, each.0), each_is_message longest messages short each.1)

-- What holds of each item of a list holds of each item of its prefix.
each_front :
    {X : Type 0} (P : X → Type 0) (front behind : List X) → AllByRecursion P (front ++ behind) → AllByRecursion P front
each_front P [] behind each = tt
each_front P (x ∷ front) behind each = (each.0, each_front P front behind each.1)

-- Messages of a journal, and a datagram limit for them.
pub record MayBeSent (limit longest : ℕ) (messages : List (List ℕ)) : Type 0 where
  pub least : 20 ≤ limit
  pub greatest : limit ≤ 65507
  pub room : longest + 22 ≤ limit
  pub each : AllByRecursion (IsWithin longest) messages
  pub some : 0 < length messages

-- The longest prefix of messages that may be sent makes a packet.
front_is_packet :
    (laws : WireLaws) (session : Session) (number limit longest most : ℕ) (messages : List (List ℕ)) →
    length session.0 ≡ 10 → number < 2 ^ 64 → 0 < most → MayBeSent limit longest messages →
    IsPacket (data_packet session number (front limit messages most))
front_is_packet laws session number limit longest most messages named fits some may =
    let found : List (List ℕ) = front limit messages most in
    let is = laws.front_is limit messages most may.least in
    record {
      session = named;
      sequence = fits;
      body = (
        some_front limit messages most found laws.some laws.alone
            (fit_alone longest limit messages may.room may.each) may.some some is,
        omega (arith, laws.most limit found may.greatest is.fits),
        each_is_message longest found (omega (arith, may.room, may.greatest))
            (each_front (IsWithin longest) found is.behind
            (subst (λ (t : List (List ℕ)). AllByRecursion (IsWithin longest) t) is.parts may.each)),
      );
    }

-- The encoding of a publisher's next data packet is true of the journal.
pub datagram_spelled :
    (laws : WireLaws) (publisher : PublisherState) (packet : Packet) → IsPublisher publisher →
    length publisher.journal.session.0 ≡ 10 → next_datagram publisher ≡ Some packet →
    Spells packet (spelling_of packet)
datagram_spelled laws publisher packet is named next =
    let messages : List (List ℕ) = publisher.journal.messages in
    let count : length (unsent_of publisher) ≡ length messages - publisher.sent =
    length-drop publisher.sent messages
    in
    elim (cases_eq publisher.sent (length messages)) [
      | inl all ↦ absurd (none-some packet (rw (eq-eqb publisher.sent (length messages) all) at next))
      | inr more ↦
          let first : Packet =
          data_packet publisher.journal.session (publisher.sent + 1) (next_front publisher)
          in
          let same : first ≡ packet = same_Some first packet
          (rw (ne_eqb publisher.sent (length messages) more) at next)
          in
          let may : MayBeSent publisher.limit publisher.journal.max_message (unsent_of publisher) = record {
            least = omega (arith, is.limited.0);
            greatest = is.limited.1;
            room = omega (arith, is.longest);
            each = each_drop (IsWithin publisher.journal.max_message) publisher.sent messages is.journaled.each;
            some = omega (arith, count, is.published, more);
          } in
          subst (λ (t : Packet). Spells t (spelling_of t)) same
          (laws.spelled first (front_is_packet laws publisher.journal.session (publisher.sent + 1) publisher.limit
          publisher.journal.max_message (length messages) (unsent_of publisher) named
          (omega (arith, is.published, is.journaled.few)) (omega (arith, is.published, more)) may))
    ]

pub datagram_says :
    (laws : WireLaws) (publisher : PublisherState) (packet : Packet) → IsPublisher publisher →
    length publisher.journal.session.0 ≡ 10 → next_datagram publisher ≡ Some packet →
    IsTrueDatagram publisher.journal (spelling_of packet)
datagram_says laws publisher packet is named next =
    datagram_true publisher (spelling_of packet) laws.piece laws.front_is is
    (subst (λ (t : Option Packet). Lends t (Some (spelling_of packet))) (sym next)
    (datagram_spelled laws publisher packet is named next))

-- A heartbeat or an end packet is a packet.
bare_is_packet :
    (laws : WireLaws) (publisher : PublisherState) (packet : Packet) → IsPacket packet → (next : Option Packet) →
    next ≡ Some packet → Lends next (Some (spelling_of packet))
bare_is_packet laws publisher packet is next same =
    subst (λ (t : Option Packet). Lends t (Some (spelling_of packet))) (sym same) (laws.spelled packet is)

open_packet :
    (closed : Bool) (first packet : Packet) → cond closed None (Some first) ≡ Some packet → first ≡ packet
open_packet true first packet is = absurd (none-some packet is)
open_packet false first packet is = same_Some first packet is

closed_packet :
    (closed : Bool) (first packet : Packet) → cond closed (Some first) None ≡ Some packet → first ≡ packet
closed_packet true first packet is = same_Some first packet is
closed_packet false first packet is = absurd (none-some packet is)

-- The encoding of a publisher's next heartbeat is true of the journal.
pub heartbeat_says :
    (laws : WireLaws) (publisher : PublisherState) (packet : Packet) → IsPublisher publisher →
    length publisher.journal.session.0 ≡ 10 → next_heartbeat publisher ≡ Some packet →
    IsTrueDatagram publisher.journal (spelling_of packet)
heartbeat_says laws publisher packet is named next =
    let first : Packet = record {
      session = publisher.journal.session;
      sequence = publisher.sent + 1;
      body = Heartbeat;
    } in
    let packet_is : IsPacket first = record {
      session = named;
      sequence = omega (arith, is.published, is.journaled.few);
      body = tt;
    } in
    heartbeat_true publisher (spelling_of packet) is
    (bare_is_packet laws publisher packet
    (subst IsPacket (open_packet publisher.journal.closed first packet next) packet_is)
    (next_heartbeat publisher) next)

-- The encoding of a publisher's next end packet is true of the journal.
pub end_says :
    (laws : WireLaws) (publisher : PublisherState) (packet : Packet) → IsPublisher publisher →
    length publisher.journal.session.0 ≡ 10 → next_end publisher ≡ Some packet →
    IsTrueDatagram publisher.journal (spelling_of packet)
end_says laws publisher packet is named next =
    let first : Packet = record {
      session = publisher.journal.session;
      sequence = length publisher.journal.messages + 1;
      body = End;
    } in
    let packet_is : IsPacket first = record {
      session = named;
      sequence = omega (arith, is.journaled.few);
      body = tt;
    } in
    end_true publisher (spelling_of packet) is
    (bare_is_packet laws publisher packet
    (subst IsPacket (closed_packet publisher.journal.closed first packet next) packet_is)
    (next_end publisher) next)

-- The encoding of a plan's next packet is true of the journal.
next_says :
    (laws : WireLaws) (journal : JournalState) (limit : ℕ) (plan : PlanState) → MayAnswer journal limit →
    IsPlan plan → plan.from < plan.to → plan.to ≤ length journal.messages + 1 → plan.session ≡ journal.session →
    IsTrueDatagram journal (spelling_of (next_packet journal.messages limit plan))
next_says laws journal limit plan may is more last session =
    let asked : List (List ℕ) = between journal.messages plan.from plan.to in
    let count : length asked ≡ plan.to - plan.from =
    between_length journal.messages plan.from plan.to is.0 is.1 last
    in
    let sent : MayBeSent limit journal.max_message asked = record {
      least = omega (arith, may.limited.0);
      greatest = may.limited.1;
      room = may.room;
      each = each_take (IsWithin journal.max_message) (plan.to - plan.from) (drop (plan.from - 1) journal.messages)
          (each_drop (IsWithin journal.max_message) (plan.from - 1) journal.messages may.journaled.each);
      some = omega (arith, count, more);
    } in
    let packet_is = front_is_packet laws plan.session plan.from limit journal.max_message (length asked) asked
    (subst (λ (t : Session). length t.0 ≡ 10) (sym session) may.named)
    (omega (arith, more, last, may.journaled.few)) (omega (arith, count, more)) sent
    in
    packet_true journal limit plan (spelling_of (next_packet journal.messages limit plan)) laws.piece laws.front_is
    may.journaled (omega (arith, may.limited.0)) is last session
    (laws.spelled (next_packet journal.messages limit plan) packet_is)

in_cons :
    (P : Packet → Type 0) (first packet : Packet) (rest : List Packet) (index : ℕ) →
    slice_get (first ∷ rest) index ≡ Some packet → P first →
    ((behind : ℕ) → slice_get rest behind ≡ Some packet → P packet) → P packet
in_cons P first packet rest zero is one others = subst P (same_Some first packet is) one
in_cons P first packet rest (suc index) is one others = others index is

-- The encoding of every packet of a plan is true of the journal.
pub planned_says :
    (laws : WireLaws) (journal : JournalState) (limit left : ℕ) (plan : PlanState) → plan.left ≡ left →
    MayAnswer journal limit → IsPlan plan → plan.to ≤ length journal.messages + 1 → plan.session ≡ journal.session →
    (index : ℕ) (packet : Packet) → slice_get (planned journal.messages limit plan) index ≡ Some packet →
    IsTrueDatagram journal (spelling_of packet)
planned_says laws journal limit zero plan count may is last session index packet found =
    absurd (none-some packet (sym (ap (λ (t : List Packet). slice_get t index)
    (none_of journal.messages limit plan (inl count))) ∙ found))
planned_says laws journal limit (suc left) plan count may is last session index packet found =
    elim (cases_eq plan.from plan.to) [
      | inl all ↦ absurd (none-some packet (sym (ap (λ (t : List Packet). slice_get t index)
          (none_of journal.messages limit plan (inr all))) ∙ found))
      | inr more ↦
          let each = fit_alone journal.max_message limit journal.messages may.room may.journaled.each in
          let unspent : ¬ IsSpent plan = λ spent.
          elim spent [ inl none ↦ omega (arith, none, count) | inr none ↦ more none ]
          in
          let next = next_of journal.messages limit plan laws.front_is laws.some laws.alone each is last unspent in
          let part : ℕ = length (next_part journal.messages limit plan) in
          in_cons (λ (t : Packet). IsTrueDatagram journal (spelling_of t)) (next_packet journal.messages limit plan)
          packet (planned journal.messages limit (moved plan part)) index
          (ap (λ (t : List Packet). slice_get t index) (sym next.sent) ∙ found)
          (next_says laws journal limit plan may is (omega (arith, is.1, more)) last session)
          (λ behind there. planned_says laws journal limit left (moved plan part) (omega (arith, count)) may
          (omega (arith, is.0), next.within) last session behind packet there)
    ]
