-- What a server packs, and which packet its bytes encode.
use Rattle.std.proofs.Common.{◌≡◌, ℕ, ◌+◌, ◌-◌, ◌<◌, ◌≤◌, List, length, drop, Result, Ok, Err, IfOk, refl, sym, ap}
use Rattle.std.proofs.Common.{subst, ◌∙◌, inr, arith}
use Rattle.mold_wire.specs.declared.session.Session.{Session}
use Rattle.mold_wire.specs.declared.packet.Body.{Body}
use Rattle.mold_wire.specs.Packet.{Spells}
use Rattle.mold_wire.specs.Packer.{PackerState, Open, SpellsBegun}
use Rattle.mold_wire.specs.Packing.{IsFront}
use Rattle.mold_session.proofs.AnswerLemmas.{is_part, part_some, next_of, plan_is, plan_within, plan_unspent, planned_answer}
use Rattle.mold_session.proofs.RequestCheckLemmas.{planned_from}
use Rattle.mold_session.proofs.FrontLemmas.{FrontIs, OnlyFront, SomeFront, Alone, fit_alone, front_of_taken, data_body}
use Rattle.mold_session.proofs.TruthLemmas.{Piece, packet_true}
use Rattle.mold_session.specs.Truthful.{IsTrueDatagram}
use Rattle.mold_session.specs.Answer.{from_number, between, PlanState, IsPlan, IsSpent, plan_for, next_part}
use Rattle.mold_session.specs.Answer.{next_packet, planned, moved}
use Rattle.mold_session.specs.Journal.{JournalState, IsJournal}
use Rattle.mold_session.specs.Packing.{HasPacked}
use Rattle.mold_session.specs.Server.{ServerState, IsServer, SpellsAnswer, planning}
use Rattle.mold_session.specs.Serving.{HasPackedNext, HasSentNext, IsPlanOf}
use Rattle.mold_session.specs.declared.error.AnswerError.{AnswerError}

-- The state of a server, from its parts.
abbrev pub server_of : ℕ → ℕ → ℕ → ℕ → ServerState
server_of limit max_message burst answered = record {
  limit = limit;
  max_message = max_message;
  burst = burst;
  answered = answered;
}

-- The state of a packer that has begun a data packet with these messages.
abbrev begun_of : ℕ → Session → ℕ → List (List ℕ) → PackerState
begun_of limit session sequence messages = record { limit = limit; begun = Open session sequence messages }

pub packed_next :
    (old new : PackerState) (journal : JournalState) (plan : PlanState) (session : Session) (sequence to : ℕ)
    (messages : List (List ℕ)) (count : ℕ) → OnlyFront → SomeFront → Alone → IsPlan plan → IsJournal journal →
    journal.max_message + 22 ≤ old.limit → plan.to ≤ length journal.messages + 1 → session ≡ plan.session →
    sequence ≡ plan.from → to ≡ plan.to → messages ≡ drop (sequence - 1) journal.messages →
    HasPacked old new session sequence messages (to - sequence) count → HasPackedNext old new journal plan count
packed_next old new journal plan session sequence to messages count only some alone is journaled room last named first
    behind all packed =
    let long : IsFront old.limit (from_number journal.messages plan.from) (plan.to - plan.from) packed.found =
    rw first at rw behind at rw all at packed.longest in
    let taken = front_of_taken old.limit (from_number journal.messages plan.from) (plan.to - plan.from) packed.found
    long in
    let next : packed.found ≡ next_part journal.messages old.limit plan =
    only old.limit (between journal.messages plan.from plan.to)
    (length (between journal.messages plan.from plan.to)) packed.found taken
    in
    let part = is_part journal.messages old.limit plan packed.found is last taken in
    let each = fit_alone journal.max_message old.limit journal.messages room journaled.each in
    record {
      begun =
          packed.begun
          ∙ ap (λ (s : Session). begun_of old.limit s sequence packed.found) named
          ∙ ap (λ (n : ℕ). begun_of old.limit plan.session n packed.found) first
          ∙ ap (begun_of old.limit plan.session plan.from) next;
      counted = packed.counted ∙ ap (λ (t : List (List ℕ)). length t) next;
      within = omega (arith, part.within, packed.counted);
      some = λ more.
          let found_some = part_some journal.messages old.limit plan packed.found some alone each is more last taken in
          omega (arith, found_some, packed.counted);
      journaled = journaled;
    }

-- The bytes of a packet with at least one message are the encoding of the plan's next packet.
pub spells_next :
    (old new : PackerState) (journal : JournalState) (plan : PlanState) (count : ℕ) (bytes : List ℕ) →
    HasPackedNext old new journal plan count → plan.from < plan.to → SpellsBegun new.begun bytes →
    Spells (next_packet journal.messages old.limit plan) bytes
spells_next old new journal plan count bytes packed more spells =
    let begun = ap (λ (p : PackerState). p.begun) packed.begun in
    subst (λ (b : Body). Spells (record { session = plan.session; sequence = plan.from; body = b }) bytes)
    (data_body (next_part journal.messages old.limit plan) (omega (arith, packed.some more, packed.counted)))
    (rw begun at spells)

-- The bytes `lent` are the first response to the request `asked`, and they are true of the journal.
pub record IsAnswer (journal : JournalState) (server : ServerState) (asked lent : List ℕ) : Type 0 where
  pub spelled : SpellsAnswer journal server asked lent
  pub truth : IsTrueDatagram journal lent

-- The packed bytes are the first response to the request that the plan was made for.
pub spells_answer :
    (journal : JournalState) (server : ServerState) (asked : List ℕ) (plan : PlanState) (old new : PackerState)
    (count : ℕ) (bytes : List ℕ) → Piece → FrontIs → SomeFront → Alone → IsJournal journal → IsServer server →
    journal.max_message ≤ server.max_message → Ok plan ≡ planning journal server.burst asked →
    old.limit ≡ server.limit → HasPackedNext old new journal plan count → SpellsBegun new.begun bytes →
    IsAnswer journal server asked bytes
spells_answer journal server asked plan old new count bytes piece front_is some alone journaled is within planned_is limit
    packed spells =
    let from_request = planned_from journal server.burst asked plan planned_is in
    let request = from_request.request in
    let answerable = from_request.answerable in
    let whole = plan_for journal server.burst request in
    let each =
    fit_alone journal.max_message server.limit journal.messages (omega (arith, within, is.longest)) journaled.each in
    let well = plan_is journal server.burst request answerable.first answerable.last in
    let last = plan_within journal server.burst request in
    let more = plan_unspent journal.messages journal.session request.sequence request.count server.burst answerable.first
    answerable.last answerable.count is.some in
    let next = next_of journal.messages server.limit whole front_is some alone each well last more in
    let packed_whole : HasPackedNext old new journal whole count =
    subst (λ (p : PlanState). HasPackedNext old new journal p count) from_request.plan_is packed in
    let spelled : Spells (next_packet journal.messages server.limit whole) bytes =
    subst (λ (n : ℕ). Spells (next_packet journal.messages n whole) bytes) limit
    (spells_next old new journal whole count bytes packed_whole (omega (arith, next.some, next.within)) spells)
    in
    record {
      spelled = record {
        request = request;
        packet = next_packet journal.messages server.limit whole;
        rest = planned journal.messages server.limit
            (moved whole (length (next_part journal.messages server.limit whole)));
        asks = from_request.asks;
        sent = sym (planned_answer journal server.limit server.burst request answerable.first answerable.last)
            ∙ next.sent;
        spelled = spelled;
      };
      truth = packet_true journal server.limit whole bytes piece front_is journaled
          (omega (arith, is.limited.0)) well last refl spelled;
    }

-- A plan for messages of the journal has its session, and ends at its next message or earlier.
pub plan_of :
    (journal : JournalState) (result : Result PlanState AnswerError) → IfOk result (IsPlanOf journal) →
    IfOk result (λ plan. plan.session ≡ journal.session) × IfOk result (λ plan. plan.to ≤ length journal.messages + 1)
plan_of journal (Err error) planned = (tt, tt)
plan_of journal (Ok plan) planned = (planned.session, planned.to)

-- The packed bytes are the plan's next datagram.
pub sent_next :
    (journal : JournalState) (server : ServerState) (plan after : PlanState) (old new : PackerState) (count : ℕ)
    (bytes : List ℕ) → Piece → FrontIs → IsServer server → IsPlan plan → IsPlanOf journal plan →
    old.limit ≡ server.limit → (IsSpent plan → ⊥) → HasPackedNext old new journal plan count →
    SpellsBegun new.begun bytes → after ≡ moved plan count → HasSentNext journal server.limit plan after bytes
sent_next journal server plan after old new count bytes piece front_is is well planned limit more packed spells
    advanced =
    let some : plan.from < plan.to = omega (arith, well, λ (none : plan.from ≡ plan.to). more (inr none)) in
    let spelled : Spells (next_packet journal.messages server.limit plan) bytes =
    subst (λ (n : ℕ). Spells (next_packet journal.messages n plan) bytes) limit
    (spells_next old new journal plan count bytes packed some spells)
    in
    record {
      spelled = spelled;
      truth = packet_true journal server.limit plan bytes piece front_is packed.journaled
          (omega (arith, is.limited.0)) well planned.to planned.session spelled;
      moved = advanced
          ∙ ap (moved plan) (packed.counted ∙ ap (λ (n : ℕ). length (next_part journal.messages n plan)) limit);
    }
