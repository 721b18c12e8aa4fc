-- What a publisher puts into its next datagram.
use Rattle.std.proofs.Common.{◌≡◌, ◌==◌, ◌↔◌, ltb, ⊎_elim, ℕ, ◌+◌, ◌-◌, ◌*◌, ◌/◌, ◌<◌, ◌≤◌, true}
use Rattle.std.proofs.Common.{false, List, [], length, None, Some, refl, ap}
use Rattle.std.proofs.Common.{subst, ◌∙◌, arith}
use Rattle.std.proofs.lemmas.List.{length-drop}
use Rattle.std.proofs.lemmas.Bool.{eq-eqb, ne_eqb, ltb-true, lt-ltb, cases_lt}
use Rattle.mold_wire.specs.declared.session.Session.{Session}
use Rattle.mold_wire.specs.declared.packet.Body.{Body}
use Rattle.mold_wire.specs.Packet.{Spells}
use Rattle.mold_wire.specs.Packer.{PackerState, Begun, Open, Ended, SpellsBegun, open_packet}
use Rattle.mold_wire.specs.Packing.{packet_length, Fits, IsFront}
use Rattle.mold_messages.specs.Listed.{byte_count}
use Rattle.mold_session.proofs.FrontLemmas.{FrontIs, OnlyFront, SomeFront, Alone, each_drop, front_within, some_front, fit_alone, data_body}
use Rattle.mold_session.proofs.PackingLemmas.{packet_bytes}
use Rattle.mold_session.specs.Answer.{FitAlone}
use Rattle.mold_session.specs.Journal.{IsWithin}
use Rattle.mold_session.specs.Packing.{HasPacked}
use Rattle.mold_session.specs.Publisher.{PublisherState, IsPublisher, unsent_of, next_front, next_datagram, next_heartbeat, next_end}
use Rattle.mold_session.specs.Publisher.{after_datagram, Lends}

-- If no message is unsent, nothing is sent and the publisher is unchanged.
pub record StaysIdle (publisher : PublisherState) : Type 0 where
  pub same : publisher ≡ after_datagram publisher
  pub nothing : next_datagram publisher ≡ None

pub stays_idle :
    (publisher : PublisherState) → FrontIs → IsPublisher publisher →
    length publisher.journal.messages - publisher.sent ≡ 0 → StaysIdle publisher
stays_idle publisher front_is is none =
    let all : publisher.sent ≡ length publisher.journal.messages = omega (arith, is.published, none) in
    let limit : 20 ≤ publisher.limit = omega (arith, is.limited.0) in
    let empty : length (next_front publisher) ≡ 0 =
    omega (
      arith,
      front_within publisher.limit (unsent_of publisher) (length publisher.journal.messages) (next_front publisher)
          (front_is publisher.limit (unsent_of publisher) (length publisher.journal.messages) limit),
      length-drop publisher.sent publisher.journal.messages,
    )
    in
    let sum : publisher.sent ≡ publisher.sent + length (next_front publisher) = omega (arith, empty) in
    record {
      same = ap (λ (n : ℕ). record publisher { sent = n }) sum;
      nothing = rw (eq-eqb publisher.sent (length publisher.journal.messages) all) refl;
    }

-- The packed messages are those of the next datagram, and there is at least one.
pub record IsNext (publisher : PublisherState) (old new : PackerState) (count : ℕ) : Type 0 where
  pub counted : count ≡ length (next_front publisher)
  pub within : publisher.sent + count ≤ length publisher.journal.messages
  pub limit : new.limit ≡ old.limit
  pub begun : new.begun ≡ Open publisher.journal.session (publisher.sent + 1) (next_front publisher)
  pub some : 0 < count

pub is_next :
    (publisher : PublisherState) (old new : PackerState) (session : Session) (messages : List (List ℕ))
    (most count : ℕ) → OnlyFront → SomeFront → Alone → IsPublisher publisher →
    (length publisher.journal.messages - publisher.sent ≡ 0 → ⊥) → old.limit ≡ publisher.limit →
    session ≡ publisher.journal.session → messages ≡ unsent_of publisher →
    most ≡ length publisher.journal.messages → HasPacked old new session (publisher.sent + 1) messages most count → IsNext publisher old new count
is_next publisher old new session messages most count only some alone is unsent limit named all every packed =
    let long : IsFront publisher.limit (unsent_of publisher) (length publisher.journal.messages) packed.found =
    rw every at rw all at rw limit at packed.longest in
    let next : packed.found ≡ next_front publisher =
    only publisher.limit (unsent_of publisher) (length publisher.journal.messages) packed.found long
    in
    let each : FitAlone publisher.limit (unsent_of publisher) =
    fit_alone publisher.journal.max_message publisher.limit (unsent_of publisher) (omega (arith, is.longest))
    (each_drop (IsWithin publisher.journal.max_message) publisher.sent publisher.journal.messages is.journaled.each)
    in
    let found_some : 0 < length packed.found =
    some_front publisher.limit (unsent_of publisher) (length publisher.journal.messages) packed.found some alone each
    (omega (arith, unsent, length-drop publisher.sent publisher.journal.messages)) (omega (arith, unsent)) long
    in
    record {
      counted = packed.counted ∙ ap (λ (t : List (List ℕ)). length t) next;
      within = omega (
        arith,
        packed.counted,
        front_within publisher.limit (unsent_of publisher) (length publisher.journal.messages) packed.found
            long,
        length-drop publisher.sent publisher.journal.messages,
        is.published,
      );
      limit = ap (λ (p : PackerState). p.limit) packed.begun;
      begun =
          ap (λ (p : PackerState). p.begun) packed.begun
          ∙ ap (λ (s : Session). Open s (publisher.sent + 1) packed.found) named
          ∙ ap (λ (t : List (List ℕ)). Open publisher.journal.session (publisher.sent + 1) t) next;
      some = omega (arith, packed.counted, found_some);
    }

-- The encoding of the packed messages is the next datagram.
pub lends_next :
    (publisher : PublisherState) (old new : PackerState) (count : ℕ) (bytes : List ℕ) →
    (length publisher.journal.messages - publisher.sent ≡ 0 → ⊥) → IsNext publisher old new count →
    SpellsBegun new.begun bytes → Lends (next_datagram publisher) (Some bytes)
lends_next publisher old new count bytes unsent next spells =
    let differs : (publisher.sent == length publisher.journal.messages) ≡ false =
    ne_eqb publisher.sent (length publisher.journal.messages) (λ same. unsent (omega (arith, same)))
    in
    let spelled : Spells (open_packet publisher.journal.session (publisher.sent + 1) (next_front publisher)) bytes =
    rw next.begun at spells in
    rw differs (
    subst (λ (b : Body). Spells
    (record { session = publisher.journal.session; sequence = publisher.sent + 1; body = b }) bytes)
    (data_body (next_front publisher) (omega (arith, next.some, next.counted)))
    spelled
    )

-- The publisher after that datagram has the properties of a publisher.
pub still_publisher :
    (publisher : PublisherState) (old new : PackerState) (count : ℕ) → IsPublisher publisher →
    (length publisher.journal.messages - publisher.sent ≡ 0 → ⊥) → IsNext publisher old new count →
    IsPublisher (record publisher { sent = publisher.sent + count })
still_publisher publisher old new count is unsent next = record {
  limited = is.limited;
  longest = is.longest;
  journaled = is.journaled;
  published = next.within;
  finished = λ closed. absurd (unsent (omega (arith, is.finished closed)));
}

-- The length of a packet with the unsent messages: the header, the length fields, and the bytes of the
-- messages.
pub unsent_bytes :
    (publisher : PublisherState) (lengths joined : ℕ) → IsPublisher publisher →
    lengths ≡ length publisher.journal.messages - publisher.sent → joined ≡ byte_count (unsent_of publisher) →
    packet_length (unsent_of publisher) ≡ 20 + (2 * lengths + joined)
unsent_bytes publisher lengths joined is counted together =
    omega (
      arith,
      packet_bytes (unsent_of publisher),
      counted,
      together,
      length-drop publisher.sent
          publisher.journal.messages,
    )

pub too_many :
    (publisher : PublisherState) (limit lengths : ℕ) → IsPublisher publisher → limit ≡ publisher.limit →
    lengths ≡ length publisher.journal.messages - publisher.sent → (limit - 20) / 2 < lengths →
    Fits publisher.limit (unsent_of publisher) → ⊥
too_many publisher limit lengths is limited counted many fits =
    let all = unsent_bytes publisher lengths (byte_count (unsent_of publisher)) is counted refl in
    omega (arith, all, fits, many, limited)

pub full_tells :
    (publisher : PublisherState) (limit lengths joined : ℕ) → IsPublisher publisher → limit ≡ publisher.limit →
    lengths ≡ length publisher.journal.messages - publisher.sent → joined ≡ byte_count (unsent_of publisher) →
    lengths ≤ (limit - 20) / 2 →
    (ltb (limit - 20 - 2 * lengths) joined ≡ true) ↔ (Fits publisher.limit (unsent_of publisher) → ⊥)
full_tells publisher limit lengths joined is limited counted together few =
    let all = unsent_bytes publisher lengths joined is counted together in
    let bounds = is.limited.0 in (
      λ full fits. omega (arith, ltb-true (limit - 20 - 2 * lengths) joined full, all, fits, few, limited),
      λ unfit. ⊎_elim
          (λ more. lt-ltb (limit - 20 - 2 * lengths) joined more)
          (λ less. absurd (unfit (omega (arith, less, all, few, limited, bounds))))
          (cases_lt (limit - 20 - 2 * lengths) joined),
    )

-- The encoding of a begun heartbeat or end packet is the next one.
pub lends_heartbeat :
    (publisher : PublisherState) (begun : Begun) (bytes : List ℕ) → publisher.journal.closed ≡ false →
    begun ≡ Open publisher.journal.session (publisher.sent + 1) [] → SpellsBegun begun bytes →
    Lends (next_heartbeat publisher) (Some bytes)
lends_heartbeat publisher begun bytes is_open is spells =
    let spelled = rw is at spells in
    rw is_open spelled

pub lends_end :
    (publisher : PublisherState) (begun : Begun) (bytes : List ℕ) → publisher.journal.closed ≡ true →
    begun ≡ Ended publisher.journal.session (length publisher.journal.messages + 1) → SpellsBegun begun bytes →
    Lends (next_end publisher) (Some bytes)
lends_end publisher begun bytes is_closed is spells =
    let spelled = rw is at spells in
    rw is_closed spelled
