-- What a durable publisher sends is true of the committed messages.
use Rattle.std.proofs.Common.{◌≡◌, ℕ, ◌+◌, cond, Bool, Bor, true, false, List, [], ◌∷◌, ◌++◌, length, None, Option, Some}
use Rattle.std.proofs.lemmas.Bool.{eq-eqb, ne_eqb}
use Rattle.std.proofs.Common.{refl, sym, ap, subst, ◌∙◌, append-nil, length-append, arith}
use Rattle.std.specs.Option.{option_copied}
use Rattle.std.specs.Prelude.{IfNone, IfSome}
use Rattle.mold_wire.specs.declared.packet.Packet.{Packet}
use Rattle.mold_wire.specs.declared.packet.Body.TheVariants.{Heartbeat, End}
use Rattle.mold_wire.specs.Packet.{Spells}
use Rattle.mold_wire.specs.Truth.{IsTruePacket}
use Rattle.mold_session.specs.Publisher.{Lends, PublisherState, after_datagram, next_datagram, next_end, next_heartbeat}
use Rattle.mold_session.specs.Truthful.{IsTrueDatagram}
use Rattle.mold_durable.specs.Life.{Life}
use Rattle.mold_durable.specs.Storage.{IsWithin}
use Rattle.mold_durable_publisher.specs.DurablePublisher.{Publishes, after_committed, next_committed}
use Rattle.mold_durable_publisher.specs.Told.{IsTold, IsTrueNow}
use Rattle.mold_durable_publisher.specs.declared.durable_publisher.DurablePublisher.{DurablePublisher}
use Rattle.mold_durable_publisher.proofs.ToldLemmas.{Keeps, told_later}

-- A packet that is returned only while the session is open, or only when it is closed.
lends_open :
    (closed : Bool) (packet : Packet) (bytes : List ℕ) → Lends (cond closed None (Some packet)) (Some bytes) →
    Spells packet bytes
lends_open true packet bytes lends = absurd lends
lends_open false packet bytes lends = lends

lends_closed :
    (closed : Bool) (packet : Packet) (bytes : List ℕ) → Lends (cond closed (Some packet) None) (Some bytes) →
    (closed ≡ true) × Spells packet bytes
lends_closed true packet bytes lends = (refl, lends)
lends_closed false packet bytes lends = absurd lends

-- While a message waits, nothing is sent and nothing changes.
pub none_waiting : {S : Type 0} (publisher : DurablePublisher S) → (length publisher.durable.waiting ≡ 0 → ⊥) →
    (Lends (next_committed publisher) None) × (after_committed publisher ≡ publisher)
none_waiting publisher some = rw (ne_eqb (length publisher.durable.waiting) 0 some) (tt, refl)

-- If no message waits, the publisher's next datagram is sent.
pub some_waiting : {S : Type 0} (publisher : DurablePublisher S) (lent : Option (List ℕ)) →
    length publisher.durable.waiting ≡ 0 → Lends (next_datagram publisher.publisher) lent →
    Lends (next_committed publisher) lent
some_waiting publisher lent none lends = rw (eq-eqb (length publisher.durable.waiting) 0 none) lends

pub after_waiting : {S : Type 0} (publisher : DurablePublisher S) → length publisher.durable.waiting ≡ 0 →
    record publisher { publisher = after_datagram publisher.publisher } ≡ after_committed publisher
after_waiting publisher none = rw (eq-eqb (length publisher.durable.waiting) 0 none) refl

-- What a call states of the bytes that it returns, if it returns some.
pub if_lent : {Q : List ℕ → Type 0} (packet : Option Packet) (result : Option (Bor (List ℕ))) →
    Lends packet (option_copied result) → ((bytes : List ℕ) → Lends packet (Some bytes) → Q bytes) →
    IfSome result (λ bytes. Q bytes.now)
if_lent packet None lends states = tt
if_lent packet (Some bytes) lends states = states bytes.now lends

pub if_true : {P Q : List ℕ → Type 0} (result : Option (Bor (List ℕ))) → ((bytes : List ℕ) → P bytes → Q bytes) →
    IfSome result (λ bytes. P bytes.now) → IfSome result (λ bytes. Q bytes.now)
if_true None follows so = tt
if_true (Some bytes) follows so = follows bytes.now so

pub if_idle : {S : Type 0} (publisher : DurablePublisher S) (result : Option (Bor (List ℕ))) →
    length publisher.durable.waiting ≡ 0 →
    IfNone result (after_datagram publisher.publisher ≡ publisher.publisher) →
    IfNone result (after_committed publisher ≡ publisher)
if_idle publisher None none same =
    sym (after_waiting publisher none) ∙ ap (λ (p : PublisherState). record publisher { publisher = p }) same
if_idle publisher (Some bytes) none same = same

nothing_in : (messages : List (List ℕ)) → length messages ≡ 0 → messages ≡ []
nothing_in [] none = refl
nothing_in (message ∷ messages) none = absurd (omega (arith, none))

module _ {S : Type 0} (shows may_leave : S → List ℕ → Type 0) (publisher : DurablePublisher S) (life : Life)
    (is : Publishes shows may_leave publisher life) where
  -- If no message waits, what is true of the publisher's messages is true of the committed ones.
  pub true_committed : (bytes : List ℕ) → length publisher.durable.waiting ≡ 0 →
      IsTrueDatagram publisher.publisher.journal bytes → IsTrueNow life bytes
  true_committed bytes none one =
      let nothing : life.waiting ≡ [] =
      nothing_in life.waiting (sym (ap (λ (ms : List (List ℕ)). length ms) is.waits) ∙ none) in
      let same : publisher.publisher.journal.messages ≡ life.committed =
      is.held ∙ ap (λ (ms : List (List ℕ)). life.committed ++ ms) nothing ∙ append-nil life.committed in
      record {
        packet = one.packet;
        spelled = one.spelled;
        named = one.session ∙ is.named;
        so = subst (λ (b : Bool). IsTruePacket one.packet life.committed b) is.closed
            (subst (λ (ms : List (List ℕ)). IsTruePacket one.packet ms publisher.publisher.journal.closed) same one.so);
      }

  pub true_heartbeat : (bytes : List ℕ) → Lends (next_heartbeat publisher.publisher) (Some bytes) →
      IsTrueNow life bytes
  true_heartbeat bytes lends =
      let packet : Packet = record {
        session = publisher.publisher.journal.session;
        sequence = publisher.publisher.sent + 1;
        body = Heartbeat;
      } in
      record {
        packet = packet;
        spelled = lends_open publisher.publisher.journal.closed packet bytes lends;
        named = is.named;
        so = record { few = omega (arith, is.possible.few); said = (omega arith, omega (arith, is.sent)) };
      }

  pub true_end : (bytes : List ℕ) → Lends (next_end publisher.publisher) (Some bytes) → IsTrueNow life bytes
  true_end bytes lends =
      let packet : Packet = record {
        session = publisher.publisher.journal.session;
        sequence = length publisher.publisher.journal.messages + 1;
        body = End;
      } in
      let both = lends_closed publisher.publisher.journal.closed packet bytes lends in
      let over : life.closed ≡ true = sym is.closed ∙ both.0 in
      let all : length publisher.publisher.journal.messages ≡ length life.committed =
      omega (
        arith,
        ap (λ (ms : List (List ℕ)). length ms) is.held,
        length-append life.committed life.waiting,
        ap (λ (ms : List (List ℕ)). length ms) (is.possible.none over),
      ) in
      record {
        packet = packet;
        spelled = both.1;
        named = is.named;
        so = record { few = omega (arith, is.possible.few); said = (over, omega (arith, all)) };
      }

  -- So it is true of every file that a crash leaves.
  pub told_of : Keeps → (bytes : List ℕ) → IsTrueNow life bytes →
      IsWithin (IsTold bytes) (may_leave publisher.durable.storage)
  told_of keeps bytes so left now = told_later keeps life bytes left so (is.left left now)
