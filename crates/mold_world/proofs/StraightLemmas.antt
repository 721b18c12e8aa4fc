-- A receiver that gets each data packet of new messages right after it is sent has all of them.
use Rattle.std.proofs.Common.{◌≡◌, ℕ, zero, suc, ◌+◌, ◌-◌, ◌<◌, ◌≤◌, List, [], ◌∷◌, ◌++◌, length, take, drop}
use Rattle.std.proofs.Common.{refl, sym, ap, subst, ◌∙◌, inl, inr, arith, length-append}
use Rattle.std.specs.Prelude.{◌⊎◌, Bool, Option, None, Some, Ok, slice_get}
use Rattle.std.proofs.Math.Seq.{take-add}
use Rattle.std.proofs.lemmas.List.{length-take}
use Rattle.std.proofs.lemmas.Bool.{cases_eq, eq-eqb, ne_eqb}
use Rattle.std.proofs.lemmas.Option.{none-some, same_Some}
use Rattle.mold_wire.specs.Packet.{Spells, spelling_of, top_of}
use Rattle.mold_wire.specs.Reading.{reading}
use Rattle.mold_wire.specs.Truth.{IsTruePacket}
use Rattle.mold_wire.specs.declared.packet.Body.TheVariants.{Data}
use Rattle.mold_wire.specs.declared.packet.Packet.{Packet}
use Rattle.mold_receiver.specs.Honest.{IsHonest, IsTakenHonestly}
use Rattle.mold_receiver.specs.Receive.{Reception, view_after}
use Rattle.mold_receiver.specs.View.{IsWellFormed, View}
use Rattle.mold_session.specs.Publisher.{IsPublisher, PublisherState, after_datagram, closed, next_datagram}
use Rattle.mold_session.specs.Publisher.{next_front}
use Rattle.mold_session.specs.Truthful.{IsTrueDatagram}
use Rattle.mold_world.proofs.SubscriberLemmas.{same_Ok, view_taken}
use Rattle.mold_world.specs.Event.{Happening}
use Rattle.mold_world.specs.Effect.{Outcome, after_event, after_outcome, delivered, effect}
use Rattle.mold_world.specs.Effect.{given, run_events}
use Rattle.mold_world.specs.Effect.{sending, with_subscriber}
use Rattle.mold_world.specs.declared.event.EventOf.TheVariants.{Publish, Datagram, Heartbeat, Close, End, Request, Ask, Deliver, Noise, Restart}
use Rattle.mold_world.specs.Kept.{IsWorld}
use Rattle.mold_world.specs.Straight.{HasSent, IsDelivery, IsStraight}
use Rattle.mold_world.specs.World.{SubscriberState, WorldState}
use Rattle.mold_world.specs.declared.report.Report.TheVariants as report
use Rattle.mold_session.specs.declared.error.SessionError.TheVariants as session
use Rattle.mold_world.specs.declared.way.Way.{Way}
use Rattle.mold_world.proofs.FarLemmas.{TakenLaw, IsAsFar, event_far, outcome_far}
use Rattle.mold_world.proofs.SettingLemmas.{set_here}

-- The laws that are used.
pub record StraightLaws : Type 0 where
  pub run : (w : WorldState) (happenings : List Happening) → IsWorld w → IsWorld (run_events w happenings)
  pub spelled : (publisher : PublisherState) (packet : Packet) → IsPublisher publisher →
      length publisher.journal.session.0 ≡ 10 → next_datagram publisher ≡ Some packet →
      Spells packet (spelling_of packet)
  pub datagram : (publisher : PublisherState) (packet : Packet) → IsPublisher publisher →
      length publisher.journal.session.0 ≡ 10 → next_datagram publisher ≡ Some packet →
      IsTrueDatagram publisher.journal (spelling_of packet)
  pub take : (v : View) (packet : Packet) (bytes : List ℕ) (published : List (List ℕ)) (closed : Bool) →
      IsHonest v published closed → Spells packet bytes → packet.session ≡ v.session →
      IsTruePacket packet published closed → IsTakenHonestly v bytes published closed
  pub taken : TakenLaw
  pub through : (v : View) (p : Packet) → IsWellFormed v → p.sequence ≤ v.next → top_of p ≤ (view_after v p).next
  pub read : (packet : Packet) (bytes : List ℕ) → Spells packet bytes → reading bytes ≡ Ok packet

-- The receiver's next number is above all messages that were sent in datagrams.
record IsBeyond (w : WorldState) (receiver : ℕ) : Type 0 where
  subscriber : SubscriberState
  here : slice_get w.subscribers receiver ≡ Some subscriber
  beyond : w.publisher.sent < subscriber.arbitration.view.next

-- This is the same as a book that begins with them.
beyond_of : (w : WorldState) (receiver : ℕ) → IsWorld w → HasSent w receiver → IsBeyond w receiver
beyond_of w receiver is has =
    let kept = is.subscribers receiver has.subscriber has.here in
    let messages : List (List ℕ) = w.publisher.journal.messages in
    let next : ℕ = has.subscriber.arbitration.view.next in
    record {
      subscriber = has.subscriber;
      here = has.here;
      beyond = omega (
        arith,
        ap (λ (t : List (List ℕ)). length t) has.front.parts,
        length-append (take w.publisher.sent messages) has.front.behind,
        length-take w.publisher.sent messages,
        ap (λ (t : List (List ℕ)). length t) kept.book,
        length-take (next - 1) messages,
        is.publisher.published,
        kept.honest.well_formed.first,
      );
    }

has_sent : (w : WorldState) (receiver : ℕ) → IsWorld w → IsBeyond w receiver → HasSent w receiver
has_sent w receiver is up =
    let kept = is.subscribers receiver up.subscriber up.here in
    let messages : List (List ℕ) = w.publisher.journal.messages in
    let sent : ℕ = w.publisher.sent in
    let next : ℕ = up.subscriber.arbitration.view.next in
    let sum : next - 1 ≡ sent + (next - 1 - sent) = omega (arith, up.beyond) in
    record {
      subscriber = up.subscriber;
      here = up.here;
      front = record {
        behind = take (next - 1 - sent) (drop sent messages);
        parts = kept.book
            ∙ ap (λ (t : ℕ). take t messages) sum
            ∙ take-add sent (next - 1 - sent) messages;
      };
    }

still_beyond :
    (w new : WorldState) (receiver : ℕ) → IsBeyond w receiver → IsAsFar w new receiver → IsBeyond new receiver
still_beyond w new receiver up as_far =
    let reached = as_far.reached up.subscriber up.here in
    record {
      subscriber = reached.subscriber;
      here = reached.here;
      beyond = omega (arith, as_far.sent, up.beyond, reached.far);
    }

is_datagram : (happening : Happening) → (happening ≡ Datagram) ⊎ (happening ≡ Datagram → ⊥)
is_datagram (Publish message) = inr (λ same. let e = same in cc)
is_datagram Datagram = inl refl
is_datagram Heartbeat = inr (λ same. let e = same in cc)
is_datagram Close = inr (λ same. let e = same in cc)
is_datagram End = inr (λ same. let e = same in cc)
is_datagram (Request bytes) = inr (λ same. let e = same in cc)
is_datagram (Ask receiver) = inr (λ same. let e = same in cc)
is_datagram (Deliver receiver way at) = inr (λ same. let e = same in cc)
is_datagram (Noise receiver way bytes) = inr (λ same. let e = same in cc)
is_datagram (Restart receiver next) = inr (λ same. let e = same in cc)

-- The next data packet begins after the messages sent so far and ends with those sent then.
pub record IsNextDatagram (publisher : PublisherState) (packet : Packet) : Type 0 where
  pub begins : packet.sequence ≡ publisher.sent + 1
  pub ends : top_of packet ≡ (after_datagram publisher).sent + 1

next_is :
    (publisher : PublisherState) (packet : Packet) → next_datagram publisher ≡ Some packet →
    IsNextDatagram publisher packet
next_is publisher packet next =
    elim (cases_eq publisher.sent (length publisher.journal.messages)) [
      | inl all ↦ absurd (none-some packet
          (rw (eq-eqb publisher.sent (length publisher.journal.messages) all) at next))
      | inr more ↦
          let first : Packet = record {
            session = publisher.journal.session;
            sequence = publisher.sent + 1;
            body = Data (next_front publisher);
          } in
          subst (λ (t : Packet). IsNextDatagram publisher t)
          (same_Some first packet (rw (ne_eqb publisher.sent (length publisher.journal.messages) more) at next))
          (record { begins = refl; ends = omega arith })
    ]

-- A receiver that gets it reaches its end.
given_next_datagram :
    (laws : StraightLaws) (w : WorldState) (receiver : ℕ) (subscriber : SubscriberState) (packet : Packet) (way : Way) →
    IsWorld w → slice_get w.subscribers receiver ≡ Some subscriber → w.publisher.sent < subscriber.arbitration.view.next →
    next_datagram w.publisher ≡ Some packet →
    (after_datagram w.publisher).sent < (given subscriber way (spelling_of packet)).arbitration.view.next
given_next_datagram laws w receiver subscriber packet way is here beyond next =
    let view : View = subscriber.arbitration.view in
    let bytes : List ℕ = spelling_of packet in
    let kept = is.subscribers receiver subscriber here in
    let told = laws.datagram w.publisher packet is.publisher is.answers.named next in
    let took = laws.take view told.packet bytes w.publisher.journal.messages w.publisher.journal.closed
    kept.honest told.spelled (told.session ∙ sym kept.session) told.so
    in
    let taken = laws.taken view bytes took.reception took.received in
    let same : packet ≡ taken.packet = same_Ok packet taken.packet (reading bytes)
    (laws.read packet bytes (laws.spelled w.publisher packet is.publisher is.answers.named next)) taken.read
    in
    let datagram = next_is w.publisher packet next in
    let through = laws.through view packet kept.honest.well_formed (omega (arith, datagram.begins, beyond)) in
    let now : (given subscriber way bytes).arbitration.view.next ≡ (view_after view packet).next =
    rw (took.received)
    (ap (λ (t : View). t.next) (view_taken way bytes subscriber.arbitration took.reception)
    ∙ ap (λ (t : Reception). t.view.next) taken.taken
    ∙ ap (λ (t : Packet). (view_after view t).next) (sym same))
    in
    omega (arith, now, through, datagram.ends)

last_at : {X : Type 0} (xs : List X) (x : X) → slice_get (xs ++ x ∷ []) (length xs) ≡ Some x
last_at [] x = refl
last_at (first ∷ xs) x = last_at xs x

-- The delivery right after the datagram was sent.
deliver_beyond :
    (laws : StraightLaws) (w : WorldState) (receiver : ℕ) (packet : Packet) (way : Way) → IsWorld w →
    IsBeyond w receiver → next_datagram w.publisher ≡ Some packet →
    IsBeyond (after_event
    (record w { publisher = after_datagram w.publisher; sent = w.sent ++ spelling_of packet ∷ [] })
    (Deliver receiver way (length w.sent))) receiver
unfolding effect
deliver_beyond laws w receiver packet way is up next =
    let new : WorldState =
    record w { publisher = after_datagram w.publisher; sent = w.sent ++ spelling_of packet ∷ [] }
    in
    let bytes : List ℕ = spelling_of packet in
    let last : slice_get (w.sent ++ bytes ∷ []) (length w.sent) ≡ Some bytes = last_at w.sent bytes in
    let after : WorldState = with_subscriber new receiver (given up.subscriber way bytes) in
    let so : after ≡ after_event new (Deliver receiver way (length w.sent)) =
    ap (λ (t : Option (List ℕ)). after_outcome new (delivered new receiver way (Some up.subscriber) t)) (sym last)
    ∙ ap (λ (t : Option SubscriberState). after_outcome new (delivered new receiver way t
    (slice_get (w.sent ++ bytes ∷ []) (length w.sent)))) (sym up.here)
    in
    subst (λ (t : WorldState). IsBeyond t receiver) so (record {
      subscriber = given up.subscriber way bytes;
      here = set_here w.subscribers receiver (given up.subscriber way bytes) up.subscriber up.here;
      beyond = given_next_datagram laws w receiver up.subscriber packet way is up.here up.beyond next;
    })

-- After a data packet event and the event after it: nothing was sent, or the datagram was delivered.
abbrev IsBeyondSoon : WorldState → ℕ → Option Happening → Type 0
IsBeyondSoon w receiver behind =
    IsBeyond (after_event w Datagram) receiver
    ⊎ ((second : Happening) × (behind ≡ Some second)
    × IsBeyond (after_event (after_event w Datagram) second) receiver)

datagram_beyond :
    (laws : StraightLaws) (w : WorldState) (receiver : ℕ) (behind : Option Happening) (next : Option Packet) →
    IsWorld w → IsBeyond w receiver → next_datagram w.publisher ≡ next →
    effect w Datagram ≡ sending w next (after_datagram w.publisher) →
    ((place : ℕ) (new : WorldState) → effect w Datagram ≡ Ok (report.Sent place, new) →
    IsDelivery receiver place behind) → IsBeyondSoon w receiver behind
datagram_beyond laws w receiver behind None is up next so given_at_once =
    inl (subst (λ (t : Outcome). IsBeyond (after_outcome w t) receiver) (sym so) up)
datagram_beyond laws w receiver behind (Some packet) is up next so given_at_once =
    let new : WorldState =
    record w { publisher = after_datagram w.publisher; sent = w.sent ++ spelling_of packet ∷ [] }
    in
    let delivery = given_at_once (length w.sent) new so in
    inr (
      Deliver receiver delivery.way (length w.sent),
      delivery.so,
      subst (λ (t : Outcome). IsBeyond (after_event (after_outcome w t)
          (Deliver receiver delivery.way (length w.sent))) receiver) (sym so)
          (deliver_beyond laws w receiver packet delivery.way is up next),
    )

datagram_effect :
    (w : WorldState) → effect w Datagram ≡ sending w (next_datagram w.publisher) (after_datagram w.publisher)
unfolding effect
datagram_effect w = refl

-- The events after the first.
straight_behind :
    (w : WorldState) (receiver : ℕ) (happening : Happening) (happenings : List Happening) →
    IsStraight w receiver (happening ∷ happenings) → IsStraight (after_event w happening) receiver happenings
straight_behind w receiver happening happenings path = record {
  delivered = λ at place new found sends.
      subst (λ (t : ℕ). IsDelivery receiver place (slice_get (happening ∷ happenings) t))
      (let z : suc at + 1 ≡ suc (at + 1) = omega arith in z) (path.delivered (suc at) place new found sends);
  stays = λ at next done found applied. path.stays (suc at) next done found applied;
}

-- One event that sends no data packet.
other_beyond :
    (laws : StraightLaws) (w : WorldState) (receiver : ℕ) (happening : Happening) (happenings : List Happening) →
    IsStraight w receiver (happening ∷ happenings) → IsBeyond w receiver → (happening ≡ Datagram → ⊥) →
    IsBeyond (after_event w happening) receiver
other_beyond laws w receiver happening happenings path up quiet =
    still_beyond w (after_event w happening) receiver up
    (outcome_far w receiver (effect w happening) (λ done same.
    event_far laws.taken w receiver happening done quiet (λ next restart.
    path.stays zero next done (ap (λ (t : Happening). Some t) restart)
    (subst (λ (t : Happening). effect w t ≡ Ok done) restart same)) same))

all_beyond :
    (laws : StraightLaws) (w : WorldState) (receiver : ℕ) (happenings : List Happening) → IsWorld w →
    IsStraight w receiver happenings → IsBeyond w receiver → IsBeyond (run_events w happenings) receiver
all_beyond laws w receiver [] is path up = up
all_beyond laws w receiver (happening ∷ []) is path up =
    elim (is_datagram happening) [
      | inl sends ↦ elim (datagram_beyond laws w receiver None (next_datagram w.publisher) is up refl
          (datagram_effect w) (λ place new so.
          path.delivered zero place new (ap (λ (t : Happening). Some t) sends) so)) [
            | inl now ↦ subst (λ (t : Happening). IsBeyond (after_event w t) receiver) (sym sends) now
            | inr then ↦ absurd (none-some then.0 then.1)
          ]
      | inr quiet ↦ other_beyond laws w receiver happening [] path up quiet
    ]
all_beyond laws w receiver (happening ∷ second ∷ happenings) is path up =
    let behind = straight_behind w receiver happening (second ∷ happenings) path in
    let later = laws.run w (happening ∷ []) is in
    elim (is_datagram happening) [
      | inl sends ↦ elim (datagram_beyond laws w receiver (Some second) (next_datagram w.publisher) is up refl
          (datagram_effect w) (λ place new so.
          path.delivered zero place new (ap (λ (t : Happening). Some t) sends) so)) [
            | inl now ↦ all_beyond laws (after_event w happening) receiver (second ∷ happenings) later behind
                (subst (λ (t : Happening). IsBeyond (after_event w t) receiver) (sym sends) now)
            | inr then ↦ all_beyond laws (after_event (after_event w happening) second) receiver happenings
                (laws.run w (happening ∷ second ∷ []) is)
                (straight_behind (after_event w happening) receiver second happenings behind)
                (subst (λ (t : Happening). IsBeyond (after_event (after_event w happening) t) receiver)
                (sym (same_Some second then.0 then.1))
                (subst (λ (t : Happening). IsBeyond (after_event (after_event w t) then.0) receiver) (sym sends) then.2))
          ]
      | inr quiet ↦ all_beyond laws (after_event w happening) receiver (second ∷ happenings) later behind
          (other_beyond laws w receiver happening (second ∷ happenings) path up quiet)
    ]

-- All messages that were sent in datagrams are in the book.
pub straight :
    (laws : StraightLaws) (w : WorldState) (happenings : List Happening) (receiver : ℕ) → IsWorld w →
    IsStraight w receiver happenings → HasSent w receiver → HasSent (run_events w happenings) receiver
straight laws w happenings receiver is path has =
    has_sent (run_events w happenings) receiver (laws.run w happenings is)
    (all_beyond laws w receiver happenings is path (beyond_of w receiver is has))
