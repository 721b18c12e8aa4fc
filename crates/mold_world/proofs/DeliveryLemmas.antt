-- What the receivers of a world do with the datagrams that they receive.
use Rattle.std.proofs.Common.{◌≡◌, ℕ, List, [], refl, sym, ap, ◌∙◌, inl, inr}
use Rattle.std.specs.Prelude.{Option, None, Some, Bool, true, false, Result, Ok, Err, slice_get}
use Rattle.std.specs.Str.{bytes_eq}
use Rattle.std.proofs.lemmas.Bool.{cases_Bool}
use Rattle.std.proofs.lemmas.Slice.Eq.{bytes_eq-Decides}
use Rattle.mold_wire.specs.Block.{IsBytes}
use Rattle.mold_wire.specs.Packet.{Spells}
use Rattle.mold_wire.specs.Reading.{reading}
use Rattle.mold_wire.specs.Truth.{IsTruePacket}
use Rattle.mold_wire.specs.declared.error.DecodeError.{DecodeError}
use Rattle.mold_wire.specs.declared.packet.Packet.{Packet}
use Rattle.mold_wire.specs.declared.session.Session.{Session}
use Rattle.mold_receiver.specs.Arbiter.{arbitrated}
use Rattle.mold_receiver.specs.Honest.{IsHonest, IsTakenHonestly}
use Rattle.mold_receiver.specs.Receive.{Reception, receive}
use Rattle.mold_receiver.specs.View.{View}
use Rattle.mold_rule.specs.declared.refusal.Refusal.{Refusal}
use Rattle.mold_world.proofs.EventLemmas.{not_own}
use Rattle.mold_world.proofs.SubscriberLemmas.{view_refused}
use Rattle.mold_world.specs.Event.{Happening, line_of}
use Rattle.mold_world.specs.Effect.{book_after, delivered, effect, given, is_own, noised, told}
use Rattle.mold_world.specs.declared.event.EventOf.TheVariants.{Publish, Datagram, Heartbeat, Close, End}
use Rattle.mold_world.specs.declared.event.EventOf.TheVariants.{Request, Ask, Deliver, Noise, Restart}
use Rattle.mold_world.specs.HandOns.{handed_at, handed_by, handed_of, handed_of_noise}
use Rattle.mold_wire.specs.Truth.{AreForeign}
use Rattle.mold_world.specs.Deliveries.{HasReceived, IsUnmoved, KeepsBooks, ReportsRefused, ReportsTaken}
use Rattle.mold_world.specs.Kept.{IsWorld}
use Rattle.mold_world.specs.World.{SubscriberState, WorldState}
use Rattle.mold_world.specs.declared.report.Report.{Report}
use Rattle.mold_world.specs.declared.report.WorldError.{WorldError}
use Rattle.mold_world.specs.declared.way.Way.{Way}
use Rattle.mold_world.proofs.OutcomeLemmas.{ok_so, err_so, ok_refused}
use Rattle.mold_world.proofs.SettingLemmas.{map_set}

-- The receiver's law on true packets.
abbrev pub TakesTruth : Type 0
TakesTruth = (v : View) (packet : Packet) (bytes : List ℕ) (published : List (List ℕ)) (closed : Bool) →
    IsHonest v published closed → Spells packet bytes → packet.session ≡ v.session →
    IsTruePacket packet published closed → IsTakenHonestly v bytes published closed

-- A receiver of the world accepts what was sent.
pub sent_taken :
    (take : TakesTruth) (w : WorldState) (receiver at : ℕ) (subscriber : SubscriberState) (bytes : List ℕ) → IsWorld w →
    slice_get w.subscribers receiver ≡ Some subscriber → slice_get w.sent at ≡ Some bytes →
    IsTakenHonestly subscriber.arbitration.view bytes w.publisher.journal.messages w.publisher.journal.closed
sent_taken take w receiver at subscriber bytes is here found =
    let kept = is.subscribers receiver subscriber here in
    let said = is.said at bytes found in
    take subscriber.arbitration.view said.packet bytes w.publisher.journal.messages w.publisher.journal.closed kept.honest
    said.spelled (said.session ∙ sym kept.session) said.so

-- A receiver that refuses bytes.
pub unmoved :
    (subscriber : SubscriberState) (way : Way) (bytes : List ℕ) (refused : Refusal) →
    receive subscriber.arbitration.view bytes ≡ Err refused → IsUnmoved subscriber way bytes
unmoved subscriber way bytes refused is = record {
  refused = refused;
  received = is;
  view = ap (λ (t : Result Reception Refusal). (arbitrated (line_of way) bytes subscriber.arbitration t).view) is
      ∙ view_refused way bytes subscriber.arbitration refused;
  book = ap (λ (t : Result Reception Refusal). book_after subscriber.book subscriber.arbitration.view.next t) is;
}

pub noise_unmoved :
    (w : WorldState) (receiver : ℕ) (way : Way) (bytes : List ℕ) (subscriber : SubscriberState) → IsWorld w →
    slice_get w.subscribers receiver ≡ Some subscriber → is_own w.publisher.journal.session (reading bytes) ≡ false →
    IsUnmoved subscriber way bytes
noise_unmoved w receiver way bytes subscriber is here other =
    let refused = not_own subscriber.arbitration.view w.publisher.journal.session (reading bytes)
    (is.subscribers receiver subscriber here).session other
    in
    unmoved subscriber way bytes refused.0 refused.1

-- Bytes that encode no packet of the session are not decoded as one.
read_strange :
    (spelled : (packet : Packet) (bytes : List ℕ) → IsBytes bytes → reading bytes ≡ Ok packet → Spells packet bytes)
    (session : Session) (bytes : List ℕ) (read : Result Packet DecodeError) → IsBytes bytes → reading bytes ≡ read →
    AreForeign session bytes → is_own session read ≡ false
read_strange spelled session bytes (Err error) are is strange = refl
read_strange spelled session bytes (Ok packet) are is strange =
    elim (cases_Bool (bytes_eq packet.session.0 session.0)) [
      | inl same ↦
          absurd (strange packet (spelled packet bytes are is)
          (let e = (bytes_eq-Decides packet.session.0 session.0).0 same in λ i. record { 0 = e i }))
      | inr other ↦ other
    ]

pub strange_unmoved :
    (spelled : (packet : Packet) (bytes : List ℕ) → IsBytes bytes → reading bytes ≡ Ok packet → Spells packet bytes)
    (w : WorldState) (receiver : ℕ) (subscriber : SubscriberState) (way : Way) (bytes : List ℕ) → IsWorld w →
    slice_get w.subscribers receiver ≡ Some subscriber → IsBytes bytes → AreForeign w.publisher.journal.session bytes →
    IsUnmoved subscriber way bytes
strange_unmoved spelled w receiver subscriber way bytes is here are strange =
    noise_unmoved w receiver way bytes subscriber is here
    (read_strange spelled w.publisher.journal.session bytes (reading bytes) are refl strange)

-- Noise delivers nothing.
noise_hands :
    (w : WorldState) (receiver : ℕ) (way : Way) (bytes : List ℕ) (subscriber : Option SubscriberState) (own : Bool) →
    IsWorld w → slice_get w.subscribers receiver ≡ subscriber → is_own w.publisher.journal.session (reading bytes) ≡ own →
    handed_of_noise receiver subscriber bytes own ≡ []
noise_hands w receiver way bytes subscriber true is here mine = refl
noise_hands w receiver way bytes None false is here mine = refl
noise_hands w receiver way bytes (Some subscriber) false is here mine =
    ap (λ (t : Result Reception Refusal). handed_of receiver subscriber.arbitration.view.next t)
    (noise_unmoved w receiver way bytes subscriber is here mine).received

pub noise_hands_nothing :
    (w : WorldState) (receiver : ℕ) (way : Way) (bytes : List ℕ) → IsWorld w →
    handed_by w (Noise receiver way bytes) ≡ []
noise_hands_nothing w receiver way bytes is =
    noise_hands w receiver way bytes (slice_get w.subscribers receiver)
    (is_own w.publisher.journal.session (reading bytes)) is refl refl

-- A refused event delivers nothing.
refused_delivery :
    (w : WorldState) (receiver : ℕ) (way : Way) (subscriber : Option SubscriberState) (datagram : Option (List ℕ))
    (error : WorldError) → delivered w receiver way subscriber datagram ≡ Err error → handed_at receiver subscriber datagram ≡ []
refused_delivery w receiver way None datagram error same = refl
refused_delivery w receiver way (Some subscriber) None error same = refl
refused_delivery w receiver way (Some subscriber) (Some bytes) error same = ok_refused _ error same

refused_noise :
    (w : WorldState) (receiver : ℕ) (way : Way) (bytes : List ℕ) (subscriber : Option SubscriberState) (own : Bool)
    (error : WorldError) → noised w receiver way bytes subscriber own ≡ Err error →
    handed_of_noise receiver subscriber bytes own ≡ []
refused_noise w receiver way bytes subscriber true error same = refl
refused_noise w receiver way bytes None false error same = refl
refused_noise w receiver way bytes (Some subscriber) false error same = ok_refused _ error same

pub refused_hands_nothing :
    (w : WorldState) (happening : Happening) (error : WorldError) → effect w happening ≡ Err error →
    handed_by w happening ≡ []
unfolding effect
refused_hands_nothing w (Publish message) error same = refl
refused_hands_nothing w Datagram error same = refl
refused_hands_nothing w Heartbeat error same = refl
refused_hands_nothing w Close error same = refl
refused_hands_nothing w End error same = refl
refused_hands_nothing w (Request bytes) error same = refl
refused_hands_nothing w (Ask receiver) error same = refl
refused_hands_nothing w (Deliver receiver way at) error same =
    refused_delivery w receiver way (slice_get w.subscribers receiver) (slice_get w.sent at) error same
refused_hands_nothing w (Noise receiver way bytes) error same =
    refused_noise w receiver way bytes (slice_get w.subscribers receiver)
    (is_own w.publisher.journal.session (reading bytes)) error same
refused_hands_nothing w (Restart receiver next) error same = refl

deliver_received :
    (take : TakesTruth) (w : WorldState) (receiver at : ℕ) (way : Way) (subscriber : Option SubscriberState)
    (datagram : Option (List ℕ)) (done : Report × WorldState) → IsWorld w → slice_get w.subscribers receiver ≡ subscriber →
    slice_get w.sent at ≡ datagram → delivered w receiver way subscriber datagram ≡ Ok done → ReportsTaken done.0
deliver_received take w receiver at way None datagram done is here found same =
    err_so (λ (t : Report × WorldState). ReportsTaken t.0) _ done same
deliver_received take w receiver at way (Some subscriber) None done is here found same =
    err_so (λ (t : Report × WorldState). ReportsTaken t.0) _ done same
deliver_received take w receiver at way (Some subscriber) (Some bytes) done is here found same =
    let took = sent_taken take w receiver at subscriber bytes is here found in
    ok_so (λ (t : Report × WorldState). ReportsTaken t.0) _ done same
    (record { taken = took.reception.taken; so = ap told took.received })

noise_received :
    (w : WorldState) (receiver : ℕ) (way : Way) (bytes : List ℕ) (subscriber : Option SubscriberState) (own : Bool)
    (done : Report × WorldState) → IsWorld w → slice_get w.subscribers receiver ≡ subscriber →
    is_own w.publisher.journal.session (reading bytes) ≡ own → noised w receiver way bytes subscriber own ≡ Ok done →
    ReportsRefused done.0 × KeepsBooks w done.1
noise_received w receiver way bytes None own done is here mine same =
    err_so (λ (t : Report × WorldState). ReportsRefused t.0 × KeepsBooks w t.1) _ done same
noise_received w receiver way bytes (Some subscriber) true done is here mine same =
    err_so (λ (t : Report × WorldState). ReportsRefused t.0 × KeepsBooks w t.1) _ done same
noise_received w receiver way bytes (Some subscriber) false done is here mine same =
    let stays = noise_unmoved w receiver way bytes subscriber is here mine in
    ok_so (λ (t : Report × WorldState). ReportsRefused t.0 × KeepsBooks w t.1) _ done same (
      record { refused = stays.refused; so = ap told stays.received },
      record {
        views = map_set (λ (t : SubscriberState). t.arbitration.view) w.subscribers receiver subscriber (given subscriber way bytes) here
            stays.view;
        books = map_set (λ (t : SubscriberState). t.book) w.subscribers receiver subscriber (given subscriber way bytes) here stays.book;
      },
    )

-- Every event that is not refused.
pub event_received :
    (take : TakesTruth) (w : WorldState) (happening : Happening) (done : Report × WorldState) → IsWorld w →
    effect w happening ≡ Ok done → HasReceived happening done.0 w done.1
unfolding effect
event_received take w (Publish message) done is same = tt
event_received take w Datagram done is same = tt
event_received take w Heartbeat done is same = tt
event_received take w Close done is same = tt
event_received take w End done is same = tt
event_received take w (Request bytes) done is same = tt
event_received take w (Ask receiver) done is same = tt
event_received take w (Deliver receiver way at) done is same =
    deliver_received take w receiver at way (slice_get w.subscribers receiver) (slice_get w.sent at) done is refl refl same
event_received take w (Noise receiver way bytes) done is same =
    noise_received w receiver way bytes (slice_get w.subscribers receiver)
    (is_own w.publisher.journal.session (reading bytes)) done is refl refl same
event_received take w (Restart receiver next) done is same = tt
