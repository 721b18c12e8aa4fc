-- What an event does to a receiver, from the contracts of the receiver's functions.
use Rattle.std.proofs.Common.{◌≡◌, ℕ, ◌<◌, cond, leb, ltb, List, length}
use Rattle.std.proofs.Common.{refl, sym, ap, subst, ◌∙◌, inl, inr, arith}
use Rattle.std.specs.Prelude.{◌&&◌, Option, None, Some, Bool, true, false, Result, Ok, Err, IsOk, slice_get}
use Rattle.std.proofs.lemmas.Bool.{and_parts, le-leb, leb-true, ltb-false, ltb-true}
use Rattle.std.proofs.lemmas.Option.{slice_get_past}
use Rattle.mold_wire.specs.Reading.{reading}
use Rattle.mold_receiver.specs.Receive.{IsCopied, Reception, receive}
use Rattle.mold_rule.specs.declared.refusal.Refusal.{Refusal}
use Rattle.mold_world.proofs.EventLemmas.{not_own}
use Rattle.mold_world.specs.Effect.{Outcome, delivered, effect, given, is_own, noised, restarted_at, restarted, told, with_subscriber}
use Rattle.mold_world.specs.declared.event.EventOf.TheVariants.{Deliver, Noise, Restart}
use Rattle.mold_world.specs.Kept.{IsWorld}
use Rattle.mold_world.specs.Refusals.{Applies, Refuses}
use Rattle.mold_world.specs.Restarts.{HasReached, Restarts}
use Rattle.mold_world.specs.World.{SubscriberState, WorldState}
use Rattle.mold_world.specs.declared.report.Report.{Report}
use Rattle.mold_world.specs.declared.report.Report.TheVariants.{Restarted}
use Rattle.mold_world.specs.declared.report.WorldError.{WorldError}
use Rattle.mold_world.specs.declared.report.WorldError.TheVariants.{Memory, NoReceiver, NoSuchDatagram, NotNoise, NotReached}
use Rattle.mold_world.specs.declared.way.Way.{Way}
use Rattle.mold_world.proofs.SettingLemmas.{set_back}

-- There is no element after the last one.
past_end :
    {X : Type 0} (xs : List X) (count at : ℕ) (within : Bool) → ltb at count ≡ within → count ≡ length xs →
    (at < count → false ≡ true) → slice_get xs at ≡ None
past_end xs count at true is same outside = absurd (let e = outside (ltb-true at count is) in cc)
past_end xs count at false is same outside =
    let behind = ltb-false at count is in slice_get_past xs at (omega (arith, behind, same))

pub none_there :
    {X : Type 0} (xs : List X) (count at : ℕ) → count ≡ length xs → (at < count → false ≡ true) →
    slice_get xs at ≡ None
none_there xs count at same outside = past_end xs count at (ltb at count) refl same outside

pub put_back :
    (w : WorldState) (receiver : ℕ) (subscriber new : SubscriberState) → slice_get w.subscribers receiver ≡ Some subscriber →
    new ≡ subscriber → with_subscriber w receiver new ≡ w
put_back w receiver subscriber new here same =
    ap (λ (t : SubscriberState). with_subscriber w receiver t) same
    ∙ ap (λ (t : List SubscriberState). record w { subscribers = t }) (set_back w.subscribers receiver subscriber here)

pub deliver_nobody :
    (w : WorldState) (receiver : ℕ) (way : Way) (at : ℕ) → slice_get w.subscribers receiver ≡ None →
    Refuses w (Deliver receiver way at) NoReceiver
unfolding effect
deliver_nobody w receiver way at none =
    inr (ap (λ (t : Option SubscriberState). delivered w receiver way t (slice_get w.sent at)) none)

-- The rule of a delivery, for a receiver and a datagram that are known to exist or not.
deliver_at :
    (w : WorldState) (receiver : ℕ) (way : Way) (at : ℕ) (subscriber : SubscriberState)
    (datagram : Option (List ℕ)) → slice_get w.subscribers receiver ≡ Some subscriber → slice_get w.sent at ≡ datagram →
    effect w (Deliver receiver way at) ≡ delivered w receiver way (Some subscriber) datagram
unfolding effect
deliver_at w receiver way at place datagram here found =
    λ j. delivered w receiver way (here j) (found j)

pub deliver_nothing :
    (w : WorldState) (receiver : ℕ) (way : Way) (at : ℕ) (subscriber new : SubscriberState) →
    slice_get w.subscribers receiver ≡ Some subscriber → slice_get w.sent at ≡ None → new ≡ subscriber →
    Refuses w (Deliver receiver way at) NoSuchDatagram × (with_subscriber w receiver new ≡ w)
deliver_nothing w receiver way at subscriber new here none same =
    (inr (deliver_at w receiver way at subscriber None here none), put_back w receiver subscriber new here same)

pub deliver_done :
    (w : WorldState) (receiver : ℕ) (way : Way) (at : ℕ) (subscriber new : SubscriberState) (bytes : List ℕ)
    (says : Report) → slice_get w.subscribers receiver ≡ Some subscriber → slice_get w.sent at ≡ Some bytes →
    says ≡ told (receive subscriber.arbitration.view bytes) → new ≡ given subscriber way bytes →
    effect w (Deliver receiver way at) ≡ Ok (says, with_subscriber w receiver new)
deliver_done w receiver way at subscriber new bytes says here found reported is =
    deliver_at w receiver way at subscriber (Some bytes) here found
    ∙ (λ j. Ok (sym reported j, with_subscriber w receiver (sym is j)))

pub deliver_wanting :
    (w : WorldState) (receiver : ℕ) (way : Way) (at : ℕ) (subscriber new : SubscriberState) (bytes : List ℕ) →
    slice_get w.subscribers receiver ≡ Some subscriber → slice_get w.sent at ≡ Some bytes →
    IsCopied subscriber.arbitration.view bytes → new ≡ subscriber →
    Refuses w (Deliver receiver way at) Memory × (with_subscriber w receiver new ≡ w)
deliver_wanting w receiver way at subscriber new bytes here found copied same = (
  inl (refl, record { subscriber = subscriber; bytes = bytes; here = here; found = found; copied = copied }),
  put_back w receiver subscriber new here same,
)

noise_at :
    (w : WorldState) (receiver : ℕ) (way : Way) (bytes : List ℕ) (subscriber : Option SubscriberState) (own : Bool) →
    slice_get w.subscribers receiver ≡ subscriber → own ≡ is_own w.publisher.journal.session (reading bytes) →
    effect w (Noise receiver way bytes) ≡ noised w receiver way bytes subscriber own
unfolding effect
noise_at w receiver way bytes place own here mine = λ j. noised w receiver way bytes (here j) (sym mine j)

pub noise_nobody :
    (w : WorldState) (receiver : ℕ) (way : Way) (bytes : List ℕ) → slice_get w.subscribers receiver ≡ None →
    Refuses w (Noise receiver way bytes) NoReceiver
noise_nobody w receiver way bytes none =
    inr (noise_at w receiver way bytes None (is_own w.publisher.journal.session (reading bytes)) none refl)

pub noise_own :
    (w : WorldState) (receiver : ℕ) (way : Way) (bytes : List ℕ) (subscriber new : SubscriberState) →
    slice_get w.subscribers receiver ≡ Some subscriber → true ≡ is_own w.publisher.journal.session (reading bytes) →
    new ≡ subscriber → Refuses w (Noise receiver way bytes) NotNoise × (with_subscriber w receiver new ≡ w)
noise_own w receiver way bytes subscriber new here mine same =
    (inr (noise_at w receiver way bytes (Some subscriber) true here mine), put_back w receiver subscriber new here same)

pub noise_done :
    (w : WorldState) (receiver : ℕ) (way : Way) (bytes : List ℕ) (subscriber new : SubscriberState) (says : Report) →
    slice_get w.subscribers receiver ≡ Some subscriber → false ≡ is_own w.publisher.journal.session (reading bytes) →
    says ≡ told (receive subscriber.arbitration.view bytes) → new ≡ given subscriber way bytes →
    effect w (Noise receiver way bytes) ≡ Ok (says, with_subscriber w receiver new)
noise_done w receiver way bytes subscriber new says here other reported is =
    noise_at w receiver way bytes (Some subscriber) false here other
    ∙ (λ j. Ok (sym reported j, with_subscriber w receiver (sym is j)))

-- Nothing is copied from bytes that are not a packet of the session.
pub noise_never_wants :
    (w : WorldState) (receiver : ℕ) (bytes : List ℕ) (subscriber : SubscriberState) → IsWorld w →
    slice_get w.subscribers receiver ≡ Some subscriber → false ≡ is_own w.publisher.journal.session (reading bytes) →
    IsCopied subscriber.arbitration.view bytes → ⊥
noise_never_wants w receiver bytes subscriber is here other copied =
    let refused = not_own subscriber.arbitration.view w.publisher.journal.session (reading bytes)
    (is.subscribers receiver subscriber here).session (sym other)
    in
    let both : ◌≡◌ {A = Result Reception Refusal} (Ok copied.reception) (Err refused.0) =
    sym copied.received ∙ refused.1
    in
    (let e = both in cc)

-- The rule of a restart.
restart_at :
    (w : WorldState) (receiver next : ℕ) (subscriber : SubscriberState) (reached : Bool) →
    slice_get w.subscribers receiver ≡ Some subscriber → (leb 1 next && leb next subscriber.arbitration.view.next) ≡ reached →
    effect w (Restart receiver next)
    ≡ cond {A = Outcome} reached (Ok (Restarted next, with_subscriber w receiver (restarted_at subscriber next)))
    (Err (NotReached subscriber.arbitration.view.next))
unfolding effect
restart_at w receiver next subscriber reached here is =
    ap (λ (t : Option SubscriberState). restarted w receiver next t) here
    ∙ ap (λ (t : Bool). cond {A = Outcome} t (Ok (Restarted next, with_subscriber w receiver (restarted_at subscriber next)))
    (Err (NotReached subscriber.arbitration.view.next))) is

reached_true : (subscriber : SubscriberState) (next : ℕ) → HasReached subscriber next →
    (leb 1 next && leb next subscriber.arbitration.view.next) ≡ true
reached_true subscriber next reached =
    λ j. le-leb 1 next reached.0 j && le-leb next subscriber.arbitration.view.next reached.1 j

unreached :
    (subscriber : SubscriberState) (next : ℕ) (reached : Bool) → (leb 1 next && leb next subscriber.arbitration.view.next) ≡ reached →
    (HasReached subscriber next → ⊥) → reached ≡ false
unreached subscriber next false is not = refl
unreached subscriber next true is not =
    let both = and_parts (leb 1 next) (leb next subscriber.arbitration.view.next) is in
    absurd (not (leb-true 1 next both.0, leb-true next subscriber.arbitration.view.next both.1))

pub restart_nobody :
    (w : WorldState) (receiver next : ℕ) → slice_get w.subscribers receiver ≡ None →
    Refuses w (Restart receiver next) NoReceiver
unfolding effect
restart_nobody w receiver next none = inr (ap (λ (t : Option SubscriberState). restarted w receiver next t) none)

pub restart_applied :
    (w : WorldState) (receiver next : ℕ) (subscriber new : SubscriberState) (result : Result Report WorldError) →
    slice_get w.subscribers receiver ≡ Some subscriber → Restarts subscriber next result new →
    Applies w (Restart receiver next) result (with_subscriber w receiver new)
restart_applied w receiver next subscriber new (Ok says) here is =
    restart_at w receiver next subscriber true here (reached_true subscriber next is.0)
    ∙ (λ j. Ok (sym is.1 j, with_subscriber w receiver (sym is.2 j)))
restart_applied w receiver next subscriber new (Err error) here is = (
  elim is.1 [
    | inl wanting ↦ inl (
      wanting.1,
      subst (λ (t : Outcome). IsOk t)
          (sym (restart_at w receiver next subscriber true here (reached_true subscriber next wanting.0))) refl,
    )
    | inr other ↦ inr (restart_at w receiver next subscriber false here
        (unreached subscriber next (leb 1 next && leb next subscriber.arbitration.view.next) refl other.0)
        ∙ ap (λ (t : WorldError). Err t) (sym other.1))
  ],
  put_back w receiver subscriber new here is.0,
)
