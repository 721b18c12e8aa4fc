-- A world after an event was applied or refused.
use Rattle.std.proofs.Common.{◌≡◌, ℕ, cond, ltb, List, sym, ap, subst, ◌∙◌, inl, inr}
use Rattle.std.proofs.Common.{leb}
use Rattle.std.specs.Prelude.{◌&&◌, Bool, true, false, Option, None, Some, Result, Ok, Err, IfOk, IfErr, OnOk, OnErr, slice_get}
use Rattle.mold_wire.specs.Reading.{reading}
use Rattle.mold_wire.specs.declared.packet.Packet.{Packet}
use Rattle.mold_wire.specs.declared.request.Request.{Request as Asked}
use Rattle.mold_receiver.specs.Wanted.{wanted}
use Rattle.mold_session.specs.Journal.{append_refusal}
use Rattle.mold_session.specs.Publisher.{PublisherState, after_datagram, closed, next_datagram, next_end, next_heartbeat}
use Rattle.mold_session.specs.Server.{checked_request}
use Rattle.mold_session.specs.declared.error.AnswerError.{AnswerError}
use Rattle.mold_session.specs.declared.error.AppendError.{AppendError}
use Rattle.mold_world.specs.Event.{Happening}
use Rattle.mold_world.specs.Effect.{Outcome, asked, asked_for, delivered, effect, is_own, noised, publishing}
use Rattle.mold_world.specs.Effect.{restarted_at, requested, restarted, sending, unsent_count, with_subscriber}
use Rattle.mold_world.specs.declared.event.EventOf.TheVariants.{Publish, Datagram, Heartbeat, Close, End, Request, Ask, Deliver, Noise, Restart}
use Rattle.mold_world.specs.Deliveries.{HasReceived}
use Rattle.mold_world.specs.Kept.{IsWorld}
use Rattle.mold_world.specs.Refusals.{Applies, MayWant, Refuses}
use Rattle.mold_world.specs.Steps.{AreSteps}
use Rattle.mold_world.specs.World.{SubscriberState, WorldState}
use Rattle.mold_world.specs.declared.report.Report.{Report}
use Rattle.mold_world.specs.declared.report.Report.TheVariants as report
use Rattle.mold_session.specs.declared.error.SessionError.TheVariants as session
use Rattle.mold_world.specs.declared.report.WorldError.{WorldError}
use Rattle.mold_world.specs.declared.report.WorldError.TheVariants.{Memory, NotReached, Layer as SessionRefuses}
use Rattle.mold_world.specs.declared.way.Way.{Way}

pub applied_kept :
    (kept : (w new : WorldState) (happening : Happening) (says : Report) → IsWorld w →
    effect w happening ≡ Ok (says, new) → IsWorld new)
    (old new : WorldState) (happening : Happening) (result : Result Report WorldError) → IsWorld old →
    Applies old happening result new → IsWorld new
applied_kept kept old new happening (Ok says) is applied = kept old new happening says is applied
applied_kept kept old new happening (Err error) is applied = subst (λ (t : WorldState). IsWorld t) (sym applied.1) is

pub applied_done :
    (old new : WorldState) (happening : Happening) (result : Result Report WorldError) →
    Applies old happening result new → IfOk result (λ says. effect old happening ≡ Ok (says, new))
applied_done old new happening (Ok says) applied = applied
applied_done old new happening (Err error) applied = tt

pub applied_refused :
    (old new : WorldState) (happening : Happening) (result : Result Report WorldError) →
    Applies old happening result new → IfErr result (λ error. Refuses old happening error)
applied_refused old new happening (Ok says) applied = tt
applied_refused old new happening (Err error) applied = applied.0

pub applied_same :
    (old new : WorldState) (happening : Happening) (result : Result Report WorldError) →
    Applies old happening result new → OnErr result (new ≡ old)
applied_same old new happening (Ok says) applied = tt
applied_same old new happening (Err error) applied = applied.1

pub applied_steps :
    (steps : (w new : WorldState) (happening : Happening) (says : Report) → IsWorld w →
    effect w happening ≡ Ok (says, new) → AreSteps w happening new)
    (old new : WorldState) (happening : Happening) (result : Result Report WorldError) → IsWorld old →
    Applies old happening result new → OnOk result (AreSteps old happening new)
applied_steps steps old new happening (Ok says) is applied = steps old new happening says is applied
applied_steps steps old new happening (Err error) is applied = tt

pub applied_received :
    (received : (w new : WorldState) (happening : Happening) (says : Report) → IsWorld w →
    effect w happening ≡ Ok (says, new) → HasReceived happening says w new)
    (old new : WorldState) (happening : Happening) (result : Result Report WorldError) → IsWorld old →
    Applies old happening result new → IfOk result (λ says. HasReceived happening says old new)
applied_received received old new happening (Ok says) is applied = received old new happening says is applied
applied_received received old new happening (Err error) is applied = tt

-- The rule of events never refuses with `Memory`.
ok_none :
    (done : Report × WorldState) → ◌≡◌ {A = Outcome} (Ok done) (Err Memory) → ⊥
ok_none done is = let e = is in cc

other_none : (error : WorldError) → (error ≡ Memory → ⊥) → ◌≡◌ {A = Outcome} (Err error) (Err Memory) → ⊥
other_none error other is = other (let e = is in cc)

publish_none :
    (w : WorldState) (message : List ℕ) (refusal : Option AppendError) → publishing w message refusal ≡ Err Memory → ⊥
publish_none w message None is = ok_none _ is
publish_none w message (Some refusal) is = other_none _ (λ e. let f = e in cc) is

send_none : (w : WorldState) (next : Option Packet) (publisher : PublisherState) → sending w next publisher ≡ Err Memory → ⊥
send_none w None publisher is = ok_none _ is
send_none w (Some packet) publisher is = ok_none _ is

pub close_none :
    (w : WorldState) (some : Bool) →
    cond {A = Outcome} some (Err (SessionRefuses (session.Close (record { count = unsent_count w.publisher }))))
    (Ok (report.Closed, record w { publisher = closed w.publisher })) ≡ Err Memory → ⊥
close_none w true is = other_none _ (λ e. let f = e in cc) is
close_none w false is = ok_none _ is

request_none : (w : WorldState) (asks : Result Asked AnswerError) → requested w asks ≡ Err Memory → ⊥
request_none w (Ok request) is = ok_none _ is
request_none w (Err refusal) is = other_none _ (λ e. let f = e in cc) is

want_none : (w : WorldState) (want : Option Asked) → asked_for w want ≡ Err Memory → ⊥
want_none w None is = ok_none _ is
want_none w (Some request) is = ok_none _ is

ask_none : (w : WorldState) (subscriber : Option SubscriberState) → asked w subscriber ≡ Err Memory → ⊥
ask_none w None is = other_none _ (λ e. let f = e in cc) is
ask_none w (Some subscriber) is = want_none w (wanted subscriber.arbitration.view) is

deliver_none :
    (w : WorldState) (receiver : ℕ) (way : Way) (subscriber : Option SubscriberState) (datagram : Option (List ℕ)) →
    delivered w receiver way subscriber datagram ≡ Err Memory → ⊥
deliver_none w receiver way None datagram is = other_none _ (λ e. let f = e in cc) is
deliver_none w receiver way (Some subscriber) None is = other_none _ (λ e. let f = e in cc) is
deliver_none w receiver way (Some subscriber) (Some bytes) is = ok_none _ is

noise_none :
    (w : WorldState) (receiver : ℕ) (way : Way) (bytes : List ℕ) (subscriber : Option SubscriberState) (own : Bool) →
    noised w receiver way bytes subscriber own ≡ Err Memory → ⊥
noise_none w receiver way bytes None own is = other_none _ (λ e. let f = e in cc) is
noise_none w receiver way bytes (Some subscriber) true is = other_none _ (λ e. let f = e in cc) is
noise_none w receiver way bytes (Some subscriber) false is = ok_none _ is

restart_none_at :
    (w : WorldState) (receiver next : ℕ) (subscriber : SubscriberState) (reached : Bool) →
    cond {A = Outcome} reached (Ok (report.Restarted next, with_subscriber w receiver (restarted_at subscriber next)))
    (Err (NotReached subscriber.arbitration.view.next)) ≡ Err Memory → ⊥
restart_none_at w receiver next subscriber true is = ok_none _ is
restart_none_at w receiver next subscriber false is = other_none _ (λ e. let f = e in cc) is

restart_none : (w : WorldState) (receiver next : ℕ) (subscriber : Option SubscriberState) → restarted w receiver next subscriber ≡ Err Memory → ⊥
restart_none w receiver next None is = other_none _ (λ e. let f = e in cc) is
restart_none w receiver next (Some subscriber) is =
    restart_none_at w receiver next subscriber (leb 1 next && leb next subscriber.arbitration.view.next) is

pub effect_never_wants : (w : WorldState) (happening : Happening) → effect w happening ≡ Err Memory → ⊥
unfolding effect
effect_never_wants w (Publish message) is = publish_none w message (append_refusal w.publisher.journal message) is
effect_never_wants w Datagram is = send_none w (next_datagram w.publisher) (after_datagram w.publisher) is
effect_never_wants w Heartbeat is = send_none w (next_heartbeat w.publisher) w.publisher is
effect_never_wants w Close is = close_none w (ltb 0 (unsent_count w.publisher)) is
effect_never_wants w End is = send_none w (next_end w.publisher) w.publisher is
effect_never_wants w (Request bytes) is = request_none w (checked_request w.publisher.journal bytes) is
effect_never_wants w (Ask receiver) is = ask_none w (slice_get w.subscribers receiver) is
effect_never_wants w (Deliver receiver way at) is =
    deliver_none w receiver way (slice_get w.subscribers receiver) (slice_get w.sent at) is
effect_never_wants w (Noise receiver way bytes) is =
    noise_none w receiver way bytes (slice_get w.subscribers receiver)
    (is_own w.publisher.journal.session (reading bytes)) is
effect_never_wants w (Restart receiver next) is = restart_none w receiver next (slice_get w.subscribers receiver) is

-- If `Memory` is returned, an allocation can fail at this event.
pub wanting_where_memory :
    (w : WorldState) (happening : Happening) (error : WorldError) → error ≡ Memory → Refuses w happening error →
    MayWant w happening
wanting_where_memory w happening error is (inl wanting) = wanting.1
wanting_where_memory w happening error is (inr other) =
    absurd (effect_never_wants w happening (other ∙ ap (λ (t : WorldError). Err t) is))
