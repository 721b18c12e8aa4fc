-- The events that keep a receiver's progress: all but a data packet of new messages and a restart of that receiver.
use Rattle.std.proofs.Common.{◌≡◌, ℕ, ◌≤◌, List, cond, leb, ltb}
use Rattle.std.proofs.Common.{refl, sym, ap, subst, ◌∙◌, inl, inr, arith}
use Rattle.std.specs.Prelude.{◌&&◌, Bool, true, false, Option, None, Some, Result, Ok, Err, slice_get}
use Rattle.std.proofs.lemmas.Option.{same_Some}
use Rattle.mold_wire.specs.Reading.{reading}
use Rattle.mold_wire.specs.declared.packet.Packet.{Packet}
use Rattle.mold_wire.specs.declared.request.Request.{Request as Asked}
use Rattle.mold_receiver.specs.Receive.{IsTakenPacket, Reception, receive}
use Rattle.mold_receiver.specs.View.{View}
use Rattle.mold_receiver.specs.Wanted.{wanted}
use Rattle.mold_rule.specs.declared.refusal.Refusal.{Refusal}
use Rattle.mold_session.specs.Journal.{append_refusal}
use Rattle.mold_session.specs.Publisher.{closed}
use Rattle.mold_session.specs.Publisher.{next_end, next_heartbeat}
use Rattle.mold_session.specs.Server.{checked_request}
use Rattle.mold_session.specs.declared.error.AnswerError.{AnswerError}
use Rattle.mold_session.specs.declared.error.AppendError.{AppendError}
use Rattle.mold_world.proofs.SubscriberLemmas.{view_refused, view_taken}
use Rattle.mold_world.specs.Event.{Happening}
use Rattle.mold_world.specs.Effect.{Outcome, after_outcome, asked, asked_for, delivered, effect}
use Rattle.mold_world.specs.Effect.{given, is_own, noised, publishing, restarted_at, requested, restarted}
use Rattle.mold_world.specs.Effect.{sending, unsent_count, with_subscriber}
use Rattle.mold_world.specs.declared.event.EventOf.TheVariants.{Publish, Datagram, Heartbeat, Close, End, Request, Ask, Deliver, Noise, Restart}
use Rattle.mold_world.specs.World.{SubscriberState, WorldState}
use Rattle.mold_world.specs.declared.report.Report.{Report}
use Rattle.mold_world.specs.declared.report.Report.TheVariants as report
use Rattle.mold_session.specs.declared.error.SessionError.TheVariants as session
use Rattle.mold_world.specs.declared.report.WorldError.{WorldError}
use Rattle.mold_world.specs.declared.report.WorldError.TheVariants.{NotReached, Layer as Refuses}
use Rattle.mold_world.specs.declared.way.Way.{Way}
use Rattle.mold_world.proofs.OutcomeLemmas.{ok_so, err_so}
use Rattle.mold_world.proofs.SettingLemmas.{set_at}

-- The receiver's law on accepted datagrams.
abbrev pub TakenLaw : Type 0
TakenLaw = (v : View) (bytes : List ℕ) (r : Reception) → receive v bytes ≡ Ok r → IsTakenPacket v bytes r

-- The receiver's next number is at least this number.
pub record IsReached (w : WorldState) (receiver next : ℕ) : Type 0 where
  pub subscriber : SubscriberState
  pub here : slice_get w.subscribers receiver ≡ Some subscriber
  pub far : next ≤ subscriber.arbitration.view.next

-- The event sends no new messages, and the receiver's next number doesn't fall.
pub record IsAsFar (w new : WorldState) (receiver : ℕ) : Type 0 where
  pub sent : new.publisher.sent ≡ w.publisher.sent
  pub reached : (subscriber : SubscriberState) → slice_get w.subscribers receiver ≡ Some subscriber →
      IsReached new receiver subscriber.arbitration.view.next

ok_far :
    (w : WorldState) (receiver : ℕ) (here done : Report × WorldState) → IsAsFar w here.1 receiver →
    ◌≡◌ {A = Outcome} (Ok here) (Ok done) → IsAsFar w done.1 receiver
ok_far w receiver here done as_far same =
    ok_so (λ (t : Report × WorldState). IsAsFar w t.1 receiver) here done same as_far

err_far :
    (w : WorldState) (receiver : ℕ) (refused : WorldError) (done : Report × WorldState) →
    ◌≡◌ {A = Outcome} (Err refused) (Ok done) → IsAsFar w done.1 receiver
err_far w receiver refused done same = err_so (λ (t : Report × WorldState). IsAsFar w t.1 receiver) refused done same

-- The receivers are unchanged.
same_far :
    (w new : WorldState) (receiver : ℕ) → new.publisher.sent ≡ w.publisher.sent → new.subscribers ≡ w.subscribers →
    IsAsFar w new receiver
same_far w new receiver sent subscribers = record {
  sent = sent;
  reached = λ subscriber here. record {
    subscriber = subscriber;
    here = ap (λ (t : List SubscriberState). slice_get t receiver) subscribers ∙ here;
    far = omega arith;
  };
}

-- A receiver is replaced by one whose next number isn't less.
pub with_far :
    (w : WorldState) (receiver other : ℕ) (old new : SubscriberState) → slice_get w.subscribers other ≡ Some old →
    (receiver ≡ other → old.arbitration.view.next ≤ new.arbitration.view.next) →
    IsAsFar w (with_subscriber w other new) receiver
with_far w receiver other old new is far = record {
  sent = refl;
  reached = λ subscriber here.
      elim (set_at w.subscribers other new receiver subscriber here) [
        | inl set ↦
            let same : old ≡ subscriber = same_Some old subscriber
            (sym is ∙ ap (λ (t : ℕ). slice_get w.subscribers t) (sym set.0) ∙ here)
            in
            record {
              subscriber = new;
              here = set.1;
              far = subst (λ (t : SubscriberState). t.arbitration.view.next ≤ new.arbitration.view.next) same (far set.0);
            }
        | inr there ↦ record { subscriber = subscriber; here = there; far = omega arith }
      ];
}

-- A datagram never lowers a receiver's next number.
outcome_next :
    (law : TakenLaw) (subscriber : SubscriberState) (way : Way) (bytes : List ℕ)
    (outcome : Result Reception Refusal) → receive subscriber.arbitration.view bytes ≡ outcome →
    subscriber.arbitration.view.next ≤ (given subscriber way bytes).arbitration.view.next
outcome_next law subscriber way bytes (Ok r) received =
    let view : View = subscriber.arbitration.view in
    let is = law view bytes r received in
    let next : (given subscriber way bytes).arbitration.view.next ≡ r.view.next =
    rw (received) (ap (λ (t : View). t.next) (view_taken way bytes subscriber.arbitration r))
    in
    omega (
      arith,
      next,
      ap (λ (t : Reception). t.view.next) is.taken,
    )
outcome_next law subscriber way bytes (Err refused) received =
    let next : (given subscriber way bytes).arbitration.view.next ≡ subscriber.arbitration.view.next =
    rw (received) (ap (λ (t : View). t.next) (view_refused way bytes subscriber.arbitration refused))
    in
    omega (arith, next)

pub given_next :
    (law : TakenLaw) (subscriber : SubscriberState) (way : Way) (bytes : List ℕ) →
    subscriber.arbitration.view.next ≤ (given subscriber way bytes).arbitration.view.next
given_next law subscriber way bytes =
    outcome_next law subscriber way bytes (receive subscriber.arbitration.view bytes) refl

-- Every event except a data packet of new messages and a restart of the receiver.
publish_far :
    (w : WorldState) (receiver : ℕ) (message : List ℕ) (refusal : Option AppendError) (done : Report × WorldState) →
    publishing w message refusal ≡ Ok done → IsAsFar w done.1 receiver
publish_far w receiver message None done same = ok_far w receiver _ done (same_far w _ receiver refl refl) same
publish_far w receiver message (Some refusal) done same = err_far w receiver _ done same

send_far :
    (w : WorldState) (receiver : ℕ) (next : Option Packet) (done : Report × WorldState) →
    sending w next w.publisher ≡ Ok done → IsAsFar w done.1 receiver
send_far w receiver None done same = ok_far w receiver _ done (same_far w _ receiver refl refl) same
send_far w receiver (Some packet) done same = ok_far w receiver _ done (same_far w _ receiver refl refl) same

close_far :
    (w : WorldState) (receiver : ℕ) (unsent : Bool) (done : Report × WorldState) →
    cond {A = Outcome} unsent (Err (Refuses (session.Close (record { count = unsent_count w.publisher }))))
    (Ok (report.Closed, record w { publisher = closed w.publisher })) ≡ Ok done → IsAsFar w done.1 receiver
close_far w receiver true done same = err_far w receiver _ done same
close_far w receiver false done same = ok_far w receiver _ done (same_far w _ receiver refl refl) same

request_far :
    (w : WorldState) (receiver : ℕ) (asks : Result Asked AnswerError) (done : Report × WorldState) →
    requested w asks ≡ Ok done → IsAsFar w done.1 receiver
request_far w receiver (Ok request) done same = ok_far w receiver _ done (same_far w _ receiver refl refl) same
request_far w receiver (Err refusal) done same = err_far w receiver _ done same

want_far :
    (w : WorldState) (receiver : ℕ) (want : Option Asked) (done : Report × WorldState) →
    asked_for w want ≡ Ok done → IsAsFar w done.1 receiver
want_far w receiver None done same = ok_far w receiver _ done (same_far w _ receiver refl refl) same
want_far w receiver (Some request) done same = ok_far w receiver _ done (same_far w _ receiver refl refl) same

ask_far :
    (w : WorldState) (receiver : ℕ) (subscriber : Option SubscriberState) (done : Report × WorldState) →
    asked w subscriber ≡ Ok done → IsAsFar w done.1 receiver
ask_far w receiver None done same = err_far w receiver _ done same
ask_far w receiver (Some subscriber) done same = want_far w receiver (wanted subscriber.arbitration.view) done same

deliver_far :
    (law : TakenLaw) (w : WorldState) (receiver other : ℕ) (way : Way) (subscriber : Option SubscriberState)
    (datagram : Option (List ℕ)) (done : Report × WorldState) → slice_get w.subscribers other ≡ subscriber →
    delivered w other way subscriber datagram ≡ Ok done → IsAsFar w done.1 receiver
deliver_far law w receiver other way None datagram done is same = err_far w receiver _ done same
deliver_far law w receiver other way (Some subscriber) None done is same = err_far w receiver _ done same
deliver_far law w receiver other way (Some subscriber) (Some bytes) done is same =
    ok_far w receiver _ done (with_far w receiver other subscriber (given subscriber way bytes) is (λ here.
    given_next law subscriber way bytes)) same

noise_far :
    (law : TakenLaw) (w : WorldState) (receiver other : ℕ) (way : Way) (bytes : List ℕ)
    (subscriber : Option SubscriberState) (own : Bool) (done : Report × WorldState) → slice_get w.subscribers other ≡ subscriber →
    noised w other way bytes subscriber own ≡ Ok done → IsAsFar w done.1 receiver
noise_far law w receiver other way bytes None own done is same = err_far w receiver _ done same
noise_far law w receiver other way bytes (Some subscriber) true done is same = err_far w receiver _ done same
noise_far law w receiver other way bytes (Some subscriber) false done is same =
    ok_far w receiver _ done (with_far w receiver other subscriber (given subscriber way bytes) is (λ here.
    given_next law subscriber way bytes)) same

restart_at_far :
    (w : WorldState) (receiver other next : ℕ) (subscriber : SubscriberState) (reached : Bool) (done : Report × WorldState) →
    slice_get w.subscribers other ≡ Some subscriber → (receiver ≡ other → ⊥) →
    cond {A = Outcome} reached (Ok (report.Restarted next, with_subscriber w other (restarted_at subscriber next)))
    (Err (NotReached subscriber.arbitration.view.next)) ≡ Ok done → IsAsFar w done.1 receiver
restart_at_far w receiver other next subscriber true done is another same =
    ok_far w receiver _ done (with_far w receiver other subscriber (restarted_at subscriber next) is (λ here. absurd (another here)))
    same
restart_at_far w receiver other next subscriber false done is another same = err_far w receiver _ done same

restart_far :
    (w : WorldState) (receiver other next : ℕ) (subscriber : Option SubscriberState) (done : Report × WorldState) →
    slice_get w.subscribers other ≡ subscriber → (receiver ≡ other → ⊥) → restarted w other next subscriber ≡ Ok done →
    IsAsFar w done.1 receiver
restart_far w receiver other next None done is another same = err_far w receiver _ done same
restart_far w receiver other next (Some subscriber) done is another same =
    restart_at_far w receiver other next subscriber (leb 1 next && leb next subscriber.arbitration.view.next) done is another same

pub event_far :
    (law : TakenLaw) (w : WorldState) (receiver : ℕ) (happening : Happening) (done : Report × WorldState) →
    (happening ≡ Datagram → ⊥) → ((next : ℕ) → happening ≡ Restart receiver next → ⊥) → effect w happening ≡ Ok done →
    IsAsFar w done.1 receiver
unfolding effect
event_far law w receiver (Publish message) done quiet stays same =
    publish_far w receiver message (append_refusal w.publisher.journal message) done same
event_far law w receiver Datagram done quiet stays same = absurd (quiet refl)
event_far law w receiver Heartbeat done quiet stays same =
    send_far w receiver (next_heartbeat w.publisher) done same
event_far law w receiver Close done quiet stays same =
    close_far w receiver (ltb 0 (unsent_count w.publisher)) done same
event_far law w receiver End done quiet stays same = send_far w receiver (next_end w.publisher) done same
event_far law w receiver (Request bytes) done quiet stays same =
    request_far w receiver (checked_request w.publisher.journal bytes) done same
event_far law w receiver (Ask other) done quiet stays same =
    ask_far w receiver (slice_get w.subscribers other) done same
event_far law w receiver (Deliver other way at) done quiet stays same =
    deliver_far law w receiver other way (slice_get w.subscribers other) (slice_get w.sent at) done refl same
event_far law w receiver (Noise other way bytes) done quiet stays same =
    noise_far law w receiver other way bytes (slice_get w.subscribers other)
    (is_own w.publisher.journal.session (reading bytes)) done refl same
event_far law w receiver (Restart other next) done quiet stays same =
    restart_far w receiver other next (slice_get w.subscribers other) done refl (λ here.
    stays next (ap (λ (t : ℕ). Restart t next) (sym here))) same

pub outcome_far :
    (w : WorldState) (receiver : ℕ) (outcome : Outcome) →
    ((done : Report × WorldState) → outcome ≡ Ok done → IsAsFar w done.1 receiver) →
    IsAsFar w (after_outcome w outcome) receiver
outcome_far w receiver (Ok done) as_far = as_far done refl
outcome_far w receiver (Err refused) as_far = same_far w w receiver refl refl
