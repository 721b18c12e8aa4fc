-- What an event does, as steps of the machine.
use Rattle.std.proofs.Common.{◌≡◌, ℕ, ◌+◌, ◌-◌, cond, leb, ltb, List, [], ◌∷◌, ◌++◌, length}
use Rattle.std.proofs.Common.{take, refl, sym, ap, subst, ◌∙◌, inl, inr, arith}
use Rattle.std.specs.Prelude.{◌⊎◌, ◌&&◌, Option, None, Some, Bool, true, false, Result, Ok, Err, slice_get}
use Rattle.std.proofs.lemmas.Bool.{and_parts, leb-true}
use Rattle.std.proofs.lemmas.List.{append-nil}
use Rattle.mold_wire.specs.Packet.{Spells, messages_of}
use Rattle.mold_wire.specs.Reading.{reading}
use Rattle.mold_wire.specs.Truth.{Carries}
use Rattle.mold_wire.specs.declared.packet.Packet.{Packet}
use Rattle.mold_receiver.specs.Receive.{Reception, handed_on, receive}
use Rattle.mold_receiver.specs.View.{View}
use Rattle.mold_rule.specs.declared.refusal.Refusal.{Refusal}
use Rattle.mold_session.specs.Journal.{append_refusal}
use Rattle.mold_session.specs.Publisher.{after_datagram, closed, next_datagram, next_end, next_heartbeat}
use Rattle.mold_session.specs.Server.{checked_request}
use Rattle.mold_session.specs.declared.error.AppendError.{AppendError}
use Rattle.mold_world.proofs.EventLemmas.{AllLaws}
use Rattle.mold_world.proofs.DeliveryLemmas.{noise_hands_nothing, noise_unmoved, sent_taken}
use Rattle.mold_world.proofs.SubscriberLemmas.{followed_messages, given_kept, handed_messages, same_Ok}
use Rattle.std.specs.FinMap as finite
use Rattle.mold_world.specs.Event.{Happening}
use Rattle.mold_world.specs.Effect.{Outcome, book_after, delivered, effect, given, is_own, noised}
use Rattle.mold_world.specs.Effect.{publishing, restarted_at, restarted, sending, unsent_count, with_subscriber}
use Rattle.mold_world.specs.declared.event.EventOf.TheVariants.{Publish as PublishEvent, Datagram, Heartbeat, Close as CloseEvent, End}
use Rattle.mold_world.specs.declared.event.EventOf.TheVariants.{Request, Ask, Deliver as DeliverEvent, Noise, Restart as RestartEvent}
use Rattle.mold_world.specs.HandOns.{handed_at, handed_by, handed_of}
use Rattle.mold_world.specs.Headline.{handed_from}
use Rattle.mold_world.specs.Deliveries.{IsUnmoved}
use Rattle.mold_world.specs.Kept.{IsSubscriberKept, IsWorld}
use Rattle.mold_world.specs.Machine.{IsEndSent, IsSentAs, ReceiverLog}
use Rattle.mold_world.specs.Machine.Step.{Publish, Close, Deliver, Restart}
use Rattle.mold_world.specs.Steps.{AreSteps, is_finished, log_of}
use Rattle.mold_world.specs.World.{SubscriberState, WorldState}
use Rattle.mold_world.specs.declared.report.Report.{Report}
use Rattle.mold_world.specs.declared.report.Report.TheVariants as report
use Rattle.mold_session.specs.declared.error.SessionError.TheVariants as session
use Rattle.mold_world.specs.declared.report.WorldError.TheVariants.{NotReached, Layer as Refuses}
use Rattle.mold_world.specs.declared.way.Way.{Way}
use Rattle.mold_world.proofs.OutcomeLemmas.{ok_so, err_so}
use Rattle.mold_world.proofs.StandingLemmas.{stands_at, machine_with, end_is, stands_same, book_length}
use Rattle.mold_world.proofs.SendStepLemmas.{sent_steps, send_steps, request_steps, ask_steps}

-- The event is the steps that it names.
abbrev IsDone : WorldState → Happening → Report × WorldState → Type 0
IsDone w happening done = AreSteps w happening done.1

publish_steps :
    (laws : AllLaws) (w : WorldState) (message : List ℕ) (refusal : Option AppendError) (done : Report × WorldState) →
    IsWorld w → append_refusal w.publisher.journal message ≡ refusal → publishing w message refusal ≡ Ok done →
    AreSteps w (PublishEvent message) done.1
publish_steps laws w message None done is free same =
    let may = laws.sending.may w.publisher message free in
    ok_so (IsDone w (PublishEvent message)) _ done same (record {
      steps = Publish message ∷ [];
      named = refl;
      allowed = ((may.unclosed, omega (arith, is.publisher.journaled.few, may.number)), tt);
      made = refl;
      handed = refl;
    })
publish_steps laws w message (Some refusal) done is some same = err_so (IsDone w (PublishEvent message)) _ done same

close_steps :
    (w : WorldState) (unsent : Bool) (done : Report × WorldState) →
    cond {A = Outcome} unsent (Err (Refuses (session.Close (record { count = unsent_count w.publisher }))))
    (Ok (report.Closed, record w { publisher = closed w.publisher })) ≡ Ok done → AreSteps w CloseEvent done.1
close_steps w true done same = err_so (IsDone w CloseEvent) _ done same
close_steps w false done same =
    ok_so (IsDone w CloseEvent) _ done same
    (record { steps = Close ∷ []; named = refl; allowed = (tt, tt); made = refl; handed = refl })

-- Each delivered message was sent.
pub record HandsOnSent (w : WorldState) (receiver : ℕ) (old new : SubscriberState) (handed : List (List ℕ)) : Type 0 where
  pub here : slice_get w.subscribers receiver ≡ Some old
  pub kept : IsSubscriberKept w.publisher.journal w.sent old
  pub still : IsSubscriberKept w.publisher.journal w.sent new
  pub book : new.book.messages ≡ old.book.messages ++ handed
  pub each : (i : ℕ) (message : List ℕ) → slice_get handed i ≡ Some message →
      IsSentAs w.sent (old.arbitration.view.next + i) message

deliver_made :
    (w : WorldState) (receiver at : ℕ) (way : Way) (old new : SubscriberState) (handed : List (List ℕ)) →
    HandsOnSent w receiver old new handed →
    handed_by w (DeliverEvent receiver way at) ≡ handed_from receiver old.arbitration.view.next handed →
    AreSteps w (DeliverEvent receiver way at) (with_subscriber w receiver new)
deliver_made w receiver at way old new handed hands so =
    let log : ReceiverLog = log_of (slice_get w.subscribers receiver) in
    let book : log.book ≡ old.book.messages =
    ap (λ (t : Option SubscriberState). (log_of t).book) hands.here
    in
    let behind : length log.book + 1 ≡ old.arbitration.view.next =
    ap (λ (t : List (List ℕ)). length t + 1) book ∙ book_length w.publisher.journal w.sent old hands.kept
    in
    let ended : Bool = is_finished new.arbitration.view in
    let longer : log.book ++ handed ≡ new.book.messages =
    ap (λ (t : List (List ℕ)). t ++ handed) book ∙ sym hands.book
    in
    record {
      steps = Deliver receiver handed ended ∷ [];
      named = record { messages = handed; ended = ended; so = refl };
      allowed = (
        (
          (λ i message found.
              subst (λ (t : ℕ). IsSentAs w.sent (t + i) message) (sym behind) (hands.each i message found)),
          (λ told.
              subst (λ (t : ℕ). IsEndSent w.sent w.publisher.journal.session t)
              (sym (ap (λ (t : List (List ℕ)). length t + 1) longer
              ∙ book_length w.publisher.journal w.sent new hands.still))
              (hands.still.ends new.arbitration.view.next
              (end_is new.arbitration.view.ended new.arbitration.view.next told))),
        ),
        tt,
      );
      made = machine_with w receiver old new (record { book = log.book ++ handed; ended = ended }) hands.here
          (ap (λ (t : List (List ℕ)). record { book = t; ended = ended }) (sym longer));
      handed = append-nil (handed_from receiver (length log.book + 1) handed)
          ∙ ap (λ (t : ℕ). handed_from receiver t handed) behind
          ∙ sym so;
    }

-- The receiver's law on delivered messages.
pub record HandsOnLaw : Type 0 where
  pub handed : (v : View) (p : Packet) (i : ℕ) (m : List ℕ) →
      slice_get (handed_on v p.sequence (messages_of p.body)) i ≡ Some m →
      (finite.get v.store (v.next + i) ≡ Some m) ⊎ Carries p (v.next + i) m

-- A receiver accepts what was sent.
taken_hands :
    (laws : AllLaws) (law : HandsOnLaw) (w : WorldState) (receiver at : ℕ) (way : Way) (subscriber : SubscriberState)
    (bytes : List ℕ) (r : Reception) → IsWorld w → slice_get w.subscribers receiver ≡ Some subscriber →
    slice_get w.sent at ≡ Some bytes → receive subscriber.arbitration.view bytes ≡ Ok r →
    HandsOnSent w receiver subscriber (given subscriber way bytes) r.handed
taken_hands laws law w receiver at way subscriber bytes r is here found received =
    let view : View = subscriber.arbitration.view in
    let kept = is.subscribers receiver subscriber here in
    let told = is.said at bytes found in
    let took = laws.receivers.taken view bytes r received in
    let packet : Packet = took.packet in
    let same : told.packet ≡ packet = same_Ok told.packet packet (reading bytes)
    (laws.receivers.read told.packet bytes told.spelled) took.read
    in
    let spelled : Spells packet bytes = subst (λ (t : Packet). Spells t bytes) same told.spelled in
    record {
      here = here;
      kept = kept;
      still = given_kept laws.receivers w.publisher.journal w.sent subscriber way bytes kept
          (record { place = at; found = found; told = told });
      book = ap (λ (t : Result Reception Refusal). (book_after subscriber.book view.next t).messages) received
          ∙ followed_messages subscriber.book view.next r.handed;
      each = λ i message at_i.
          elim (law.handed view packet i message
          (sym (ap (λ (t : Reception). slice_get t.handed i) took.taken) ∙ at_i)) [
            | inl stored ↦ kept.stored (view.next + i) message stored
            | inr carried ↦ record {
              place = at;
              bytes = bytes;
              packet = packet;
              found = found;
              spelled = spelled;
              carried = carried;
            }
          ];
    }

-- So the event delivers what its step delivers.
handed_taken :
    (w : WorldState) (receiver at : ℕ) (way : Way) (subscriber : SubscriberState) (bytes : List ℕ) (r : Reception) →
    slice_get w.subscribers receiver ≡ Some subscriber → slice_get w.sent at ≡ Some bytes →
    receive subscriber.arbitration.view bytes ≡ Ok r →
    handed_by w (DeliverEvent receiver way at) ≡ handed_from receiver subscriber.arbitration.view.next r.handed
handed_taken w receiver at way subscriber bytes r here found received =
    (λ j. handed_at receiver (here j) (found j))
    ∙ ap (λ (t : Result Reception Refusal). handed_of receiver subscriber.arbitration.view.next t) received

deliver_steps :
    (laws : AllLaws) (law : HandsOnLaw) (w : WorldState) (receiver at : ℕ) (way : Way)
    (subscriber : Option SubscriberState) (datagram : Option (List ℕ)) (done : Report × WorldState) → IsWorld w →
    slice_get w.subscribers receiver ≡ subscriber → slice_get w.sent at ≡ datagram →
    delivered w receiver way subscriber datagram ≡ Ok done → AreSteps w (DeliverEvent receiver way at) done.1
deliver_steps laws law w receiver at way None datagram done is here found same =
    err_so (IsDone w (DeliverEvent receiver way at)) _ done same
deliver_steps laws law w receiver at way (Some subscriber) None done is here found same =
    err_so (IsDone w (DeliverEvent receiver way at)) _ done same
deliver_steps laws law w receiver at way (Some subscriber) (Some bytes) done is here found same =
    let took = sent_taken laws.receivers.take w receiver at subscriber bytes is here found in
    ok_so (IsDone w (DeliverEvent receiver way at)) _ done same
    (deliver_made w receiver at way subscriber (given subscriber way bytes) took.reception.handed
    (taken_hands laws law w receiver at way subscriber bytes took.reception is here found took.received)
    (handed_taken w receiver at way subscriber bytes took.reception here found took.received))

-- A receiver that refuses bytes is unchanged for the machine.
refused_made :
    (w : WorldState) (receiver : ℕ) (way : Way) (bytes : List ℕ) (subscriber : SubscriberState) → IsWorld w →
    slice_get w.subscribers receiver ≡ Some subscriber → IsUnmoved subscriber way bytes →
    AreSteps w (Noise receiver way bytes) (with_subscriber w receiver (given subscriber way bytes))
refused_made w receiver way bytes subscriber is here stays =
    let new : SubscriberState = given subscriber way bytes in
    let log : log_of (Some new) ≡ log_of (Some subscriber) =
    λ i. record { book = (stays.book i).messages; ended = is_finished (stays.view i) }
    in
    record {
      steps = [];
      named = refl;
      allowed = tt;
      made = λ i. record {
        session = w.publisher.journal.session;
        published = w.publisher.journal.messages;
        closed = w.publisher.journal.closed;
        sent = w.sent;
        logs = λ other.
            (stands_at w receiver subscriber new (log_of (Some subscriber)) here log other
            ∙ stands_same w receiver subscriber here other) i;
      };
      handed = sym (noise_hands_nothing w receiver way bytes is);
    }

noise_steps :
    (w : WorldState) (receiver : ℕ) (way : Way) (bytes : List ℕ) (subscriber : Option SubscriberState) (own : Bool)
    (done : Report × WorldState) → IsWorld w → slice_get w.subscribers receiver ≡ subscriber →
    is_own w.publisher.journal.session (reading bytes) ≡ own → noised w receiver way bytes subscriber own ≡ Ok done →
    AreSteps w (Noise receiver way bytes) done.1
noise_steps w receiver way bytes None own done is here mine same =
    err_so (IsDone w (Noise receiver way bytes)) _ done same
noise_steps w receiver way bytes (Some subscriber) true done is here mine same =
    err_so (IsDone w (Noise receiver way bytes)) _ done same
noise_steps w receiver way bytes (Some subscriber) false done is here mine same =
    ok_so (IsDone w (Noise receiver way bytes)) _ done same
    (refused_made w receiver way bytes subscriber is here (noise_unmoved w receiver way bytes subscriber is here mine))

restart_at_steps :
    (w : WorldState) (receiver next : ℕ) (subscriber : SubscriberState) (reached : Bool) (done : Report × WorldState) →
    IsWorld w → slice_get w.subscribers receiver ≡ Some subscriber →
    (leb 1 next && leb next subscriber.arbitration.view.next) ≡ reached →
    cond {A = Outcome} reached (Ok (report.Restarted next, with_subscriber w receiver (restarted_at subscriber next)))
    (Err (NotReached subscriber.arbitration.view.next)) ≡ Ok done → AreSteps w (RestartEvent receiver next) done.1
restart_at_steps w receiver next subscriber false done is here reached same =
    err_so (IsDone w (RestartEvent receiver next)) _ done same
restart_at_steps w receiver next subscriber true done is here reached same =
    let kept = is.subscribers receiver subscriber here in
    let both = and_parts (leb 1 next) (leb next subscriber.arbitration.view.next) reached in
    let log : ReceiverLog = log_of (slice_get w.subscribers receiver) in
    let book : log.book ≡ subscriber.book.messages =
    ap (λ (t : Option SubscriberState). (log_of t).book) here
    in
    let cut : take (next - 1) log.book ≡ (restarted_at subscriber next).book.messages =
    ap (λ (t : List (List ℕ)). take (next - 1) t) book
    ∙ sym (handed_messages subscriber.book.first (take (next - 1) subscriber.book.messages))
    in
    ok_so (IsDone w (RestartEvent receiver next)) _ done same (record {
      steps = Restart receiver next ∷ [];
      named = refl;
      allowed = (
        (
          leb-true 1 next both.0,
          omega (
            arith,
            leb-true next subscriber.arbitration.view.next both.1,
            book_length w.publisher.journal w.sent subscriber kept,
            ap (λ (t : List (List ℕ)). length t) book,
          ),
        ),
        tt,
      );
      made = machine_with w receiver subscriber (restarted_at subscriber next)
          (record { book = take (next - 1) log.book; ended = false }) here
          (ap (λ (t : List (List ℕ)). record { book = t; ended = false }) (sym cut));
      handed = refl;
    })

restart_steps :
    (w : WorldState) (receiver next : ℕ) (subscriber : Option SubscriberState) (done : Report × WorldState) → IsWorld w →
    slice_get w.subscribers receiver ≡ subscriber → restarted w receiver next subscriber ≡ Ok done →
    AreSteps w (RestartEvent receiver next) done.1
restart_steps w receiver next None done is here same = err_so (IsDone w (RestartEvent receiver next)) _ done same
restart_steps w receiver next (Some subscriber) done is here same =
    restart_at_steps w receiver next subscriber (leb 1 next && leb next subscriber.arbitration.view.next) done is here refl same

-- Every event that is not refused.
pub event_steps :
    (laws : AllLaws) (law : HandsOnLaw) (w : WorldState) (happening : Happening) (done : Report × WorldState) →
    IsWorld w → effect w happening ≡ Ok done → AreSteps w happening done.1
unfolding effect
event_steps laws law w (PublishEvent message) done is same =
    publish_steps laws w message (append_refusal w.publisher.journal message) done is refl same
event_steps laws law w Datagram done is same =
    sent_steps w Datagram 1 done (λ steps sends. sends) refl
    (send_steps w (next_datagram w.publisher) (after_datagram w.publisher) done refl
    (λ packet next. laws.sending.datagram w.publisher packet is.publisher is.answers.named next) same)
event_steps laws law w Heartbeat done is same =
    sent_steps w Heartbeat 1 done (λ steps sends. sends) refl
    (send_steps w (next_heartbeat w.publisher) w.publisher done refl
    (λ packet next. laws.sending.heartbeat w.publisher packet is.publisher is.answers.named next) same)
event_steps laws law w CloseEvent done is same = close_steps w (ltb 0 (unsent_count w.publisher)) done same
event_steps laws law w End done is same =
    sent_steps w End 1 done (λ steps sends. sends) refl
    (send_steps w (next_end w.publisher) w.publisher done refl
    (λ packet next. laws.sending.end w.publisher packet is.publisher is.answers.named next) same)
event_steps laws law w (Request bytes) done is same =
    sent_steps w (Request bytes) w.burst done (λ steps sends. sends) refl
    (request_steps laws w bytes (checked_request w.publisher.journal bytes) done is refl same)
event_steps laws law w (Ask receiver) done is same =
    sent_steps w (Ask receiver) w.burst done (λ steps sends. sends) refl
    (ask_steps laws w receiver (slice_get w.subscribers receiver) done is refl same)
event_steps laws law w (DeliverEvent receiver way at) done is same =
    deliver_steps laws law w receiver at way (slice_get w.subscribers receiver) (slice_get w.sent at) done is refl refl same
event_steps laws law w (Noise receiver way bytes) done is same =
    noise_steps w receiver way bytes (slice_get w.subscribers receiver)
    (is_own w.publisher.journal.session (reading bytes)) done is refl refl same
event_steps laws law w (RestartEvent receiver next) done is same =
    restart_steps w receiver next (slice_get w.subscribers receiver) done is refl same
