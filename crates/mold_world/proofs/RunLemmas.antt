-- What holds of every run of events from the start.
use Rattle.std.proofs.Common.{◌≡◌, ℕ, zero, suc, List, [], ◌∷◌, ◌++◌, map}
use Rattle.std.proofs.Common.{refl, sym, ap, subst, ◌∙◌, arith}
use Rattle.std.specs.Prelude.{Option, None, Some, Result, Ok, Err, false, slice_get}
use Rattle.std.specs.FinMap as finite
use Rattle.std.specs.Ordering.{nat_cmp}
use Rattle.std.proofs.lemmas.List.{append-nil}
use Rattle.std.proofs.lemmas.Option.{none-some, same_Some}
use Rattle.mold_wire.specs.Truth.{published_at}
use Rattle.mold_wire.specs.declared.packet.Packet.{Packet}
use Rattle.mold_wire.specs.declared.session.Session.{Session}
use Rattle.mold_receiver.specs.Receive.{Reception}
use Rattle.mold_rule.specs.declared.refusal.Refusal.{Refusal}
use Rattle.mold_session.specs.Journal.{append_refusal}
use Rattle.mold_session.specs.Publisher.{PublisherState}
use Rattle.mold_session.specs.declared.error.AppendError.{AppendError}
use Rattle.mold_world.proofs.EventLemmas.{AllLaws, event_kept, outcome_kept}
use Rattle.mold_world.proofs.DeliveryLemmas.{noise_hands_nothing, sent_taken}
use Rattle.mold_world.proofs.MachineLemmas.{both_published, each_later, handed_published}
use Rattle.mold_world.specs.Event.{Happening}
use Rattle.mold_world.specs.Effect.{Outcome, after_event, after_outcome, effect, run_events}
use Rattle.mold_world.specs.declared.event.EventOf.TheVariants.{Publish, Datagram, Heartbeat, Close, End, Request, Ask, Deliver, Noise, Restart}
use Rattle.mold_world.specs.HandOns.{handed_at, handed_by, handed_by_all, handed_of}
use Rattle.mold_world.specs.Headline.{ArePublished, HandOn}
use Rattle.mold_world.specs.Kept.{IsSubscriberKept, IsWorld}
use Rattle.mold_world.specs.World.{MayBegin, SubscriberState, WorldState, beginning, subscriber_at}
use Rattle.std.specs.Prelude.{Bool, true, ◌&&◌}
use Rattle.std.proofs.Common.{cond, leb, ltb}
use Rattle.mold_wire.specs.Reading.{reading}
use Rattle.mold_wire.specs.declared.request.Request.{Request as Asked}
use Rattle.mold_receiver.specs.View.{View}
use Rattle.mold_receiver.specs.Wanted.{wanted}
use Rattle.mold_session.specs.Journal.{JournalState}
use Rattle.mold_session.specs.Publisher.{after_datagram, closed, next_datagram, next_end, next_heartbeat}
use Rattle.mold_session.specs.Server.{checked_request}
use Rattle.mold_session.specs.declared.error.AnswerError.{AnswerError}
use Rattle.mold_world.specs.Effect.{asked, asked_for, delivered, is_own, noised, publishing, restarted_at, requested}
use Rattle.mold_world.specs.Effect.{restarted, sending, unsent_count, with_subscriber}
use Rattle.mold_world.specs.declared.report.Report.{Report}
use Rattle.mold_world.specs.declared.report.Report.TheVariants as report
use Rattle.mold_session.specs.declared.error.SessionError.TheVariants as session
use Rattle.mold_world.specs.declared.report.WorldError.{WorldError}
use Rattle.mold_world.specs.declared.report.WorldError.TheVariants.{NotReached, Layer as Refuses}
use Rattle.mold_world.specs.declared.way.Way.{Way}
use Rattle.mold_world.proofs.OutcomeLemmas.{ok_so, err_so}

-- `IsWorld` holds of a new world.
place_of :
    (session : Session) (windows : List ℕ) (receiver : ℕ) (subscriber : SubscriberState) →
    slice_get (map (subscriber_at session) windows) receiver ≡ Some subscriber → (window : ℕ) × (subscriber_at session window ≡ subscriber)
place_of session [] receiver subscriber is = absurd (none-some subscriber is)
place_of session (window ∷ windows) zero subscriber is = (window, same_Some (subscriber_at session window) subscriber is)
place_of session (window ∷ windows) (suc receiver) subscriber is = place_of session windows receiver subscriber is

pub begins :
    (laws : AllLaws) (session : Session) (limit server_limit burst : ℕ) (windows : List ℕ) →
    MayBegin session limit server_limit → IsWorld (beginning session limit server_limit burst windows)
begins laws session limit server_limit burst windows may =
    let w : WorldState = beginning session limit server_limit burst windows in
    record {
      publisher = record {
        limited = may.limited;
        longest = omega (arith, may.limited.0);
        journaled = record { few = omega arith; each = tt };
        published = omega arith;
        finished = λ _. refl;
      };
      answers = record {
        journaled = record { few = omega arith; each = tt };
        named = may.named;
        limited = may.served;
        room = omega (arith, may.limited.0, may.room);
      };
      said = λ subscriber bytes found. absurd (none-some bytes found);
      subscribers = λ receiver subscriber found.
          let here = place_of session windows receiver subscriber found in
          subst (λ (t : SubscriberState). IsSubscriberKept w.publisher.journal w.sent t) here.1
          (record {
            session = refl;
            honest = laws.receivers.fresh session 1 here.0 [] false (omega arith) (omega arith) (omega arith);
            book = refl;
            follows = tt;
            stored = λ number message held. absurd (none-some message (sym (finite.get-empty nat_cmp number) ∙ held));
            ends = λ end known. absurd (none-some end known);
          });
    }

-- Publishing only appends messages.
abbrev GrowsTo : WorldState → WorldState → Type 0
GrowsTo w new = (more : List (List ℕ)) × (new.publisher.journal.messages ≡ w.publisher.journal.messages ++ more)

ok_grows :
    (w : WorldState) (here done : Report × WorldState) → GrowsTo w here.1 → ◌≡◌ {A = Outcome} (Ok here) (Ok done) →
    GrowsTo w done.1
ok_grows w here done grows same = ok_so (λ (t : Report × WorldState). GrowsTo w t.1) here done same grows

err_grows :
    (w : WorldState) (refused : WorldError) (done : Report × WorldState) →
    ◌≡◌ {A = Outcome} (Err refused) (Ok done) → GrowsTo w done.1
err_grows w refused done same = err_so (λ (t : Report × WorldState). GrowsTo w t.1) refused done same

stays : (w : WorldState) → GrowsTo w w
stays w = ([], sym (append-nil w.publisher.journal.messages))

publish_grows :
    (w : WorldState) (message : List ℕ) (refusal : Option AppendError) (done : Report × WorldState) →
    publishing w message refusal ≡ Ok done → GrowsTo w done.1
publish_grows w message None done same = ok_grows w _ done (message ∷ [], refl) same
publish_grows w message (Some refusal) done same = err_grows w _ done same

send_grows :
    (w : WorldState) (next : Option Packet) (publisher : PublisherState) (done : Report × WorldState) →
    publisher.journal ≡ w.publisher.journal → sending w next publisher ≡ Ok done → GrowsTo w done.1
send_grows w None publisher done journal same = ok_grows w _ done (stays w) same
send_grows w (Some packet) publisher done journal same =
    ok_grows w _ done (
      [],
      ap (λ (t : JournalState). t.messages) journal
          ∙ sym (append-nil w.publisher.journal.messages),
    ) same

close_grows :
    (w : WorldState) (unsent : Bool) (done : Report × WorldState) →
    cond {A = Outcome} unsent (Err (Refuses (session.Close (record { count = unsent_count w.publisher }))))
    (Ok (report.Closed, record w { publisher = closed w.publisher })) ≡ Ok done → GrowsTo w done.1
close_grows w true done same = err_grows w _ done same
close_grows w false done same = ok_grows w _ done (stays w) same

request_grows :
    (w : WorldState) (asks : Result Asked AnswerError) (done : Report × WorldState) → requested w asks ≡ Ok done →
    GrowsTo w done.1
request_grows w (Ok request) done same = ok_grows w _ done (stays w) same
request_grows w (Err refusal) done same = err_grows w _ done same

want_grows :
    (w : WorldState) (want : Option Asked) (done : Report × WorldState) → asked_for w want ≡ Ok done → GrowsTo w done.1
want_grows w None done same = ok_grows w _ done (stays w) same
want_grows w (Some request) done same = ok_grows w _ done (stays w) same

ask_grows :
    (w : WorldState) (subscriber : Option SubscriberState) (done : Report × WorldState) → asked w subscriber ≡ Ok done →
    GrowsTo w done.1
ask_grows w None done same = err_grows w _ done same
ask_grows w (Some subscriber) done same = want_grows w (wanted subscriber.arbitration.view) done same

deliver_grows :
    (w : WorldState) (receiver : ℕ) (way : Way) (subscriber : Option SubscriberState) (datagram : Option (List ℕ))
    (done : Report × WorldState) → delivered w receiver way subscriber datagram ≡ Ok done → GrowsTo w done.1
deliver_grows w receiver way None datagram done same = err_grows w _ done same
deliver_grows w receiver way (Some subscriber) None done same = err_grows w _ done same
deliver_grows w receiver way (Some subscriber) (Some bytes) done same = ok_grows w _ done (stays w) same

noise_grows :
    (w : WorldState) (receiver : ℕ) (way : Way) (bytes : List ℕ) (subscriber : Option SubscriberState) (own : Bool)
    (done : Report × WorldState) → noised w receiver way bytes subscriber own ≡ Ok done → GrowsTo w done.1
noise_grows w receiver way bytes None own done same = err_grows w _ done same
noise_grows w receiver way bytes (Some subscriber) true done same = err_grows w _ done same
noise_grows w receiver way bytes (Some subscriber) false done same = ok_grows w _ done (stays w) same

restart_at_grows :
    (w : WorldState) (receiver next : ℕ) (subscriber : SubscriberState) (reached : Bool) (done : Report × WorldState) →
    cond {A = Outcome} reached (Ok (report.Restarted next, with_subscriber w receiver (restarted_at subscriber next)))
    (Err (NotReached subscriber.arbitration.view.next)) ≡ Ok done → GrowsTo w done.1
restart_at_grows w receiver next subscriber true done same = ok_grows w _ done (stays w) same
restart_at_grows w receiver next subscriber false done same = err_grows w _ done same

restart_grows :
    (w : WorldState) (receiver next : ℕ) (subscriber : Option SubscriberState) (done : Report × WorldState) →
    restarted w receiver next subscriber ≡ Ok done → GrowsTo w done.1
restart_grows w receiver next None done same = err_grows w _ done same
restart_grows w receiver next (Some subscriber) done same =
    restart_at_grows w receiver next subscriber (leb 1 next && leb next subscriber.arbitration.view.next) done same

event_grows :
    (w : WorldState) (happening : Happening) (done : Report × WorldState) → effect w happening ≡ Ok done →
    GrowsTo w done.1
unfolding effect
event_grows w (Publish message) done same =
    publish_grows w message (append_refusal w.publisher.journal message) done same
event_grows w Datagram done same =
    send_grows w (next_datagram w.publisher) (after_datagram w.publisher) done refl same
event_grows w Heartbeat done same = send_grows w (next_heartbeat w.publisher) w.publisher done refl same
event_grows w Close done same = close_grows w (ltb 0 (unsent_count w.publisher)) done same
event_grows w End done same = send_grows w (next_end w.publisher) w.publisher done refl same
event_grows w (Request bytes) done same = request_grows w (checked_request w.publisher.journal bytes) done same
event_grows w (Ask receiver) done same = ask_grows w (slice_get w.subscribers receiver) done same
event_grows w (Deliver receiver way at) done same =
    deliver_grows w receiver way (slice_get w.subscribers receiver) (slice_get w.sent at) done same
event_grows w (Noise receiver way bytes) done same =
    noise_grows w receiver way bytes (slice_get w.subscribers receiver)
    (is_own w.publisher.journal.session (reading bytes)) done same
event_grows w (Restart receiver next) done same = restart_grows w receiver next (slice_get w.subscribers receiver) done same

outcome_grows :
    (w : WorldState) (outcome : Outcome) →
    ((done : Report × WorldState) → outcome ≡ Ok done → GrowsTo w done.1) → GrowsTo w (after_outcome w outcome)
outcome_grows w (Ok done) grows = grows done refl
outcome_grows w (Err refused) grows = stays w

-- A message keeps its number, whatever is appended.
pub record Keeps : Type 0 where
  pub keeps : (published behind : List (List ℕ)) (number : ℕ) (message : List ℕ) →
      published_at published number ≡ Some message → published_at (published ++ behind) number ≡ Some message

grown_at :
    (laws : Keeps) (w new : WorldState) (number : ℕ) (message : List ℕ) → GrowsTo w new →
    published_at w.publisher.journal.messages number ≡ Some message →
    published_at new.publisher.journal.messages number ≡ Some message
grown_at laws w new number message grows is =
    ap (λ (t : List (List ℕ)). published_at t number) grows.1
    ∙ laws.keeps w.publisher.journal.messages grows.0 number message is

later_at :
    (laws : Keeps) (w : WorldState) (happenings : List Happening) (number : ℕ) (message : List ℕ) →
    published_at w.publisher.journal.messages number ≡ Some message →
    published_at (run_events w happenings).publisher.journal.messages number ≡ Some message
later_at laws w [] number message is = is
later_at laws w (happening ∷ happenings) number message is =
    later_at laws (after_event w happening) happenings number message
    (grown_at laws w (after_event w happening) number message
    (outcome_grows w (effect w happening) (event_grows w happening)) is)

-- The messages that a delivery delivers were published.
handed_here :
    (laws : AllLaws) (w : WorldState) (receiver at : ℕ) (subscriber : Option SubscriberState) (datagram : Option (List ℕ)) →
    IsWorld w → slice_get w.subscribers receiver ≡ subscriber → slice_get w.sent at ≡ datagram →
    ArePublished w.publisher.journal.messages (handed_at receiver subscriber datagram)
handed_here laws w receiver at None datagram is here sent = tt
handed_here laws w receiver at (Some subscriber) None is here sent = tt
handed_here laws w receiver at (Some subscriber) (Some bytes) is here sent =
    let view : View = subscriber.arbitration.view in
    let took = sent_taken laws.receivers.take w receiver at subscriber bytes is here sent in
    subst (λ (t : Result Reception Refusal). ArePublished w.publisher.journal.messages (handed_of receiver view.next t))
    (sym took.received)
    (handed_published w.publisher.journal.messages receiver view.next took.reception.handed took.handed)

handed_in_event :
    (laws : AllLaws) (w : WorldState) (happening : Happening) → IsWorld w →
    ArePublished w.publisher.journal.messages (handed_by w happening)
handed_in_event laws w (Publish message) is = tt
handed_in_event laws w Datagram is = tt
handed_in_event laws w Heartbeat is = tt
handed_in_event laws w Close is = tt
handed_in_event laws w End is = tt
handed_in_event laws w (Request bytes) is = tt
handed_in_event laws w (Ask receiver) is = tt
handed_in_event laws w (Deliver receiver way at) is =
    handed_here laws w receiver at (slice_get w.subscribers receiver) (slice_get w.sent at) is refl refl
handed_in_event laws w (Noise receiver way bytes) is =
    subst (λ (t : List HandOn). ArePublished w.publisher.journal.messages t)
    (sym (noise_hands_nothing w receiver way bytes is)) tt
handed_in_event laws w (Restart receiver next) is = tt

-- They stay published with their numbers to the end of a run.
pub handed_run :
    (laws : AllLaws) (keep : Keeps) (w : WorldState) (happenings : List Happening) → IsWorld w →
    ArePublished (run_events w happenings).publisher.journal.messages (handed_by_all w happenings)
handed_run laws keep w [] is = tt
handed_run laws keep w (happening ∷ happenings) is =
    let next : WorldState = after_event w happening in
    let after : IsWorld next = outcome_kept laws w (effect w happening) is (λ done same.
    event_kept laws w happening done is same)
    in
    let end : List (List ℕ) = (run_events next happenings).publisher.journal.messages in
    both_published end (handed_by w happening) (handed_by_all next happenings)
    (each_later w.publisher.journal.messages end (handed_by w happening) (λ number message at.
    later_at keep next happenings number message
    (grown_at keep w next number message (outcome_grows w (effect w happening) (event_grows w happening)) at))
    (handed_in_event laws w happening is))
    (handed_run laws keep next happenings after)
