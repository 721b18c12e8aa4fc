-- What every event keeps, and so every list of events.
use Rattle.std.proofs.Common.{◌≡◌, ℕ, zero, suc, ◌+◌, ◌-◌, ◌<◌, ◌≤◌, cond, leb, ltb, List, [], ◌∷◌, ◌++◌, length, map, min, drop}
use Rattle.std.proofs.Common.{refl, sym, ap, subst, ◌∙◌, inl, inr, arith}
use Rattle.std.specs.Prelude.{◌&&◌, Option, None, Some, Bool, true, false, not, Result, Ok, Err, slice_get}
use Rattle.std.specs.Str.{bytes_eq}
use Rattle.std.proofs.lemmas.Bool.{and_parts, leb-true, ltb-false}
use Rattle.std.proofs.lemmas.Option.{none-some, same_Some}
use Rattle.std.proofs.lemmas.List.{take-append-drop, take_all}
use Rattle.mold_wire.specs.Packet.{messages_of, spelling_of, top_of}
use Rattle.mold_wire.specs.Reading.{reading}
use Rattle.mold_wire.specs.Truth.{IsTruePacket}
use Rattle.mold_wire.specs.declared.error.DecodeError.{DecodeError}
use Rattle.mold_wire.specs.declared.packet.Packet.{Packet}
use Rattle.mold_wire.specs.declared.request.Request.{Request as Asked}
use Rattle.mold_wire.specs.declared.session.Session.{Session}
use Rattle.mold_rule.specs.Held.{first_conflict}
use Rattle.mold_rule.specs.Refusals.{conflict_at, end_below, end_conflict, first_some, past_end, past_last, refuse_if, sequence_zero}
use Rattle.mold_receiver.specs.Receive.{decide, receive_read, reception}
use Rattle.mold_receiver.specs.Store.{from_next}
use Rattle.mold_rule.specs.declared.refusal.Refusal.TheVariants.{Malformed, WrongSession}
use Rattle.mold_receiver.specs.View.{IsWellFormed, View}
use Rattle.mold_receiver.specs.Wanted.{IsGap, gap_end, wanted}
use Rattle.mold_rule.specs.declared.refusal.Refusal.{Refusal}
use Rattle.mold_session.specs.Answer.{IsPlan, PlanState, answer, plan_for, planned}
use Rattle.mold_session.specs.Server.{IsAnswerable, checked_request}
use Rattle.mold_session.specs.declared.error.AnswerError.{AnswerError}
use Rattle.mold_session.specs.Journal.{JournalState, append_refusal}
use Rattle.mold_session.specs.Publisher.{IsPublisher, MayPublish, PublisherState, after_datagram, closed}
use Rattle.mold_session.specs.Publisher.{next_datagram, next_end, next_heartbeat, published}
use Rattle.mold_session.specs.Truthful.{MayAnswer, IsTrueDatagram}
use Rattle.mold_session.specs.declared.error.AppendError.{AppendError}
use Rattle.mold_world.proofs.MachineLemmas.{append_cases, one_alone}
use Rattle.mold_world.proofs.SubscriberLemmas.{ReceiverLaws, given_kept, noise_kept, place_closed, place_published}
use Rattle.mold_world.proofs.SubscriberLemmas.{place_sent, renewed_kept}
use Rattle.mold_world.specs.Event.{Happening}
use Rattle.mold_world.specs.Effect.{Outcome, delivered, effect, is_own, noised, publishing, restarted}
use Rattle.mold_world.specs.Effect.{after_event, after_outcome, answered, asked, asked_for, given, restarted_at, requested, run_events, sending, unsent_count}
use Rattle.mold_world.specs.Effect.{with_subscriber}
use Rattle.mold_world.specs.declared.event.EventOf.TheVariants.{Publish, Datagram, Heartbeat, Close, End, Request, Ask, Deliver, Noise, Restart}
use Rattle.mold_world.specs.Headline.{IsPrefix}
use Rattle.mold_world.specs.Kept.{IsSubscriberKept, IsWorld}
use Rattle.mold_world.specs.World.{SubscriberState, WorldState}
use Rattle.mold_world.specs.declared.report.Report.{Report}
use Rattle.mold_world.specs.declared.report.Report.TheVariants as report
use Rattle.mold_session.specs.declared.error.SessionError.TheVariants as session
use Rattle.mold_world.specs.declared.report.WorldError.{WorldError}
use Rattle.mold_world.specs.declared.report.WorldError.TheVariants.{NotReached, Layer as Refuses}
use Rattle.mold_world.specs.declared.way.Way.{Way}
use Rattle.mold_world.proofs.OutcomeLemmas.{ok_so, err_so}
use Rattle.mold_world.proofs.SettingLemmas.{set_cases}

-- The laws of `mold_session` and `mold_wire`.
pub record SendingLaws : Type 0 where
  pub may : (publisher : PublisherState) (message : List ℕ) → append_refusal publisher.journal message ≡ None →
      MayPublish publisher message
  pub published : (publisher : PublisherState) (message : List ℕ) → IsPublisher publisher →
      MayPublish publisher message → IsPublisher (published publisher message)
  pub sent : (publisher : PublisherState) (packet : Packet) → IsPublisher publisher →
      next_datagram publisher ≡ Some packet → IsPublisher (after_datagram publisher)
  pub closed : (publisher : PublisherState) → IsPublisher publisher →
      publisher.sent ≡ length publisher.journal.messages → IsPublisher (closed publisher)
  pub datagram : (publisher : PublisherState) (packet : Packet) → IsPublisher publisher →
      length publisher.journal.session.0 ≡ 10 → next_datagram publisher ≡ Some packet →
      IsTrueDatagram publisher.journal (spelling_of packet)
  pub heartbeat : (publisher : PublisherState) (packet : Packet) → IsPublisher publisher →
      length publisher.journal.session.0 ≡ 10 → next_heartbeat publisher ≡ Some packet →
      IsTrueDatagram publisher.journal (spelling_of packet)
  pub end : (publisher : PublisherState) (packet : Packet) → IsPublisher publisher →
      length publisher.journal.session.0 ≡ 10 → next_end publisher ≡ Some packet →
      IsTrueDatagram publisher.journal (spelling_of packet)
  pub grows : (packet : Packet) (published : List (List ℕ)) (message : List ℕ) →
      length published < 18446744073709551614 → IsTruePacket packet published false →
      IsTruePacket packet (published ++ message ∷ []) false
  pub closes : (packet : Packet) (published : List (List ℕ)) → IsTruePacket packet published false → IsTruePacket packet published true

-- Suppose a publisher with another journal of the same session and the same longest message. If what was sent is true
-- of the new journal, and the receivers stay honest, the world stays valid.
world_with_publisher :
    (w : WorldState) (new : PublisherState) → IsWorld w → IsPublisher new →
    new.journal.session ≡ w.publisher.journal.session → new.journal.max_message ≡ w.publisher.journal.max_message →
    ((packet : Packet) → IsTruePacket packet w.publisher.journal.messages w.publisher.journal.closed →
    IsTruePacket packet new.journal.messages new.journal.closed) →
    ((subscriber : SubscriberState) → IsSubscriberKept w.publisher.journal w.sent subscriber → IsSubscriberKept new.journal w.sent subscriber) →
    IsWorld (record w { publisher = new })
world_with_publisher w new is publisher named longest still kept = record {
  publisher = publisher;
  answers = record {
    journaled = publisher.journaled;
    named = ap (λ (t : Session). length t.0) named ∙ is.answers.named;
    limited = is.answers.limited;
    room = omega (arith, longest, is.answers.room);
  };
  said = λ subscriber bytes found.
      let told = is.said subscriber bytes found in
      record {
        packet = told.packet;
        spelled = told.spelled;
        session = told.session ∙ sym named;
        so = still told.packet told.so;
      };
  subscribers = λ receiver subscriber found. kept subscriber (is.subscribers receiver subscriber found);
}

-- A message is published.
world_published :
    (laws : SendingLaws) (receivers : ReceiverLaws) (w : WorldState) (message : List ℕ) → IsWorld w →
    MayPublish w.publisher message → IsWorld (record w { publisher = published w.publisher message })
world_published laws receivers w message is may =
    let few = is.publisher.journaled.few in
    world_with_publisher w (published w.publisher message) is (laws.published w.publisher message is.publisher may)
    refl refl
    (λ packet so.
    subst (λ (t : Bool). IsTruePacket packet (w.publisher.journal.messages ++ message ∷ []) t) (sym may.unclosed)
    (laws.grows packet w.publisher.journal.messages message (omega (arith, few, may.number))
    (subst (λ (t : Bool). IsTruePacket packet w.publisher.journal.messages t) may.unclosed so)))
    (λ place kept. place_published receivers w.publisher.journal w.sent message place may.unclosed kept)

true_once_closed :
    (laws : SendingLaws) (packet : Packet) (messages : List (List ℕ)) (closed : Bool) → IsTruePacket packet messages closed →
    IsTruePacket packet messages true
true_once_closed laws packet messages true is = is
true_once_closed laws packet messages false is = laws.closes packet messages is

-- The session is closed.
world_closed :
    (laws : SendingLaws) (receivers : ReceiverLaws) (w : WorldState) → IsWorld w →
    w.publisher.sent ≡ length w.publisher.journal.messages → IsWorld (record w { publisher = closed w.publisher })
world_closed laws receivers w is all =
    world_with_publisher w (closed w.publisher) is (laws.closed w.publisher is.publisher all) refl refl
    (λ packet so. true_once_closed laws packet w.publisher.journal.messages w.publisher.journal.closed so)
    (λ subscriber kept. place_closed receivers w.publisher.journal w.sent subscriber kept)

-- True datagrams are sent by a publisher with the same journal.
world_sent :
    (w : WorldState) (publisher : PublisherState) (more : List (List ℕ)) → IsWorld w → IsPublisher publisher →
    publisher.journal ≡ w.publisher.journal →
    ((place : ℕ) (bytes : List ℕ) → slice_get more place ≡ Some bytes → IsTrueDatagram w.publisher.journal bytes) →
    IsWorld (record w { publisher = publisher; sent = w.sent ++ more })
world_sent w publisher more is still same true_all =
    let back = sym same in
    record {
      publisher = still;
      answers = subst (λ (t : JournalState). MayAnswer t w.server_limit) back is.answers;
      said = λ subscriber bytes found.
          subst (λ (t : JournalState). IsTrueDatagram t bytes) back
          (elim (append_cases w.sent more subscriber bytes found) [
            | inl before ↦ is.said subscriber bytes before
            | inr new ↦ true_all new.0 bytes new.2
          ]);
      subscribers = λ receiver subscriber found.
          subst (λ (t : JournalState). IsSubscriberKept t (w.sent ++ more) subscriber) back
          (place_sent w.publisher.journal w.sent more subscriber (is.subscribers receiver subscriber found));
    }

world_with_place :
    (w : WorldState) (receiver : ℕ) (new : SubscriberState) → IsWorld w →
    IsSubscriberKept w.publisher.journal w.sent new → IsWorld (with_subscriber w receiver new)
world_with_place w receiver new is kept = record {
  publisher = is.publisher;
  answers = is.answers;
  said = is.said;
  subscribers = λ other subscriber found.
      elim (set_cases w.subscribers receiver new other subscriber found) [
        | inl here ↦ subst (λ (t : SubscriberState). IsSubscriberKept w.publisher.journal w.sent t) here kept
        | inr there ↦ is.subscribers other subscriber there
      ];
}

-- Two outcomes that are equal have the same world.
ok_world :
    (here done : Report × WorldState) → IsWorld here.1 → ◌≡◌ {A = Outcome} (Ok here) (Ok done) → IsWorld done.1
ok_world here done is same = ok_so (λ (t : Report × WorldState). IsWorld t.1) here done same is

err_world :
    (refused : WorldError) (done : Report × WorldState) → ◌≡◌ {A = Outcome} (Err refused) (Ok done) → IsWorld done.1
err_world refused done same = err_so (λ (t : Report × WorldState). IsWorld t.1) refused done same

publish_kept :
    (laws : SendingLaws) (receivers : ReceiverLaws) (w : WorldState) (message : List ℕ) (refusal : Option AppendError)
    (done : Report × WorldState) → IsWorld w → append_refusal w.publisher.journal message ≡ refusal →
    publishing w message refusal ≡ Ok done → IsWorld done.1
publish_kept laws receivers w message None done is none same =
    ok_world _ done (world_published laws receivers w message is (laws.may w.publisher message none)) same
publish_kept laws receivers w message (Some refusal) done is some same = err_world _ done same

-- The next datagram is true and leaves a publisher with the same journal.
pub record IsSendable (w : WorldState) (publisher : PublisherState) (packet : Packet) : Type 0 where
  pub still : IsPublisher publisher
  pub same : publisher.journal ≡ w.publisher.journal
  pub told : IsTrueDatagram w.publisher.journal (spelling_of packet)

send_kept :
    (w : WorldState) (next : Option Packet) (publisher : PublisherState) (done : Report × WorldState) → IsWorld w →
    ((packet : Packet) → next ≡ Some packet → IsSendable w publisher packet) → sending w next publisher ≡ Ok done →
    IsWorld done.1
send_kept w None publisher done is sendable same = ok_world _ done is same
send_kept w (Some packet) publisher done is sendable same =
    let may = sendable packet refl in
    ok_world _ done (world_sent w publisher (spelling_of packet ∷ []) is may.still may.same (λ place bytes found.
    subst (λ (t : List ℕ). IsTrueDatagram w.publisher.journal t) (one_alone (spelling_of packet) bytes place found)
    may.told)) same

close_kept :
    (laws : SendingLaws) (receivers : ReceiverLaws) (w : WorldState) (some : Bool) (done : Report × WorldState) →
    IsWorld w → ltb 0 (unsent_count w.publisher) ≡ some →
    cond {A = Outcome} some (Err (Refuses (session.Close (record { count = unsent_count w.publisher }))))
    (Ok (report.Closed, record w { publisher = closed w.publisher })) ≡ Ok done → IsWorld done.1
close_kept laws receivers w true done is unsent same = err_world _ done same
close_kept laws receivers w false done is none same =
    ok_world _ done (world_closed laws receivers w is
    (omega (arith, ltb-false 0 (unsent_count w.publisher) none, is.publisher.published))) same

deliver_kept :
    (receivers : ReceiverLaws) (w : WorldState) (receiver at : ℕ) (way : Way) (subscriber : Option SubscriberState)
    (datagram : Option (List ℕ)) (done : Report × WorldState) → IsWorld w → slice_get w.subscribers receiver ≡ subscriber →
    slice_get w.sent at ≡ datagram → delivered w receiver way subscriber datagram ≡ Ok done → IsWorld done.1
deliver_kept receivers w receiver at way None datagram done is here sent same = err_world _ done same
deliver_kept receivers w receiver at way (Some subscriber) None done is here sent same = err_world _ done same
deliver_kept receivers w receiver at way (Some subscriber) (Some bytes) done is here sent same =
    ok_world _ done (world_with_place w receiver (given subscriber way bytes) is
    (given_kept receivers w.publisher.journal w.sent subscriber way bytes (is.subscribers receiver subscriber here)
    (record { place = at; found = sent; told = is.said at bytes sent }))) same

-- Bytes that are not a packet of the session are refused.
pub not_own :
    (view : View) (own : Session) (read : Result Packet DecodeError) → view.session ≡ own → is_own own read ≡ false →
    (refused : Refusal) × (receive_read view read ≡ Err refused)
not_own view own (Err error) same other = (Malformed error, refl)
not_own view own (Ok packet) same other =
    let differs : bytes_eq packet.session.0 view.session.0 ≡ false =
    ap (λ (t : Session). bytes_eq packet.session.0 t.0) same ∙ other
    in (
      WrongSession,
      ap (λ (t : Bool). decide (first_some (refuse_if (not t) WrongSession
          ∷ sequence_zero packet
          ∷ past_last packet
          ∷ end_conflict packet.body packet.sequence view.ended
          ∷ end_below packet.body packet.sequence view.known
          ∷ past_end view.ended packet.body (top_of packet)
          ∷ conflict_at (first_conflict view.store (from_next view.next packet.sequence (messages_of packet.body)))
          ∷ [])) (reception view packet)) differs,
    )

noise_given :
    (w : WorldState) (receiver : ℕ) (way : Way) (bytes : List ℕ) (subscriber : Option SubscriberState) (own : Bool)
    (done : Report × WorldState) → IsWorld w → slice_get w.subscribers receiver ≡ subscriber →
    is_own w.publisher.journal.session (reading bytes) ≡ own → noised w receiver way bytes subscriber own ≡ Ok done →
    IsWorld done.1
noise_given w receiver way bytes None own done is here mine same = err_world _ done same
noise_given w receiver way bytes (Some subscriber) true done is here mine same = err_world _ done same
noise_given w receiver way bytes (Some subscriber) false done is here mine same =
    let kept = is.subscribers receiver subscriber here in
    let refused = not_own subscriber.arbitration.view w.publisher.journal.session (reading bytes) kept.session mine in
    ok_world _ done (world_with_place w receiver (given subscriber way bytes) is
    (noise_kept w.publisher.journal w.sent subscriber way bytes refused.0 refused.1 kept)) same

restart_given :
    (receivers : ReceiverLaws) (w : WorldState) (receiver next : ℕ) (subscriber : SubscriberState) (reached : Bool)
    (done : Report × WorldState) → IsWorld w → slice_get w.subscribers receiver ≡ Some subscriber →
    (leb 1 next && leb next subscriber.arbitration.view.next) ≡ reached →
    cond {A = Outcome} reached (Ok (report.Restarted next, with_subscriber w receiver (restarted_at subscriber next)))
    (Err (NotReached subscriber.arbitration.view.next)) ≡ Ok done → IsWorld done.1
restart_given receivers w receiver next subscriber false done is here reached same = err_world _ done same
restart_given receivers w receiver next subscriber true done is here reached same =
    let both = and_parts (leb 1 next) (leb next subscriber.arbitration.view.next) reached in
    ok_world _ done (world_with_place w receiver (restarted_at subscriber next) is
    (renewed_kept receivers w.publisher.journal w.sent subscriber next is.publisher.journaled.few (leb-true 1 next both.0)
    (leb-true next subscriber.arbitration.view.next both.1) (is.subscribers receiver subscriber here))) same

restart_kept :
    (receivers : ReceiverLaws) (w : WorldState) (receiver next : ℕ) (subscriber : Option SubscriberState)
    (done : Report × WorldState) → IsWorld w → slice_get w.subscribers receiver ≡ subscriber →
    restarted w receiver next subscriber ≡ Ok done → IsWorld done.1
restart_kept receivers w receiver next None done is here same = err_world _ done same
restart_kept receivers w receiver next (Some subscriber) done is here same =
    restart_given receivers w receiver next subscriber (leb 1 next && leb next subscriber.arbitration.view.next) done is here refl
    same

-- The laws on responses and requests.
pub record AnswerLaws : Type 0 where
  pub answerable : (journal : JournalState) (request : Asked) (bytes : List ℕ) → checked_request journal bytes ≡ Ok request →
      IsAnswerable journal request
  pub plan : (journal : JournalState) (burst : ℕ) (request : Asked) → IsAnswerable journal request →
      IsPlan (plan_for journal burst request)
  pub within : (journal : JournalState) (burst : ℕ) (request : Asked) →
      (plan_for journal burst request).to ≤ length journal.messages + 1
  pub answer_is : (journal : JournalState) (limit burst : ℕ) (request : Asked) → IsAnswerable journal request →
      planned journal.messages limit (plan_for journal burst request)
      ≡ answer journal.messages journal.session limit request.sequence request.count burst
  pub told : (journal : JournalState) (limit : ℕ) (plan : PlanState) (place : ℕ) (packet : Packet) →
      MayAnswer journal limit → IsPlan plan → plan.to ≤ length journal.messages + 1 → plan.session ≡ journal.session →
      slice_get (planned journal.messages limit plan) place ≡ Some packet → IsTrueDatagram journal (spelling_of packet)
  pub asks : (view : View) (request : Asked) → wanted view ≡ Some request →
      (request.session ≡ view.session) × (request.sequence ≡ view.next)
      × (request.count ≡ min 65534 (gap_end view - view.next))
  pub gap : (view : View) (request : Asked) → IsWellFormed view → wanted view ≡ Some request →
      IsGap view (gap_end view)

map_cases :
    (packets : List Packet) (place : ℕ) (bytes : List ℕ) → slice_get (map spelling_of packets) place ≡ Some bytes →
    (packet : Packet) × (slice_get packets place ≡ Some packet) × (spelling_of packet ≡ bytes)
map_cases [] place bytes is = absurd (none-some bytes is)
map_cases (packet ∷ packets) zero bytes is = (packet, refl, same_Some (spelling_of packet) bytes is)
map_cases (packet ∷ packets) (suc place) bytes is = map_cases packets place bytes is

-- Every response is true.
pub answer_told :
    (answers : AnswerLaws) (w : WorldState) (request : Asked) → IsWorld w →
    IsAnswerable w.publisher.journal request → (place : ℕ) (bytes : List ℕ) →
    slice_get (map spelling_of (answer w.publisher.journal.messages w.publisher.journal.session w.server_limit
    request.sequence request.count w.burst)) place ≡ Some bytes → IsTrueDatagram w.publisher.journal bytes
answer_told answers w request is may place bytes found =
    let journal : JournalState = w.publisher.journal in
    let packets : List Packet =
    answer journal.messages journal.session w.server_limit request.sequence request.count w.burst
    in
    let here = map_cases packets place bytes found in
    subst (λ (t : List ℕ). IsTrueDatagram journal t) here.2
    (answers.told journal w.server_limit (plan_for journal w.burst request) place here.0 is.answers
    (answers.plan journal w.burst request may) (answers.within journal w.burst request) refl
    (ap (λ (t : List Packet). slice_get t place) (answers.answer_is journal w.server_limit w.burst request may)
    ∙ here.1))

-- The responses to a request are sent.
answer_kept :
    (answers : AnswerLaws) (w : WorldState) (request : Asked) (done : Report × WorldState) → IsWorld w →
    IsAnswerable w.publisher.journal request → answered w request ≡ Ok done → IsWorld done.1
answer_kept answers w request done is may same =
    ok_world _ done (world_sent w w.publisher (map spelling_of (answer w.publisher.journal.messages
    w.publisher.journal.session w.server_limit request.sequence request.count w.burst)) is is.publisher refl
    (answer_told answers w request is may)) same

request_kept :
    (answers : AnswerLaws) (w : WorldState) (bytes : List ℕ) (asks : Result Asked AnswerError)
    (done : Report × WorldState) → IsWorld w → checked_request w.publisher.journal bytes ≡ asks →
    requested w asks ≡ Ok done → IsWorld done.1
request_kept answers w bytes (Ok request) done is asked_now same =
    answer_kept answers w request done is (answers.answerable w.publisher.journal request bytes asked_now) same
request_kept answers w bytes (Err refusal) done is asked_now same = err_world _ done same

-- The journal has what a receiver of the world wants.
pub wanted_answerable :
    (answers : AnswerLaws) (journal : JournalState) (sent : List (List ℕ)) (subscriber : SubscriberState) (request : Asked) →
    IsSubscriberKept journal sent subscriber → wanted subscriber.arbitration.view ≡ Some request → IsAnswerable journal request
wanted_answerable answers journal sent subscriber request kept want =
    let view : View = subscriber.arbitration.view in
    let asks = answers.asks view request want in
    let gap = answers.gap view request kept.honest.well_formed want in
    record {
      session = asks.0 ∙ kept.session;
      first = omega (arith, asks.1, kept.honest.well_formed.first);
      last = omega (arith, asks.1, gap.after, gap.within, kept.honest.known);
      count = omega (arith, asks.2, gap.after);
    }

ask_wanted :
    (answers : AnswerLaws) (w : WorldState) (subscriber : SubscriberState) (want : Option Asked) (done : Report × WorldState) →
    IsWorld w → IsSubscriberKept w.publisher.journal w.sent subscriber → wanted subscriber.arbitration.view ≡ want →
    asked_for w want ≡ Ok done → IsWorld done.1
ask_wanted answers w subscriber None done is kept want same = ok_world _ done is same
ask_wanted answers w subscriber (Some request) done is kept want same =
    answer_kept answers w request done is (wanted_answerable answers w.publisher.journal w.sent subscriber request kept want)
    same

ask_kept :
    (answers : AnswerLaws) (w : WorldState) (receiver : ℕ) (subscriber : Option SubscriberState) (done : Report × WorldState) →
    IsWorld w → slice_get w.subscribers receiver ≡ subscriber → asked w subscriber ≡ Ok done → IsWorld done.1
ask_kept answers w receiver None done is here same = err_world _ done same
ask_kept answers w receiver (Some subscriber) done is here same =
    ask_wanted answers w subscriber (wanted subscriber.arbitration.view) done is (is.subscribers receiver subscriber here) refl same

pub record AllLaws : Type 0 where
  pub sending : SendingLaws
  pub receivers : ReceiverLaws
  pub answers : AnswerLaws

-- Every event that is not refused.
pub event_kept :
    (laws : AllLaws) (w : WorldState) (happening : Happening) (done : Report × WorldState) → IsWorld w →
    effect w happening ≡ Ok done → IsWorld done.1
unfolding effect
event_kept laws w (Publish message) done is same =
    publish_kept laws.sending laws.receivers w message (append_refusal w.publisher.journal message) done is refl same
event_kept laws w Datagram done is same =
    send_kept w (next_datagram w.publisher) (after_datagram w.publisher) done is (λ packet next. record {
      still = laws.sending.sent w.publisher packet is.publisher next;
      same = refl;
      told = laws.sending.datagram w.publisher packet is.publisher is.answers.named next;
    }) same
event_kept laws w Heartbeat done is same =
    send_kept w (next_heartbeat w.publisher) w.publisher done is (λ packet next. record {
      still = is.publisher;
      same = refl;
      told = laws.sending.heartbeat w.publisher packet is.publisher is.answers.named next;
    }) same
event_kept laws w Close done is same =
    close_kept laws.sending laws.receivers w (ltb 0 (unsent_count w.publisher)) done is refl same
event_kept laws w End done is same =
    send_kept w (next_end w.publisher) w.publisher done is (λ packet next. record {
      still = is.publisher;
      same = refl;
      told = laws.sending.end w.publisher packet is.publisher is.answers.named next;
    }) same
event_kept laws w (Request bytes) done is same =
    request_kept laws.answers w bytes (checked_request w.publisher.journal bytes) done is refl same
event_kept laws w (Ask receiver) done is same =
    ask_kept laws.answers w receiver (slice_get w.subscribers receiver) done is refl same
event_kept laws w (Deliver receiver way at) done is same =
    deliver_kept laws.receivers w receiver at way (slice_get w.subscribers receiver) (slice_get w.sent at) done is refl refl
    same
event_kept laws w (Noise receiver way bytes) done is same =
    noise_given w receiver way bytes (slice_get w.subscribers receiver)
    (is_own w.publisher.journal.session (reading bytes)) done is refl refl same
event_kept laws w (Restart receiver next) done is same =
    restart_kept laws.receivers w receiver next (slice_get w.subscribers receiver) done is refl same

pub outcome_kept :
    (laws : AllLaws) (w : WorldState) (outcome : Outcome) → IsWorld w →
    ((done : Report × WorldState) → outcome ≡ Ok done → IsWorld done.1) → IsWorld (after_outcome w outcome)
outcome_kept laws w (Ok done) is kept = kept done refl
outcome_kept laws w (Err refused) is kept = is

-- Every list of events, with refused ones among them.
pub run_kept :
    (laws : AllLaws) (w : WorldState) (happenings : List Happening) → IsWorld w → IsWorld (run_events w happenings)
run_kept laws w [] is = is
run_kept laws w (happening ∷ happenings) is =
    run_kept laws (after_event w happening) happenings
    (outcome_kept laws w (effect w happening) is (λ done same. event_kept laws w happening done is same))

-- Each book is a prefix of the published messages.
pub world_books :
    (w : WorldState) (receiver : ℕ) (subscriber : SubscriberState) → IsWorld w → slice_get w.subscribers receiver ≡ Some subscriber →
    IsPrefix subscriber.book.messages w.publisher.journal.messages
world_books w receiver subscriber is here =
    let kept = is.subscribers receiver subscriber here in
    let front : ℕ = subscriber.arbitration.view.next - 1 in
    record {
      behind = drop front w.publisher.journal.messages;
      parts = sym (take-append-drop front w.publisher.journal.messages)
          ∙ ap (λ (t : List (List ℕ)). t ++ drop front w.publisher.journal.messages) (sym kept.book);
    }

-- If the receiver is finished, its book is all of them.
pub world_whole :
    (w : WorldState) (receiver : ℕ) (subscriber : SubscriberState) → IsWorld w → slice_get w.subscribers receiver ≡ Some subscriber →
    subscriber.arbitration.view.ended ≡ Some subscriber.arbitration.view.next →
    (w.publisher.journal.closed ≡ true) × (subscriber.book.messages ≡ w.publisher.journal.messages)
world_whole w receiver subscriber is here finished =
    let kept = is.subscribers receiver subscriber here in
    let end = kept.honest.ends subscriber.arbitration.view.next finished in
    (end.0, kept.book ∙ take_all (subscriber.arbitration.view.next - 1) w.publisher.journal.messages (omega (arith, end.1)))
