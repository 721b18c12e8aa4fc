-- What an event sends, as steps of the machine.
use Rattle.std.proofs.Common.{◌≡◌, ℕ, zero, suc, ◌+◌, ◌-◌, ◌≤◌, List, [], ◌∷◌, ◌++◌, length, map}
use Rattle.std.proofs.Common.{take, refl, sym, ap, ◌∙◌, append_assoc, arith}
use Rattle.std.specs.Prelude.{Option, None, Some, Result, Ok, Err, slice_get}
use Rattle.std.proofs.lemmas.List.{append-nil, length-map, length-take}
use Rattle.mold_wire.specs.Packet.{spelling_of}
use Rattle.mold_wire.specs.declared.packet.Packet.{Packet}
use Rattle.mold_wire.specs.declared.request.Request.{Request as Asked}
use Rattle.mold_receiver.specs.Wanted.{wanted}
use Rattle.mold_session.specs.Answer.{answer, from_number}
use Rattle.mold_session.specs.Datagrams.{packing}
use Rattle.mold_session.specs.Journal.{JournalState}
use Rattle.mold_session.specs.Publisher.{PublisherState, closed}
use Rattle.mold_session.specs.Server.{IsAnswerable, checked_request}
use Rattle.mold_session.specs.Truthful.{IsTrueDatagram}
use Rattle.mold_session.specs.declared.error.AnswerError.{AnswerError}
use Rattle.mold_world.proofs.EventLemmas.{AllLaws, answer_told, wanted_answerable}
use Rattle.mold_world.specs.Event.{Happening}
use Rattle.mold_world.specs.Effect.{answered, asked, asked_for}
use Rattle.mold_world.specs.Effect.{requested, sending}
use Rattle.mold_world.specs.HandOns.{handed_by}
use Rattle.mold_world.specs.Headline.{all_handed}
use Rattle.mold_world.specs.Kept.{IsSubscriberKept, IsWorld}
use Rattle.mold_world.specs.Machine.{AreAllowed, IsSaid, Machine, Step, after, run}
use Rattle.mold_world.specs.Machine.Step.{Send}
use Rattle.mold_world.specs.Steps.{AreSends, AreSteps, Names, machine_of, log_of}
use Rattle.mold_world.specs.World.{SubscriberState, WorldState}
use Rattle.mold_world.specs.declared.report.Report.{Report}
use Rattle.mold_world.proofs.OutcomeLemmas.{ok_so, err_so}

-- At most `most` datagrams were sent.
pub record DidSend (most : ℕ) (w new : WorldState) : Type 0 where
  more : List (List ℕ)
  few : length more ≤ most
  allowed : AreAllowed (machine_of w) (map Send more)
  made : machine_of new ≡ run (machine_of w) (map Send more)

abbrev IsSent : ℕ → WorldState → Report × WorldState → Type 0
IsSent most w done = DidSend most w done.1

-- If nothing is sent, the world is unchanged.
none : (most : ℕ) (w : WorldState) → DidSend most w w
none most w = record { more = []; few = omega arith; allowed = tt; made = refl }

-- Sending delivers nothing.
sends_handed : (machine : Machine) (more : List (List ℕ)) → all_handed machine (map Send more) ≡ []
sends_handed machine [] = refl
sends_handed machine (bytes ∷ more) = sends_handed (after machine (Send bytes)) more

pub sent_steps :
    (w : WorldState) (happening : Happening) (most : ℕ) (done : Report × WorldState) →
    ((steps : List Step) → AreSends most steps → Names w happening steps) → handed_by w happening ≡ [] →
    DidSend most w done.1 → AreSteps w happening done.1
sent_steps w happening most done names nothing sent = record {
  steps = map Send sent.more;
  named = names (map Send sent.more) (record { sent = sent.more; few = sent.few; so = refl });
  allowed = sent.allowed;
  made = sent.made;
  handed = sends_handed (machine_of w) sent.more ∙ sym nothing;
}

-- True datagrams may be sent.
said_of :
    (w : WorldState) (bytes : List ℕ) → IsTrueDatagram w.publisher.journal bytes → IsSaid (machine_of w) bytes
said_of w bytes told =
    record { packet = told.packet; spelled = told.spelled; named = told.session; is_true = told.so }

pub send_steps :
    (w : WorldState) (next : Option Packet) (publisher : PublisherState) (done : Report × WorldState) →
    publisher.journal ≡ w.publisher.journal →
    ((packet : Packet) → next ≡ Some packet → IsTrueDatagram w.publisher.journal (spelling_of packet)) →
    sending w next publisher ≡ Ok done → DidSend 1 w done.1
send_steps w None publisher done journal told same = ok_so (IsSent 1 w) _ done same (none 1 w)
send_steps w (Some packet) publisher done journal told same =
    ok_so (IsSent 1 w) _ done same (record {
      more = spelling_of packet ∷ [];
      few = omega arith;
      allowed = (said_of w (spelling_of packet) (told packet refl), tt);
      made = ap (λ (t : JournalState). record {
        session = t.session;
        published = t.messages;
        closed = t.closed;
        sent = w.sent ++ spelling_of packet ∷ [];
        logs = λ receiver. log_of (slice_get w.subscribers receiver);
      }) journal;
    })

-- Datagrams that are sent one after the other.
sends_allowed :
    (machine : Machine) (more : List (List ℕ)) →
    ((place : ℕ) (bytes : List ℕ) → slice_get more place ≡ Some bytes → IsSaid machine bytes) →
    AreAllowed machine (map Send more)
sends_allowed machine [] said = tt
sends_allowed machine (bytes ∷ more) said = (
  said zero bytes refl,
  sends_allowed (after machine (Send bytes)) more (λ place other found.
      let told = said (suc place) other found in
      record { packet = told.packet; spelled = told.spelled; named = told.named; is_true = told.is_true }),
)

sends_made :
    (machine : Machine) (more : List (List ℕ)) →
    run machine (map Send more) ≡ record machine { sent = machine.sent ++ more }
sends_made machine [] = ap (λ (t : List (List ℕ)). record machine { sent = t }) (sym (append-nil machine.sent))
sends_made machine (bytes ∷ more) =
    sends_made (after machine (Send bytes)) more
    ∙ ap (λ (t : List (List ℕ)). record machine { sent = t }) (append_assoc machine.sent (bytes ∷ []) more)

few_sent : (packets : List Packet) (most : ℕ) → length (map spelling_of (take most packets)) ≤ most
few_sent packets most = omega (arith, length-map (take most packets) spelling_of, length-take most packets)

answer_steps :
    (laws : AllLaws) (w : WorldState) (request : Asked) (done : Report × WorldState) → IsWorld w →
    IsAnswerable w.publisher.journal request → answered w request ≡ Ok done → DidSend w.burst w done.1
answer_steps laws w request done is may same =
    let more : List (List ℕ) = map spelling_of (answer w.publisher.journal.messages w.publisher.journal.session
    w.server_limit request.sequence request.count w.burst)
    in
    ok_so (IsSent w.burst w) _ done same (record {
      more = more;
      few = few_sent (packing w.server_limit w.publisher.journal.session request.sequence
          (take request.count (from_number w.publisher.journal.messages request.sequence))) w.burst;
      allowed = sends_allowed (machine_of w) more (λ place bytes found.
          said_of w bytes (answer_told laws.answers w request is may place bytes found));
      made = sym (sends_made (machine_of w) more);
    })

pub request_steps :
    (laws : AllLaws) (w : WorldState) (bytes : List ℕ) (asks : Result Asked AnswerError)
    (done : Report × WorldState) → IsWorld w → checked_request w.publisher.journal bytes ≡ asks →
    requested w asks ≡ Ok done → DidSend w.burst w done.1
request_steps laws w bytes (Ok request) done is asked_now same =
    answer_steps laws w request done is (laws.answers.answerable w.publisher.journal request bytes asked_now) same
request_steps laws w bytes (Err refusal) done is asked_now same = err_so (IsSent w.burst w) _ done same

want_steps :
    (laws : AllLaws) (w : WorldState) (subscriber : SubscriberState) (want : Option Asked) (done : Report × WorldState) →
    IsWorld w → IsSubscriberKept w.publisher.journal w.sent subscriber → wanted subscriber.arbitration.view ≡ want →
    asked_for w want ≡ Ok done → DidSend w.burst w done.1
want_steps laws w subscriber None done is kept want same = ok_so (IsSent w.burst w) _ done same (none w.burst w)
want_steps laws w subscriber (Some request) done is kept want same =
    answer_steps laws w request done is
    (wanted_answerable laws.answers w.publisher.journal w.sent subscriber request kept want) same

pub ask_steps :
    (laws : AllLaws) (w : WorldState) (receiver : ℕ) (subscriber : Option SubscriberState) (done : Report × WorldState) →
    IsWorld w → slice_get w.subscribers receiver ≡ subscriber → asked w subscriber ≡ Ok done → DidSend w.burst w done.1
ask_steps laws w receiver None done is here same = err_so (IsSent w.burst w) _ done same
ask_steps laws w receiver (Some subscriber) done is here same =
    want_steps laws w subscriber (wanted subscriber.arbitration.view) done is (is.subscribers receiver subscriber here) refl same
