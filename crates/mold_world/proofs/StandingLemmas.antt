-- What the machine knows of a world: its receivers after one was replaced, and its start.
use Rattle.std.proofs.Common.{◌≡◌, ℕ, zero, suc, ◌+◌, ◌-◌, List, [], ◌∷◌, length, map}
use Rattle.std.proofs.Common.{refl, sym, ap, ◌∙◌, inl, inr, arith}
use Rattle.std.specs.Prelude.{◌==◌, Option, None, Some, true, false, slice_get, slice_set}
use Rattle.std.proofs.lemmas.Bool.{cond-false, cond-true, cases_eq, eq-eqb, eqb-true, false≢true, ne_eqb}
use Rattle.std.proofs.lemmas.List.{length-take}
use Rattle.mold_session.specs.Journal.{JournalState}
use Rattle.mold_world.specs.Effect.{with_subscriber}
use Rattle.mold_world.specs.Kept.{IsSubscriberKept}
use Rattle.mold_world.specs.Machine.{ReceiverLog, with_log}
use Rattle.mold_world.specs.Machine.{start}
use Rattle.mold_world.specs.Steps.{is_end, machine_of, log_of}
use Rattle.mold_wire.specs.declared.session.Session.{Session}
use Rattle.mold_world.specs.World.{SubscriberState, WorldState, beginning, subscriber_at}
use Rattle.mold_world.proofs.SettingLemmas.{set_here, set_elsewhere}

pub stands_at :
    (w : WorldState) (receiver : ℕ) (old new : SubscriberState) (log : ReceiverLog) →
    slice_get w.subscribers receiver ≡ Some old → log_of (Some new) ≡ log → (other : ℕ) →
    log_of (slice_get (slice_set w.subscribers receiver new) other)
    ≡ with_log (λ (q : ℕ). log_of (slice_get w.subscribers q)) receiver log other
stands_at w receiver old new log here same other =
    elim (cases_eq other receiver) [
      | inl is ↦
          ap (λ (t : ℕ). log_of (slice_get (slice_set w.subscribers receiver new) t)) is
          ∙ ap log_of (set_here w.subscribers receiver new old here)
          ∙ same
          ∙ sym (cond-true (other == receiver) log (log_of (slice_get w.subscribers other)) (eq-eqb other receiver is))
      | inr differs ↦
          ap log_of (set_elsewhere w.subscribers receiver new other differs)
          ∙ sym (cond-false (other == receiver) log (log_of (slice_get w.subscribers other)) (ne_eqb other receiver differs))
    ]

pub machine_with :
    (w : WorldState) (receiver : ℕ) (old new : SubscriberState) (log : ReceiverLog) →
    slice_get w.subscribers receiver ≡ Some old → log_of (Some new) ≡ log →
    machine_of (with_subscriber w receiver new)
    ≡ record (machine_of w) { logs = with_log (machine_of w).logs receiver log }
machine_with w receiver old new log here same =
    λ i. record {
      session = w.publisher.journal.session;
      published = w.publisher.journal.messages;
      closed = w.publisher.journal.closed;
      sent = w.sent;
      logs = λ other. stands_at w receiver old new log here same other i;
    }

pub end_is : (ended : Option ℕ) (next : ℕ) → is_end ended next ≡ true → ended ≡ Some next
end_is None next is = absurd (false≢true is)
end_is (Some end) next is = ap (λ (t : ℕ). Some t) (eqb-true end next is)

pub stands_same :
    (w : WorldState) (receiver : ℕ) (subscriber : SubscriberState) → slice_get w.subscribers receiver ≡ Some subscriber → (other : ℕ) →
    with_log (λ (q : ℕ). log_of (slice_get w.subscribers q)) receiver (log_of (Some subscriber)) other
    ≡ log_of (slice_get w.subscribers other)
stands_same w receiver subscriber here other =
    elim (cases_eq other receiver) [
      | inl is ↦
          cond-true (other == receiver) (log_of (Some subscriber)) (log_of (slice_get w.subscribers other))
          (eq-eqb other receiver is)
          ∙ sym (ap log_of (ap (λ (t : ℕ). slice_get w.subscribers t) is ∙ here))
      | inr differs ↦
          cond-false (other == receiver) (log_of (Some subscriber)) (log_of (slice_get w.subscribers other))
          (ne_eqb other receiver differs)
    ]

-- The length of a book.
pub book_length :
    (journal : JournalState) (sent : List (List ℕ)) (subscriber : SubscriberState) → IsSubscriberKept journal sent subscriber →
    length subscriber.book.messages + 1 ≡ subscriber.arbitration.view.next
book_length journal sent subscriber kept =
    omega (
      arith,
      ap (λ (t : List (List ℕ)). length t) kept.book,
      length-take (subscriber.arbitration.view.next - 1) journal.messages,
      kept.honest.well_formed.first,
      kept.honest.well_formed.ahead,
      kept.honest.known,
    )

-- At the start no receiver has delivered anything.
empty_standing :
    (session_name : Session) (windows : List ℕ) (receiver : ℕ) →
    log_of (slice_get (map (subscriber_at session_name) windows) receiver) ≡ record { book = []; ended = false }
empty_standing session_name [] receiver = refl
empty_standing session_name (window ∷ windows) zero = refl
empty_standing session_name (window ∷ windows) (suc receiver) = empty_standing session_name windows receiver

pub begins_as_machine :
    (session_name : Session) (limit server_limit burst : ℕ) (windows : List ℕ) →
    machine_of (beginning session_name limit server_limit burst windows) ≡ start session_name
begins_as_machine session_name limit server_limit burst windows =
    λ i. record {
      session = session_name;
      published = [];
      closed = false;
      sent = [];
      logs = λ receiver. empty_standing session_name windows receiver i;
    }
