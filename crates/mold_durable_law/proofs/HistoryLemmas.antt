-- A history is a run of the machine.
use Rattle.std.proofs.Common.{◌≡◌, ℕ, ◌+◌, ◌<◌, Bool, true, false, List, [], ◌∷◌, ◌++◌, length}
use Rattle.std.proofs.Common.{refl, sym, ap, subst, ◌∙◌, arith, length-append, append_assoc}
use Rattle.std.specs.Prelude.{map}
use Rattle.std.proofs.lemmas.Bool.{false≢true}
use Rattle.std.proofs.lemmas.List.{append-nil}
use Rattle.mold_durable.specs.Life.{Moment, after as after_moment}
use Rattle.mold_durable.specs.Life.Moment.{Append, Close as CloseJournal, Commit, Crash}
use Rattle.mold_durable_law.specs.History.{AllMayHappen, Event, History, MayHappen, after_all, after_event, all_steps}
use Rattle.mold_durable_law.specs.History.{IsOther, begun, life_of, steps_of}
use Rattle.mold_durable_law.specs.History.Event.{Other, Writes}
use Rattle.mold_wire.specs.declared.session.Session.{Session}
use Rattle.mold_world.specs.Machine.{AreAllowed, Machine, Step, after, run}
use Rattle.mold_world.specs.Machine.Step.{Close, Deliver, Nothing, Publish, Restart, Send}
use Rattle.mold_session.specs.declared.journal.TheConstants.{MAX_MESSAGES}

-- The messages that wait have numbers left, and none waits once the session is closed.
pub record IsHistory (history : History) : Type 0 where
  pub few : 0 < length history.waiting → length history.machine.published + length history.waiting < MAX_MESSAGES + 1
  pub none : history.machine.closed ≡ true → history.waiting ≡ []

-- The machine after two lists of steps.
run_joined : (machine : Machine) (front back : List Step) → run machine (front ++ back) ≡ run (run machine front) back
run_joined machine [] back = refl
run_joined machine (step ∷ front) back = run_joined (after machine step) front back

allowed_joined :
    (machine : Machine) (front back : List Step) → AreAllowed machine front → AreAllowed (run machine front) back →
    AreAllowed machine (front ++ back)
allowed_joined machine [] back front_may back_may = back_may
allowed_joined machine (step ∷ front) back front_may back_may =
    (front_may.0, allowed_joined (after machine step) front back front_may.1 back_may)

-- The machine after messages are published.
published_run :
    (machine : Machine) (messages : List (List ℕ)) →
    run machine (map Publish messages) ≡ record machine { published = machine.published ++ messages }
published_run machine [] = ap (λ (p : List (List ℕ)). record machine { published = p }) (sym (append-nil machine.published))
published_run machine (message ∷ messages) =
    published_run (after machine (Publish message)) messages
    ∙ ap (λ (p : List (List ℕ)). record machine { published = p }) (append_assoc machine.published (message ∷ []) messages)

published_allowed :
    (machine : Machine) (messages : List (List ℕ)) → machine.closed ≡ false →
    length machine.published + length messages < MAX_MESSAGES + 1 → AreAllowed machine (map Publish messages)
published_allowed machine [] unclosed few = tt
published_allowed machine (message ∷ messages) unclosed few = (
  (unclosed, omega (arith, few)),
  published_allowed (after machine (Publish message)) messages unclosed
      (omega (arith, few, length-append machine.published (message ∷ []))),
)

waiting_cases :
    (machine : Machine) (closed : Bool) (waiting : List (List ℕ)) → machine.closed ≡ closed →
    (machine.closed ≡ true → waiting ≡ []) →
    (0 < length waiting → length machine.published + length waiting < MAX_MESSAGES + 1) →
    AreAllowed machine (map Publish waiting)
waiting_cases machine true waiting is_closed none few =
    subst (λ (w : List (List ℕ)). AreAllowed machine (map Publish w)) (sym (none is_closed)) tt
waiting_cases machine false [] is_closed none few = tt
waiting_cases machine false (message ∷ messages) is_closed none few =
    published_allowed machine (message ∷ messages) is_closed (few (omega arith))

-- The messages that wait may be published.
waiting_allowed :
    (history : History) → IsHistory history → AreAllowed history.machine (map Publish history.waiting)
waiting_allowed history is = waiting_cases history.machine history.machine.closed history.waiting refl is.none is.few

-- The machine's steps in an event lead to the history after it.
event_run :
    (history : History) (event : Event) →
    run history.machine (steps_of history event) ≡ (after_event history event).machine
event_run history (Writes (Append message)) = refl
event_run history (Writes Commit) = published_run history.machine history.waiting
event_run history (Writes CloseJournal) =
    run_joined history.machine (map Publish history.waiting) (Close ∷ [])
    ∙ ap (λ (m : Machine). record m { closed = true }) (published_run history.machine history.waiting)
event_run history (Writes Crash) = refl
event_run history (Other step) = refl

event_allowed :
    (history : History) (event : Event) → IsHistory history → MayHappen history event →
    AreAllowed history.machine (steps_of history event)
event_allowed history (Writes (Append message)) is may = tt
event_allowed history (Writes Commit) is may = waiting_allowed history is
event_allowed history (Writes CloseJournal) is may =
    allowed_joined history.machine (map Publish history.waiting) (Close ∷ []) (waiting_allowed history is) (tt, tt)
event_allowed history (Writes Crash) is may = tt
event_allowed history (Other step) is may = (may.1, tt)

-- What holds of a history holds after each event.
history_after_step :
    (machine : Machine) (step : Step) (waiting : List (List ℕ)) → IsOther step →
    IsHistory (record { machine = machine; waiting = waiting }) →
    IsHistory (record { machine = after machine step; waiting = waiting })
history_after_step machine (Publish message) waiting other is = absurd other
history_after_step machine Close waiting other is = absurd other
history_after_step machine (Send bytes) waiting other is = record { few = is.few; none = is.none }
history_after_step machine (Deliver receiver messages ended) waiting other is = record { few = is.few; none = is.none }
history_after_step machine (Restart receiver next) waiting other is = record { few = is.few; none = is.none }
history_after_step machine Nothing waiting other is = record { few = is.few; none = is.none }

history_after :
    (history : History) (event : Event) → IsHistory history → MayHappen history event →
    IsHistory (after_event history event)
history_after history (Writes (Append message)) is may = record {
  few = λ some. omega (arith, may.1, length-append history.waiting (message ∷ []));
  none = λ closed. absurd (false≢true (sym may.0 ∙ closed));
}
history_after history (Writes Commit) is may = record { few = λ some. omega (arith, some); none = λ closed. refl }
history_after history (Writes CloseJournal) is may = record { few = λ some. omega (arith, some); none = λ closed. refl }
history_after history (Writes Crash) is may = record { few = λ some. omega (arith, some); none = λ closed. refl }
history_after history (Other step) is may = history_after_step history.machine step history.waiting may.0 is

-- A history is a run of the machine.
pub all_run :
    (history : History) (events : List Event) →
    (after_all history events).machine ≡ run history.machine (all_steps history events)
all_run history [] = refl
all_run history (event ∷ events) =
    all_run (after_event history event) events
    ∙ ap (λ (m : Machine). run m (all_steps (after_event history event) events)) (sym (event_run history event))
    ∙ sym (run_joined history.machine (steps_of history event) (all_steps (after_event history event) events))

pub all_allowed :
    (history : History) (events : List Event) → IsHistory history → AllMayHappen history events →
    AreAllowed history.machine (all_steps history events)
all_allowed history [] is may = tt
all_allowed history (event ∷ events) is may =
    allowed_joined history.machine (steps_of history event) (all_steps (after_event history event) events)
    (event_allowed history event is may.0)
    (subst (λ (m : Machine). AreAllowed m (all_steps (after_event history event) events)) (sym (event_run history event))
    (all_allowed (after_event history event) events (history_after history event is may.0) may.1))

pub history_begun : (session : Session) → IsHistory (begun session)
history_begun session = record { few = λ some. omega (arith, some); none = λ closed. refl }

-- The session of the journal stays the same.
pub life_moved :
    (history : History) (moment : Moment) →
    life_of (after_event history (Writes moment)) ≡ after_moment (life_of history) moment
life_moved history (Append message) = refl
life_moved history Commit = refl
life_moved history CloseJournal = refl
life_moved history Crash = refl
