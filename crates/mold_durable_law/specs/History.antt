-- A session whose publisher keeps a durable journal: the moments of the journal, and all other steps.
use Rattle.std.specs.Prelude.{ℕ, ◌+◌, List, [], ◌∷◌, ◌++◌, map}
use Rattle.mold_durable.specs.Life.{Life, MayHappen as MayHappenTo, Moment, after as after_moment}
use Rattle.mold_durable.specs.Life.Moment.{Append, Close as CloseJournal, Commit, Crash}
use Rattle.mold_wire.specs.declared.session.Session.{Session}
use Rattle.mold_world.specs.Machine.{IsAllowed, Machine, Step, after as after_step, start}
use Rattle.mold_world.specs.Machine.Step.{Close, Deliver, Nothing, Publish, Restart, Send}

-- The machine of one session, and the messages that wait in its publisher's journal. The published messages are those
-- that are committed.
pub record History : Type 0 where
  pub machine : Machine
  pub waiting : List (List ℕ)

-- The history of a new session.
abbrev pub begun : Session → History
begun session = record { machine = start session; waiting = [] }

-- The life of the publisher's journal.
abbrev pub life_of : History → Life
life_of history = record {
  session = history.machine.session;
  committed = history.machine.published;
  closed = history.machine.closed;
  waiting = history.waiting;
}

-- What may happen in a session.
pub data Event : Type 0 where
  -- Something happens to the publisher's journal.
  Writes : Moment → Event
  -- The publisher or a server sends a datagram, or something happens to a datagram or a receiver.
  Other : Step → Event

-- The step is neither a publication nor the closing of the session.
abbrev pub IsOther : Step → Type 0
IsOther (Publish message) = ⊥
IsOther Close = ⊥
IsOther (Send bytes) = Unit {0}
IsOther (Deliver receiver messages ended) = Unit {0}
IsOther (Restart receiver next) = Unit {0}
IsOther Nothing = Unit {0}

-- The event may happen now.
abbrev pub MayHappen : History → Event → Type 0
MayHappen history (Writes moment) = MayHappenTo (life_of history) moment
MayHappen history (Other step) = IsOther step × IsAllowed history.machine step

-- The machine whose journal has this life.
abbrev pub with_life : Machine → Life → Machine
with_life machine life = record machine { published = life.committed; closed = life.closed }

-- The history after an event.
abbrev pub after_event : History → Event → History
after_event history (Writes moment) = record {
  machine = with_life history.machine (after_moment (life_of history) moment);
  waiting = (after_moment (life_of history) moment).waiting;
}
after_event history (Other step) = record history { machine = after_step history.machine step }

-- The machine's steps in an event. A commit publishes the messages that wait. A crash is not a step.
abbrev pub steps_of : History → Event → List Step
steps_of history (Writes (Append message)) = []
steps_of history (Writes Commit) = map Publish history.waiting
steps_of history (Writes CloseJournal) = map Publish history.waiting ++ Close ∷ []
steps_of history (Writes Crash) = []
steps_of history (Other step) = step ∷ []

-- Each event may happen after those before it.
abbrev pub AllMayHappen : History → List Event → Type 0
AllMayHappen history [] = Unit {0}
AllMayHappen history (event ∷ events) = MayHappen history event × AllMayHappen (after_event history event) events

-- The history after the events, in order.
abbrev pub after_all : History → List Event → History
after_all history [] = history
after_all history (event ∷ events) = after_all (after_event history event) events

-- The machine's steps in all events.
abbrev pub all_steps : History → List Event → List Step
all_steps history [] = []
all_steps history (event ∷ events) = steps_of history event ++ all_steps (after_event history event) events
