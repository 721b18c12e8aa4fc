-- What may happen to a durable journal, and which of its messages outlive a crash.
use Rattle.std.specs.Prelude.{◌≡◌, ◌⊎◌, ℕ, ◌+◌, ◌<◌, Bool, true, false, List, [], ◌∷◌, ◌++◌, length}
use Rattle.mold_wire.specs.declared.session.Session.{Session}
use Rattle.mold_session.specs.Journal.{JournalState}
use Rattle.mold_session.specs.Records.{SpellsJournal3}
use Rattle.mold_session.specs.declared.journal.TheConstants.{MAX_MESSAGES}
use Rattle.mold_durable.specs.DurableJournal.{DurableState, IsSettled}

-- The state of a journal at one time of its life. A crash loses the messages that wait, and nothing else.
pub record Life : Type 0 where
  pub session : Session
  pub committed : List (List ℕ)
  -- whether the closing record is committed
  pub closed : Bool
  pub waiting : List (List ℕ)

-- What may happen to a journal. A crash during a commit or a close counts as a crash after it, or as a crash without
-- it.
pub data Moment : Type 0 where
  -- A message joins those that wait.
  Append : List ℕ → Moment
  -- The waiting messages are committed.
  Commit : Moment
  -- The waiting messages and the closing record are committed.
  Close : Moment
  -- The process dies, and the journal is opened again.
  Crash : Moment

-- The life of a new journal.
abbrev pub born : Session → Life
born session = record { session = session; committed = []; closed = false; waiting = [] }

-- The life after something has happened.
abbrev pub after : Life → Moment → Life
after life (Append message) = record life { waiting = life.waiting ++ message ∷ [] }
after life Commit = record life { committed = life.committed ++ life.waiting; waiting = [] }
after life Close = record life { committed = life.committed ++ life.waiting; closed = true; waiting = [] }
after life Crash = record life { waiting = [] }

-- A message is appended only to an open journal with a number left. Everything else may happen at any time.
abbrev pub MayHappen : Life → Moment → Type 0
MayHappen life (Append message) =
    (life.closed ≡ false) × (length life.committed + length life.waiting < MAX_MESSAGES)
MayHappen life Commit = Unit {0}
MayHappen life Close = Unit {0}
MayHappen life Crash = Unit {0}

-- The journal in memory that has the committed messages. Each of them has at most `max_message` bytes.
abbrev pub journal_of : ℕ → Life → JournalState
journal_of max_message life = record {
  session = life.session;
  max_message = max_message;
  messages = life.committed;
  closed = life.closed;
}

-- The bytes are a file of the committed messages.
abbrev pub IsFileOf : Life → List ℕ → Type 0
IsFileOf life bytes = SpellsJournal3 life.session life.committed life.closed bytes

-- The bytes are a file of the life before something happens or after it.
abbrev pub IsFileAround : Life → Moment → List ℕ → Type 0
IsFileAround life moment bytes = IsFileOf life bytes ⊎ IsFileOf (after life moment) bytes

-- The journal has this life.
pub record Lives {S : Type 0} (shows may_leave : S → List ℕ → Type 0) (journal : DurableState S) (life : Life) :
    Type 0 where
  pub settled : IsSettled shows may_leave journal life.committed
  pub session : life.session ≡ journal.session
  pub closed : life.closed ≡ journal.closed
  pub waiting : life.waiting ≡ journal.waiting
