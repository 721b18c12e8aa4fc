-- What a durable journal has after messages were appended to it, and what a crash leaves of them.
use Rattle.std.specs.Prelude.{◌≡◌, ◌⊎◌, ℕ, ◌+◌, true, List, [], ◌++◌, length}
use Rattle.mold_session.specs.Records.{SpellsJournal3}
use Rattle.mold_durable.specs.DurableJournal.{DurableState}
use Rattle.mold_durable.specs.Life.{Life, Lives}
use Rattle.mold_durable.specs.Storage.{LeavesOnly}

-- The bytes are a file of the session. It has the committed messages of this life, and then a prefix of the messages
-- that wait and of `more`.
pub record IsPartFile (life : Life) (more : List (List ℕ)) (bytes : List ℕ) : Type 0 where
  -- the messages after the committed ones
  pub front : List (List ℕ)
  -- the messages that the file does not have
  pub rest : List (List ℕ)
  pub parts : life.waiting ++ more ≡ front ++ rest
  pub file : SpellsJournal3 life.session (life.committed ++ front) life.closed bytes

-- A crash at any moment, while these messages are appended and commits are made, leaves the committed messages and a
-- prefix of the others.
abbrev pub LeavesParts : {S : Type 0} → (shows may_leave : S → List ℕ → Type 0) (moment : S → ℕ)
    (left_since : S → ℕ → List ℕ → Type 0) (old new : DurableState S) → List (List ℕ) → Type 0
LeavesParts shows may_leave moment left_since old new messages =
    (life : Life) → Lives shows may_leave old life →
    LeavesOnly moment left_since old.storage new.storage (IsPartFile life messages)

-- The life after the messages `done` were committed. The messages `waiting` wait.
abbrev pub committed_life : Life → List (List ℕ) → List (List ℕ) → Life
committed_life life done waiting = record life { committed = life.committed ++ done; waiting = waiting }

-- The messages were appended to an open journal, in order. Commits were made, of the messages `done`.
pub record HasAppended {S : Type 0} (shows may_leave : S → List ℕ → Type 0) (moment : S → ℕ)
    (left_since : S → ℕ → List ℕ → Type 0) (old new : DurableState S) (messages : List (List ℕ)) : Type 0 where
  pub done : List (List ℕ)
  pub parts : old.waiting ++ messages ≡ done ++ new.waiting
  pub counted : new.committed ≡ old.committed + length done
  pub named : new.session ≡ old.session
  pub closed : new.closed ≡ old.closed
  pub lives : (life : Life) → Lives shows may_leave old life →
      Lives shows may_leave new (committed_life life done new.waiting)
  pub leaves : LeavesParts shows may_leave moment left_since old new messages

-- A prefix of the messages was appended, in order. Or a write failed, and the journal is broken. In both cases, a crash
-- leaves a prefix of them.
pub record HasAppendedSome {S : Type 0} (shows may_leave : S → List ℕ → Type 0) (moment : S → ℕ)
    (left_since : S → ℕ → List ℕ → Type 0) (old new : DurableState S) (messages : List (List ℕ)) : Type 0 where
  pub front : List (List ℕ)
  pub rest : List (List ℕ)
  pub parts : messages ≡ front ++ rest
  pub state : (new.broken ≡ true) ⊎ HasAppended shows may_leave moment left_since old new front
  pub leaves : LeavesParts shows may_leave moment left_since old new messages

-- No message waits, unless a write of the journal failed.
abbrev pub IsSaved : {S : Type 0} → DurableState S → Type 0
IsSaved journal = (journal.broken ≡ true) ⊎ (journal.waiting ≡ [])
