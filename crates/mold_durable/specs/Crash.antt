-- What a crash leaves of a journal whose messages were committed.
use Rattle.std.specs.Prelude.{◌≡◌, ℕ, Bool, true, List, ◌++◌}
use Rattle.mold_wire.specs.declared.session.Session.{Session}
use Rattle.mold_session.specs.Records.{SpellsJournal3}
use Rattle.mold_durable.specs.DurableJournal.{DurableState, IsSettled}

-- The bytes are a file of the session. Its messages begin with these.
pub record IsLaterFile (session : Session) (messages : List (List ℕ)) (bytes : List ℕ) : Type 0 where
  -- the messages after these
  pub more : List (List ℕ)
  pub closed : Bool
  pub file : SpellsJournal3 session (messages ++ more) closed bytes

-- After some calls the journal is broken, or the committed messages begin with these.
pub data Continues {S : Type 0} (shows may_leave : S → List ℕ → Type 0) (messages : List (List ℕ))
    (journal : DurableState S) : Type 0 where
  stopped : journal.broken ≡ true → Continues shows may_leave messages journal
  goes_on : (more : List (List ℕ)) → IsSettled shows may_leave journal (messages ++ more) →
      Continues shows may_leave messages journal

-- Some calls after the messages were committed, a crash leaves a file whose messages begin with them.
pub record IsLive {S : Type 0} (shows may_leave : S → List ℕ → Type 0) (session : Session) (messages : List (List ℕ))
    (journal : DurableState S) : Type 0 where
  pub named : journal.session ≡ session
  pub left : (bytes : List ℕ) → may_leave journal.storage bytes → IsLaterFile session messages bytes
  pub state : Continues shows may_leave messages journal

-- The opened journal is of the session, and its messages begin with these.
pub record HasPrefix {S : Type 0} (shows may_leave : S → List ℕ → Type 0) (session : Session) (messages : List (List ℕ))
    (journal : DurableState S) : Type 0 where
  pub named : journal.session ≡ session
  -- the messages after these
  pub more : List (List ℕ)
  pub settled : IsSettled shows may_leave journal (messages ++ more)
