-- A journal that was opened while a taker took its messages.
use Rattle.std.specs.Prelude.{ℕ, List, Result, Ok, Err}
use Rattle.mold_session.specs.Journal.{JournalState}
use Rattle.mold_durable.specs.DurableJournal.{DurableState}
use Rattle.mold_durable.specs.Reading.{IsOpened}
use Rattle.mold_durable.specs.declared.error.NotOpened.{NotOpened}
use Rattle.mold_durable.specs.declared.opened.Opened.{Opened}

-- The result of opening a journal, without the taker.
abbrev pub without_taker : {S T : Type 0} → Result (Opened S T) (NotOpened S) → Result (DurableState S) (NotOpened S)
without_taker (Ok opened) = Ok opened.journal
without_taker (Err fault) = Err fault

-- The journal in memory that has these messages as the committed ones of a durable journal.
abbrev pub committed_journal : {S : Type 0} → DurableState S → List (List ℕ) → JournalState
committed_journal journal messages = record {
  session = journal.session;
  max_message = journal.max_message;
  messages = messages;
  closed = journal.closed;
}

-- The opened journal has the messages that the storage shows, and the taker holds the journal with exactly these.
pub record IsOpenedWith {S T : Type 0} (shows may_leave : S → List ℕ → Type 0) (holds : T → JournalState → Type 0)
    (opened : Opened S T) : Type 0 where
  pub is : IsOpened shows may_leave opened.journal
  pub held : holds opened.taker (committed_journal opened.journal is.messages)
