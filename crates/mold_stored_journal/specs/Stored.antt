-- Which journal the journal of a storage is.
use Rattle.std.specs.Prelude.{◌≡◌}
use Rattle.mold_session.specs.Journal.{JournalState}
use Rattle.mold_indexed_file.specs.Stored.{IsOfJournal}
use Rattle.mold_stored_journal.specs.declared.stored_journal.StoredJournal.{StoredJournal}

-- It counts the messages of this journal, and the index is that of these messages.
pub record HoldsJournal (stored : StoredJournal) (journal : JournalState) : Type 0 where
  pub counts : stored.journal ≡ journal
  pub is : IsOfJournal stored.index stored.journal
