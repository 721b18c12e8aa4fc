-- Which journals a storage has, and which of them it shows through an index.
use Rattle.std.specs.Prelude.{◌≡◌, ℕ, List}
use Rattle.mold_wire.specs.declared.session.Session.{Session}
use Rattle.mold_session.specs.Journal.{IsJournal, JournalState}
use Rattle.mold_session.specs.declared.file_version.FileVersion.TheVariants.{Three}
use Rattle.mold_index.specs.Index.{IndexState, Indexes}
use Rattle.mold_index.specs.Layouts.{BeginsWith, lengths_of}
use Rattle.mold_indexed_file.specs.Buffer.{BufferState}
use Rattle.mold_indexed_file.specs.Shown.{IsPartOf, start_of}

-- The state of the index of a journal in a storage.
pub record StoredState : Type 0 where
  pub session : Session
  -- the largest length of a message, in bytes
  pub max_message : ℕ
  pub index : IndexState
  -- the buffer, with the piece of the storage that was read last
  pub buffer : BufferState

-- Some bytes that the storage shows begin with the head and the messages of the journal. Any bytes may follow them.
pub record IsInStorage (shows : List ℕ → Type 0) (journal : JournalState) : Type 0 where
  pub bytes : List ℕ
  pub shown : shows bytes
  pub begins : BeginsWith (start_of Three journal) bytes

-- The index is that of the journal's messages, and the piece in the buffer is a part of them.
pub record IsOfJournal (stored : StoredState) (journal : JournalState) : Type 0 where
  pub named : stored.session ≡ journal.session
  pub limited : stored.max_message ≡ journal.max_message
  pub journaled : IsJournal journal
  pub indexes : Indexes stored.index (lengths_of journal.messages)
  pub part : IsPartOf (start_of Three journal) stored.buffer

-- The storage has the journal, and the index is that of the journal.
pub record ShowsStored (shows : List ℕ → Type 0) (stored : StoredState) (journal : JournalState) : Type 0 where
  pub is : IsOfJournal stored journal
  pub has : IsInStorage shows journal
