-- Which journal an opened file has, and with which error a file is refused.
use Rattle.std.specs.Prelude.{◌≡◌, ◌⊎◌, ℕ, ◌+◌, ◌<◌, Bool, false, List, length, ⊤}
use Rattle.std.specs.List.{AllByRecursion}
use Rattle.mold_session.specs.File.{SpellsJournal, SpellsJournal2}
use Rattle.mold_session.specs.FileFault.{JournalFault}
use Rattle.mold_session.specs.Journal.{IsJournal, IsWithin, JournalState}
use Rattle.mold_session.specs.Loading.{SpellsFile, stated_count}
use Rattle.mold_session.specs.Records.{SpellsJournal3}
use Rattle.mold_session.specs.declared.error.FileError.{FileError}
use Rattle.mold_session.specs.declared.error.FileError.TheVariants.{Full, Memory}
use Rattle.mold_session.specs.declared.journal.TheConstants.{MAX_MESSAGES}
use Rattle.mold_session.specs.declared.loading.FileHead.{FileHead}
use Rattle.mold_index.specs.Index.{IndexState, Indexes, offset_of}
use Rattle.mold_index.specs.Layouts.{lengths_of}
use Rattle.mold_index.specs.declared.index.TheConstants.{MAX_END}
use Rattle.mold_index.specs.declared.layout.Layout.{Layout}
use Rattle.mold_indexed_file.specs.Shown.{IndexedState}

-- ---- the journal

-- The bytes are the file of the journal, whose messages have at most `most` bytes. So the journal is what
-- `Journal::load` returns for these bytes.
pub record IsLoaded (most : ℕ) (bytes : List ℕ) (journal : JournalState) : Type 0 where
  pub limited : journal.max_message ≡ most
  pub journaled : IsJournal journal
  pub spelled : ((journal.closed ≡ false) × SpellsJournal journal.session journal.messages bytes)
      ⊎ (SpellsJournal2 journal.session journal.messages journal.closed bytes
      ⊎ SpellsJournal3 journal.session journal.messages journal.closed bytes)

-- The bytes are a file with this head, whose messages have at most `most` bytes, and the index is that of its messages.
pub record IsIndexOf (most : ℕ) (bytes : List ℕ) (head : FileHead) (index : IndexState) : Type 0 where
  pub messages : List (List ℕ)
  pub spelled : SpellsFile head messages head.version bytes
  -- the count that a head of version 2 states is that of the messages
  pub stated : stated_count head.version (length messages) ≡ length messages
  pub each : AllByRecursion (IsWithin most) messages
  pub indexes : Indexes index (lengths_of messages)

-- The indexed file has the session, the version and the index of the file that the bytes are.
pub record IsOpened {F : Type 0} (most : ℕ) (bytes : List ℕ) (indexed : IndexedState F) : Type 0 where
  -- whether the session is closed
  pub closed : Bool
  pub is : IsIndexOf most bytes
      (record { session = indexed.session; closed = closed; version = indexed.version }) indexed.index

-- ---- the error

-- The file is longer than an index can state.
abbrev pub IsAboveEnd : List ℕ → FileError → Type 0
IsAboveEnd bytes error = (error ≡ Full) × (MAX_END < length bytes)

-- The error states why the bytes are not opened as the file of a journal whose messages have at most `most` bytes.
abbrev pub OpenFault : ℕ → List ℕ → FileError → Type 0
OpenFault most bytes error = JournalFault most bytes error ⊎ IsAboveEnd bytes error

-- Why a message of `len` bytes is not added to an index: the index is full, or an allocation failed.
abbrev pub AddFault : IndexState → ℕ → FileError → Type 0
AddFault index len Full = (index.count ≡ MAX_MESSAGES) ⊎ (MAX_END < index.end + (index.layout.overhead + len))
AddFault index len Memory = ⊤
AddFault index len error = ⊥
