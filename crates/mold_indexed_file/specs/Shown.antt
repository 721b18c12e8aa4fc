-- Which journals a file has, and which of them an indexed file shows.
use Rattle.std.specs.Prelude.{◌≡◌, ℕ, ◌+◌, ◌≤◌, List, ◌++◌, length, take, drop}
use Rattle.mold_wire.specs.declared.limits.TheConstants.{MAX_LIMIT}
use Rattle.mold_wire.specs.declared.session.Session.{Session}
use Rattle.mold_session.specs.Journal.{IsJournal, JournalState}
use Rattle.mold_session.specs.Loading.{head_spelling, messages_spelling}
use Rattle.mold_session.specs.declared.file_version.FileVersion.{FileVersion}
use Rattle.mold_index.specs.Index.{IndexState, Indexes}
use Rattle.mold_index.specs.Layouts.{BeginsWith, layout_of, lengths_of}
use Rattle.mold_index.specs.declared.entries.TheConstants.{STRIDE_BYTES}
use Rattle.mold_index.specs.declared.layout.Layout.{Layout}
use Rattle.mold_indexed_file.specs.Buffer.{BufferState, most_bytes}

-- The head and the messages of a journal in a file of this version, without what follows the messages.
abbrev pub start_of : FileVersion → JournalState → List ℕ
start_of version journal =
    head_spelling journal.session.0 journal.closed version ++ messages_spelling version journal.messages

-- From this moment on, the file begins with the head and the messages of the journal. Any bytes may follow them.
pub record HasSince (bytes : ℕ → List ℕ) (since : ℕ) (version : FileVersion) (journal : JournalState) : Type 0 where
  pub begins : (moment : ℕ) → since ≤ moment → BeginsWith (start_of version journal) (bytes moment)

-- In one of the file's possible histories, the file begins with the head and the messages of the journal from now on.
pub record IsInFile {F : Type 0} (history : F → (ℕ → List ℕ) → Type 0) (moment : F → ℕ) (file : F)
    (version : FileVersion) (journal : JournalState) : Type 0 where
  pub bytes : ℕ → List ℕ
  pub possible : history file bytes
  pub has : HasSince bytes (moment file) version journal

-- The state of an indexed file.
pub record IndexedState (F : Type 0) : Type 0 where
  pub file : F
  pub session : Session
  pub version : FileVersion
  -- the largest length of a message, in bytes
  pub max_message : ℕ
  pub index : IndexState
  -- the buffer, with the piece of the file that was read last
  pub buffer : BufferState

-- The piece that the buffer has is a part of these bytes.
abbrev pub IsPartOf : List ℕ → BufferState → Type 0
IsPartOf bytes buffer = buffer.bytes ≡ take (length buffer.bytes) (drop buffer.entry.offset bytes)

-- The file has the journal. The index is that of the journal's messages, and the piece in the buffer is a part of them.
pub record Shows {F : Type 0} (history : F → (ℕ → List ℕ) → Type 0) (moment : F → ℕ) (indexed : IndexedState F)
    (journal : JournalState) : Type 0 where
  pub named : indexed.session ≡ journal.session
  pub limited : indexed.max_message ≡ journal.max_message
  pub journaled : IsJournal journal
  pub indexes : Indexes indexed.index (lengths_of journal.messages)
  pub has : IsInFile history moment indexed.file indexed.version journal
  pub part : IsPartOf (start_of indexed.version journal) indexed.buffer

-- The size of the buffer in bytes: it has room for each piece that is read.
abbrev pub buffer_size : FileVersion → ℕ → ℕ
buffer_size version max_message = most_bytes version MAX_LIMIT max_message + STRIDE_BYTES

-- What holds of the fields of every indexed file.
pub record IsIndexed (session : Session) (version : FileVersion) (max_message : ℕ) (layout : Layout) (size : ℕ) :
    Type 0 where
  pub named : length session.0 ≡ 10
  pub laid : layout ≡ layout_of version
  pub large : size ≡ buffer_size version max_message
