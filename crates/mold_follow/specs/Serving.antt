-- What a server that follows a file has of it, and when it reads new records.
use Rattle.std.specs.Prelude.{◌≡◌, ℕ, Bool, true, false, List, Result, Ok, Err, OnOk}
use Rattle.mold_devices.specs.Devices.{one_more}
use Rattle.mold_durable.specs.Follower.{Follows, RecordFollowerState, follower_of}
use Rattle.mold_durable.specs.Following.{HasAll, Writer}
use Rattle.mold_indexed_file.specs.Shown.{IndexedState, Shows}
use Rattle.mold_ports.specs.Ports.{Datagram, Failure, Quiet, Receipt}
use Rattle.mold_session.specs.Contents.{IsFront}
use Rattle.mold_session.specs.Journal.{JournalState}
use Rattle.mold_session.specs.Server.{checked_request}
use Rattle.mold_session.specs.declared.error.AnswerError.{AnswerError}
use Rattle.mold_session.specs.declared.error.AnswerError.TheVariants.{Ahead}
use Rattle.mold_session.specs.declared.error.FileError.{FileError}
use Rattle.mold_session.specs.declared.error.FileError.TheVariants.{Read, Write}
use Rattle.mold_session.specs.declared.file_version.FileVersion.TheVariants.{Three}
use Rattle.mold_wire.specs.declared.request.Request.{Request}

-- ---- what a server has

-- The journal with these messages instead.
abbrev pub with_messages : List (List ℕ) → JournalState → JournalState
with_messages messages journal = record journal { messages = messages }

-- The open journal that a server has if its follower has returned these messages.
abbrev pub journal_of : RecordFollowerState → List (List ℕ) → JournalState
journal_of follower told = record {
  session = follower.session;
  max_message = follower.max_message;
  messages = told;
  closed = false;
}

-- The server has these messages of the writer's journal: its follower has returned them, and its indexed file shows the
-- journal that has them.
pub record Serves {F : Type 0} (history : F → (ℕ → List ℕ) → Type 0) (moment synced : F → ℕ) (writer : Writer)
    (bytes : ℕ → List ℕ) (indexed : IndexedState F) (follower : RecordFollowerState) (told : List (List ℕ)) :
    Type 0 where
  pub follows : Follows history synced writer bytes (follower_of indexed.file follower) told
  pub shown : Shows history moment indexed (journal_of follower told)
  pub third : indexed.version ≡ Three

-- The server has messages of the writer's journal that begin with these.
pub record ServesMore {F : Type 0} (history : F → (ℕ → List ℕ) → Type 0) (moment synced : F → ℕ) (writer : Writer)
    (bytes : ℕ → List ℕ) (indexed : IndexedState F) (follower : RecordFollowerState) (before : List (List ℕ)) :
    Type 0 where
  pub told : List (List ℕ)
  pub longer : IsFront before told
  pub serves : Serves history moment synced writer bytes indexed follower told

-- The server has messages of the writer's journal that begin with these: all that the journal had at moment `start`.
pub record ServesAll {F : Type 0} (history : F → (ℕ → List ℕ) → Type 0) (moment synced : F → ℕ) (writer : Writer)
    (bytes : ℕ → List ℕ) (indexed : IndexedState F) (follower : RecordFollowerState) (before : List (List ℕ))
    (start : ℕ) : Type 0 where
  pub told : List (List ℕ)
  pub longer : IsFront before told
  pub serves : Serves history moment synced writer bytes indexed follower told
  pub all : HasAll writer told follower.closed start

-- ---- when it reads new records

-- Whether the request is refused because the journal does not have its first message yet.
abbrev pub is_refused_ahead : Result Request AnswerError → Bool
is_refused_ahead (Err (Ahead next)) = true
is_refused_ahead _ = false

-- Whether the bytes of a datagram are such a request.
abbrev pub is_ahead : JournalState → List ℕ → Bool
is_ahead journal bytes = is_refused_ahead (checked_request journal bytes)

-- Whether new records are read after a receive: if it gave nothing, or such a request.
abbrev pub is_looked_up : {P : Type 0} → JournalState → Receipt P → Bool
is_looked_up journal (Datagram from bytes) = is_ahead journal bytes
is_looked_up journal Quiet = true
is_looked_up journal Failure = false

-- ---- a turn

-- How an error of a call that reads and syncs a file changes the count of the file's failures.
abbrev pub CountsFileError : ℕ → ℕ → FileError → Type 0
CountsFileError old new Read = new ≡ one_more old
CountsFileError old new Write = new ≡ one_more old
CountsFileError old new error = new ≡ old

-- How the result of such a call changes it.
abbrev pub CountsFile : {T : Type 0} → ℕ → ℕ → Result T FileError → Type 0
CountsFile old new (Ok done) = new ≡ old
CountsFile old new (Err error) = CountsFileError old new error

-- How the result of a turn changes it: it stays the same, and `Read` means that a read failed.
abbrev pub CountsTurn : {T : Type 0} → ℕ → ℕ → Result T FileError → Type 0
CountsTurn old new (Ok done) = new ≡ old
CountsTurn old new (Err error) = error ≡ Read → new ≡ one_more old

-- The messages that a server has after a turn, `told`, begin with those that it had before. If the turn read new
-- records, they are all that the journal had at moment `start`; otherwise they are the same.
pub record HasLooked {F T : Type 0} (history : F → (ℕ → List ℕ) → Type 0) (moment synced : F → ℕ) (writer : Writer)
    (bytes : ℕ → List ℕ) (result : Result T FileError) (looked : Bool) (start : ℕ) (before : List (List ℕ))
    (indexed : IndexedState F) (follower : RecordFollowerState) (told : List (List ℕ)) : Type 0 where
  pub longer : IsFront before told
  pub serves : OnOk result (Serves history moment synced writer bytes indexed follower told)
  pub looks : looked ≡ true → OnOk result (HasAll writer told follower.closed start)
  pub waits : looked ≡ false → told ≡ before
