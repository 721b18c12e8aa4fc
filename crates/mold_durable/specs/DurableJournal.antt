-- The state of a durable journal, and which bytes its storage keeps.
use Rattle.std.specs.Prelude.{◌≡◌, ◌⊎◌, ℕ, ◌+◌, ◌<◌, ◌^◌, Bool, true, false, List, [], ◌++◌, length, ◌==◌, nat_lt}
use Rattle.std.specs.Prelude.{if◌then◌else◌, Option, None, Some, Result, Ok, Err}
use Rattle.std.specs.List.{AllByRecursion}
use Rattle.mold_wire.specs.declared.block.TheConstants.{MAX_MESSAGE}
use Rattle.mold_wire.specs.declared.limits.TheConstants.{MAX_NUMBER}
use Rattle.mold_wire.specs.declared.session.Session.{Session}
use Rattle.mold_devices.specs.Devices.{one_more}
use Rattle.mold_session.specs.Journal.{AreMessages, IsWithin}
use Rattle.mold_session.specs.declared.error.AppendError.{AppendError}
use Rattle.mold_session.specs.declared.error.AppendError.TheVariants.{Closed, TooLong, Full}
use Rattle.mold_session.specs.declared.journal.TheConstants.{MAX_MESSAGES}
use Rattle.mold_durable.specs.Group.{closing, GroupState}
use Rattle.mold_session.specs.Records.{head_3, records, SpellsJournal3}
use Rattle.mold_durable.specs.Storage.{IsKept}
use Rattle.mold_durable.specs.declared.error.CommitError.{CommitError}
use Rattle.mold_durable.specs.declared.error.CommitError.TheVariants as commit
use Rattle.mold_durable.specs.declared.error.NotOpened.{NotOpened}
use Rattle.mold_durable.specs.declared.error.OpenError.{OpenError}
use Rattle.mold_durable.specs.declared.error.OpenError.TheVariants.{Read, Write}

-- The state of a durable journal.
pub record DurableState (S : Type 0) : Type 0 where
  pub storage : S
  pub session : Session
  -- the largest length of a message, in bytes
  pub max_message : ℕ
  -- how many messages are committed
  pub committed : ℕ
  -- the offset of the shut gate or, if the session is closed, of the last byte of the closing record
  pub end : ℕ
  -- whether the closing record is committed
  pub closed : Bool
  -- the messages that wait to be committed
  pub waiting : List (List ℕ)
  -- whether a call of the storage failed since the journal was opened
  pub broken : Bool

-- The bytes of a file of version 3 before its shut gate. If the session is closed, they are the bytes before the last
-- byte of the closing record.
abbrev pub file_prefix : Session → List (List ℕ) → Bool → List ℕ
file_prefix session messages closed = head_3 session.0 ++ (records messages ++ closing closed)

-- The committed messages are these. Whatever a read may return and whatever a crash may leave is a file with exactly
-- them.
pub record IsSettled {S : Type 0} (shows may_leave : S → List ℕ → Type 0) (journal : DurableState S)
    (messages : List (List ℕ)) : Type 0 where
  pub kept : IsKept (shows journal.storage) (may_leave journal.storage)
      (SpellsJournal3 journal.session messages journal.closed)
  pub ends : journal.end ≡ length (file_prefix journal.session messages journal.closed)
  pub counted : journal.committed ≡ length messages
  pub named : length journal.session.0 ≡ 10
  pub listed : AreMessages MAX_MESSAGE messages

-- The bytes are the file of the session before a commit or after it.
abbrev pub IsBeforeOrAfter : Session → List (List ℕ) → Bool → List (List ℕ) → Bool → List ℕ → Type 0
IsBeforeOrAfter session before was_closed after is_closed bytes =
    SpellsJournal3 session before was_closed bytes ⊎ SpellsJournal3 session after is_closed bytes

-- The first reason why a message is not appended to an intact journal. If there is none, only an allocation can still
-- fail.
abbrev pub waiting_refusal : {S : Type 0} → DurableState S → List ℕ → Option AppendError
waiting_refusal journal message =
    if journal.closed then Some Closed
    else if nat_lt journal.max_message (length message) then Some (TooLong (length message))
    else if journal.committed + length journal.waiting == MAX_MESSAGES then Some Full
    else None

-- The count of the storage's failures increases by one with `Write`, and is unchanged with `Broken`.
abbrev pub CountsCommitError : ℕ → ℕ → CommitError → Type 0
CountsCommitError old new commit.Broken = new ≡ old
CountsCommitError old new commit.Write = new ≡ one_more old

-- How the result of a commit changes the count of the storage's failures.
abbrev pub CountsCommit : {T : Type 0} → ℕ → ℕ → Result T CommitError → Type 0
CountsCommit old new (Ok _) = new ≡ old
CountsCommit old new (Err error) = CountsCommitError old new error

-- What holds of the fields of every durable journal: its messages are within the limits, and none waits once the
-- session is closed.
pub record IsDurable (max_message committed end : ℕ) (closed : Bool) (group : GroupState) : Type 0 where
  pub most : max_message < 2 ^ 16
  pub few : committed + length group.messages < MAX_NUMBER
  pub near : end < 2 ^ 63
  pub each : AllByRecursion (IsWithin max_message) group.messages
  pub none : closed ≡ true → group.messages ≡ []
  pub open_group : group.closes ≡ false

-- The storage of a journal that was opened or not.
abbrev pub storage_of : {S : Type 0} → Result (DurableState S) (NotOpened S) → S
storage_of (Ok journal) = journal.storage
storage_of (Err fault) = fault.storage

-- The count of the storage's failures increases by one with `Read` and `Write`, and is unchanged with other errors.
abbrev pub CountsOpenError : ℕ → ℕ → OpenError → Type 0
CountsOpenError old new Read = new ≡ one_more old
CountsOpenError old new Write = new ≡ one_more old
CountsOpenError old new error = new ≡ old

-- How the result of creating or opening a journal changes the count of the storage's failures.
abbrev pub CountsOpened : {S : Type 0} → (S → ℕ) → S → Result (DurableState S) (NotOpened S) → Type 0
CountsOpened failed storage (Ok journal) = failed journal.storage ≡ failed storage
CountsOpened failed storage (Err fault) = CountsOpenError (failed storage) (failed fault.storage) fault.error

-- The storage has no bytes, and a crash leaves none.
abbrev pub IsEmpty : {S : Type 0} → (S → List ℕ → Type 0) → (S → List ℕ → Type 0) → S → Type 0
IsEmpty shows may_leave storage = IsKept (shows storage) (may_leave storage) (λ bytes. bytes ≡ [])
