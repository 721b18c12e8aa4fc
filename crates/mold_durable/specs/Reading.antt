-- How a journal's storage is read when the journal is opened, and why it is refused.
use Rattle.std.specs.Prelude.{◌≡◌, ◌⊎◌, ℕ, ◌+◌, ◌<◌, ◌≤◌, ◌^◌, ⊤, Bool, List, [], ◌++◌, length, take, drop}
use Rattle.std.specs.Prelude.{Result, Ok, Err}
use Rattle.std.specs.List.{AllByRecursion}
use Rattle.mold_wire.specs.declared.limits.TheConstants.{MAX_NUMBER}
use Rattle.mold_session.specs.Checking.{HasRecord}
use Rattle.mold_session.specs.FileFault.{FaultInRecords, RecordFault, RecordsFault}
use Rattle.mold_session.specs.Journal.{AreMessages, IsWithin}
use Rattle.mold_session.specs.Loading.{AreRecords}
use Rattle.mold_session.specs.Records.{magic_3, records, EndsRecords}
use Rattle.mold_session.specs.declared.error.FileError.{FileError}
use Rattle.mold_session.specs.declared.error.FileError.TheVariants as file
use Rattle.mold_session.specs.declared.journal.TheConstants.{MAX_MESSAGES}
use Rattle.mold_durable.specs.DurableJournal.{CountsOpenError, DurableState, IsSettled}
use Rattle.mold_durable.specs.Group.{closing}
use Rattle.mold_durable.specs.declared.error.OpenError.{OpenError}
use Rattle.mold_durable.specs.declared.error.OpenError.TheVariants.{Short, BadMagic, Full, TooLong, Damaged}
use Rattle.mold_durable.specs.declared.error.OpenError.TheVariants.{Read, Write, Memory}
use Rattle.mold_durable.specs.declared.records.NextRecord.{NextRecord}
use Rattle.mold_durable.specs.declared.records.NextRecord.TheVariants.{Message, End}
use Rattle.mold_durable.specs.declared.records.Skipped.{Skipped}

-- ---- why a storage is refused

-- The error that `Journal::load` has for the same fault.
abbrev pub file_error : OpenError → FileError
file_error (Short len) = file.Short len
file_error BadMagic = file.BadMagic
file_error Full = file.Full
file_error (TooLong len) = file.TooLong len
file_error (Damaged number) = file.Damaged number
file_error Read = file.Read
file_error Write = file.Write
file_error Memory = file.Memory

-- The fault of the head: there are fewer than 18 bytes, or the first 8 are not the magic bytes of version 3.
abbrev pub HeadFault : List ℕ → OpenError → Type 0
HeadFault bytes (Short len) = (len ≡ length bytes) × (length bytes < 18)
HeadFault bytes BadMagic = (18 ≤ length bytes) × (take 8 bytes ≡ magic_3 → ⊥)
HeadFault bytes error = ⊥

-- The error states why the bytes are not a file of version 3 of a journal whose messages have at most `most` bytes.
-- `Read`, `Write` and `Memory` state nothing about the bytes.
abbrev pub OpenFault : ℕ → List ℕ → OpenError → Type 0
OpenFault most bytes (Short len) = HeadFault bytes (Short len)
OpenFault most bytes BadMagic = HeadFault bytes BadMagic
OpenFault most bytes Full = FaultInRecords most bytes file.Full
OpenFault most bytes (TooLong len) = FaultInRecords most bytes (file.TooLong len)
OpenFault most bytes (Damaged number) = FaultInRecords most bytes (file.Damaged number)
OpenFault most bytes error = ⊤

-- The error is a failed call of the storage or a failed allocation, so it does not depend on the bytes.
abbrev pub IsOfDevice : OpenError → Type 0
IsOfDevice Read = ⊤
IsOfDevice Write = ⊤
IsOfDevice Memory = ⊤
IsOfDevice error = ⊥

-- The bytes have a fault in their records, or a read or an allocation failed.
abbrev pub IsRecordsError : ℕ → (List ℕ → Type 0) → OpenError → Type 0
IsRecordsError most shows error =
    IsOfDevice error ⊎ ((bytes : List ℕ) → shows bytes → RecordsFault most (drop 18 bytes) (file_error error))

-- How the result of a call that reads a storage changes the count of its failures.
abbrev pub CountsOpen : {T : Type 0} → ℕ → ℕ → Result T OpenError → Type 0
CountsOpen old new (Ok found) = new ≡ old
CountsOpen old new (Err error) = CountsOpenError old new error

-- ---- records

-- What follows `count` messages: the record of a message, which takes `len` bytes, or what ends the records.
abbrev pub IsNextRecord : ℕ → ℕ → List ℕ → NextRecord → Type 0
IsNextRecord most count rest (Message len) =
    (count < MAX_MESSAGES) × (0 < len) × (len ≤ length rest) × HasRecord most rest (drop len rest)
IsNextRecord most count rest (End closed) = EndsRecords closed rest

-- The first `len` bytes are the records of some messages, after which there are `count` instead of `start`. `Taken`
-- holds of the messages.
pub record AreSkipped (Taken : List (List ℕ) → Type 0) (most start count len : ℕ) (bytes : List ℕ) : Type 0 where
  pub messages : List (List ℕ)
  pub taken : Taken messages
  pub each : AllByRecursion (IsWithin most) messages
  pub few : count < MAX_NUMBER
  pub counted : count ≡ start + length messages
  pub within : len ≤ length bytes
  pub parts : bytes ≡ records messages ++ drop len bytes

-- Why no message follows: the records end, or they have a fault.
abbrev pub IsStop : ℕ → ℕ → List ℕ → Result Bool OpenError → Type 0
IsStop most count rest (Ok closed) = EndsRecords closed rest
IsStop most count rest (Err error) = RecordFault most count rest (file_error error)

-- The bytes begin with whole records, and this is what follows them.
pub record SkipsRecords (Taken : List (List ℕ) → Type 0) (most start : ℕ) (bytes : List ℕ) (skipped : Skipped) :
    Type 0 where
  pub records : AreSkipped Taken most start skipped.count skipped.len bytes
  pub stop : IsStop most skipped.count (drop skipped.len bytes) skipped.stop

-- The piece is the bytes from offset `at` on, up to `size` of them.
pub record IsPieceOf (at size : ℕ) (bytes piece : List ℕ) : Type 0 where
  pub more : List ℕ
  pub parts : drop at bytes ≡ piece ++ more
  pub last : length piece < size → more ≡ []

-- A piece was read from offset `at` on.
pub record ReadsPiece (shows : List ℕ → Type 0) (Taken : List (List ℕ) → Type 0) (most start at size : ℕ)
    (skipped : Skipped) : Type 0 where
  pub piece : List ℕ
  pub few : length piece ≤ size
  pub near : 0 < length piece → at + length piece < 2 ^ 63
  pub found : SkipsRecords Taken most start piece skipped
  pub part : (bytes : List ℕ) → shows bytes → IsPieceOf at size bytes piece

-- The records of `count` messages were read, and they end at offset `at`. `Taken` holds of the messages.
pub record HasRead (shows : List ℕ → Type 0) (Taken : List (List ℕ) → Type 0) (most count at : ℕ) : Type 0 where
  pub messages : List (List ℕ)
  pub taken : Taken messages
  pub listed : AreMessages most messages
  pub counted : count ≡ length messages
  pub ends : at ≡ 18 + length (records messages)
  pub parts : (bytes : List ℕ) → shows bytes → drop 18 bytes ≡ records messages ++ drop at bytes

-- The records of `count` messages were read, and then what ends them. `end` is the offset of the shut gate, or of the
-- last byte of the closing record. `Taken` holds of the messages.
pub record HasReadAll (shows : List ℕ → Type 0) (Taken : List (List ℕ) → Type 0) (most count end : ℕ)
    (closed : Bool) : Type 0 where
  pub messages : List (List ℕ)
  pub taken : Taken messages
  pub listed : AreMessages most messages
  pub counted : count ≡ length messages
  pub ends : end ≡ 18 + length (records messages ++ closing closed)
  pub parts : (bytes : List ℕ) → shows bytes → AreRecords messages closed (drop 18 bytes)

-- The opened journal has the messages that the storage shows, and each has at most `max_message` bytes.
pub record IsOpened {S : Type 0} (shows may_leave : S → List ℕ → Type 0) (journal : DurableState S) : Type 0 where
  pub messages : List (List ℕ)
  pub each : AllByRecursion (IsWithin journal.max_message) messages
  pub settled : IsSettled shows may_leave journal messages
