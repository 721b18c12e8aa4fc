-- How a file is read, part by part.
use Rattle.std.specs.Prelude.{◌≡◌, ℕ, ◌+◌, ◌*◌, ◌^◌, ◌<◌, ◌≤◌, slice_index, ⊤, Bool, true, false, List, ◌∷◌, [], ◌++◌}
use Rattle.std.specs.Prelude.{length, Option, Result, Ok, Err, IfSome}
use Rattle.std.specs.Io.KnownBytes.{Consumes}
use Rattle.std.specs.List.{flat_map}
use Rattle.mold_wire.specs.Block.{be64, block}
use Rattle.mold_wire.specs.declared.session.Session.{Session}
use Rattle.mold_devices.specs.Devices.{one_more}
use Rattle.mold_session.specs.File.{closed_byte, head_1, head_2, SpellsJournal, SpellsJournal2}
use Rattle.mold_session.specs.FileFault.{IsBadFlag}
use Rattle.mold_session.specs.Journal.{IsWithin}
use Rattle.mold_session.specs.Records.{head_3, record_of, records, EndsRecords, SpellsJournal3}
use Rattle.mold_session.specs.declared.error.FileError.{FileError}
use Rattle.mold_session.specs.declared.error.FileError.TheVariants.{Short, BadMagic, BadFlag, BlockCut, Damaged, Read}
use Rattle.mold_session.specs.declared.error.FileError.TheVariants.{Write, Memory}
use Rattle.mold_session.specs.declared.file_version.FileVersion.{FileVersion}
use Rattle.mold_session.specs.declared.file_version.FileVersion.TheVariants.{One, Two, Three}
use Rattle.mold_session.specs.declared.journal.TheConstants.{MAX_MESSAGES}
use Rattle.mold_session.specs.declared.loading.FileHead.{FileHead}
use Rattle.mold_session.specs.declared.piece.TheConstants.{PIECE}
use Rattle.mold_session.specs.declared.records.NextMessage.{NextMessage}
use Rattle.mold_session.specs.declared.records.NextMessage.TheVariants.{Message, End}

-- An upper bound of the work that remains for a loop over the file, which each iteration decreases. It counts the reads
-- that the source still allows, and the bytes that were read and not used.
abbrev pub work_left : ℕ → List ℕ → ℕ
work_left bound rest = bound * (PIECE + 1) + length rest

-- The number of a version.
abbrev pub version_number : FileVersion → ℕ
version_number One = 1
version_number (Two count) = 2
version_number Three = 3

-- Whether the messages of a file of this version are in records. Otherwise they are in blocks.
abbrev pub has_records : FileVersion → Bool
has_records One = false
has_records (Two count) = false
has_records Three = true

-- The head of a file of this version.
abbrev pub head_spelling : List ℕ → Bool → FileVersion → List ℕ
head_spelling session closed One = head_1 session
head_spelling session closed (Two count) = head_2 session closed count
head_spelling session closed Three = head_3 session

-- A message in a file of this version: a block, or in version 3 a record.
abbrev pub message_spelling : FileVersion → List ℕ → List ℕ
message_spelling One = block
message_spelling (Two count) = block
message_spelling Three = record_of

-- The messages in a file of this version, in order, without anything between them.
abbrev pub messages_spelling : FileVersion → List (List ℕ) → List ℕ
messages_spelling version messages = flat_map (message_spelling version) messages

-- The number of messages that the head states, or `found` if it states none.
abbrev pub stated_count : FileVersion → ℕ → ℕ
stated_count One found = found
stated_count (Two count) found = count
stated_count Three found = found

-- What a head states is possible: only version 2 may state that the session is closed, and it states a number of 64
-- bits.
abbrev pub IsStated : Bool → FileVersion → Type 0
IsStated closed One = closed ≡ false
IsStated closed (Two count) = count < 2 ^ 64
IsStated closed Three = closed ≡ false

-- The rest of the head of version 2 was read: whether the session is closed, and the number of messages.
pub record ReadsNumbers (known left : Option (List ℕ)) (session : Session) (head : FileHead) : Type 0 where
  pub count : ℕ
  pub fits : count < 2 ^ 64
  pub same : head.session ≡ session
  pub stated : head.version ≡ Two count
  pub consumed : Consumes known left (closed_byte head.closed ∷ be64 count)

-- The fault of the rest of the head of version 2: it has fewer than 9 bytes, or its first byte is neither 0 nor
-- 1.
abbrev pub NumbersFault : List ℕ → FileError → Type 0
NumbersFault rest (Short len) = (len ≡ 18 + length rest) × (length rest < 9)
NumbersFault rest (BadFlag byte) = (9 ≤ length rest) × (slice_index rest 0 ≡ byte) × IsBadFlag byte
NumbersFault rest error = ⊥

-- The errors that reading a head can return: the faults of a head, a failed read, and a failed allocation.
abbrev pub IsOfHead : FileError → Type 0
IsOfHead (Short len) = ⊤
IsOfHead BadMagic = ⊤
IsOfHead (BadFlag byte) = ⊤
IsOfHead Read = ⊤
IsOfHead Memory = ⊤
IsOfHead error = ⊥

-- The head was read from the source.
pub record ReadsHead (known left : Option (List ℕ)) (head : FileHead) : Type 0 where
  pub named : length head.session.0 ≡ 10
  pub said : IsStated head.closed head.version
  pub consumed : Consumes known left (head_spelling head.session.0 head.closed head.version)

-- The bytes are the file, of this version, of a journal with these messages. `head` has its session, and whether it is
-- closed.
abbrev pub SpellsFile : FileHead → List (List ℕ) → FileVersion → List ℕ → Type 0
SpellsFile head messages One bytes = (head.closed ≡ false) × SpellsJournal head.session messages bytes
SpellsFile head messages (Two count) bytes = SpellsJournal2 head.session messages head.closed bytes
SpellsFile head messages Three bytes = SpellsJournal3 head.session messages head.closed bytes

-- The next `len` bytes were read and appended to the list as one message.
pub record TakesMessage (len : ℕ) (known left : Option (List ℕ)) (old new : List (List ℕ)) : Type 0 where
  pub message : List ℕ
  pub counted : length message ≡ len
  pub added : new ≡ old ++ message ∷ []
  pub consumed : Consumes known left message

-- A message was read in the encoding of the file, and appended to the list. It has at most `most` bytes.
pub record TakesSpelled (spelling : List ℕ → List ℕ) (most : ℕ) (known left : Option (List ℕ))
    (old new : List (List ℕ)) : Type 0 where
  pub message : List ℕ
  pub within : IsWithin most message
  pub added : new ≡ old ++ message ∷ []
  pub consumed : Consumes known left (spelling message)

-- A block was read, and its message was appended to the list.
abbrev pub TakesBlock : ℕ → Option (List ℕ) → Option (List ℕ) → List (List ℕ) → List (List ℕ) → Type 0
TakesBlock most known left old new = TakesSpelled block most known left old new

-- The start of the next record was read: that of a message up to its block. Otherwise the closing record or a shut gate
-- follows.
abbrev pub StartsRecord : Option (List ℕ) → Option (List ℕ) → NextMessage → Type 0
StartsRecord known left Message = Consumes known left (1 ∷ 0 ∷ [])
StartsRecord known left (End closed) = IfSome known (EndsRecords closed)

-- The fault of a record whose block has this fault.
abbrev pub in_record : FileError → FileError
in_record (BlockCut number) = Damaged number
in_record error = error

-- The next record was read: that of a message, which was appended to the list. Otherwise the closing record or a shut
-- gate follows, and the list is unchanged.
abbrev pub ReadsRecord : ℕ → ℕ → Option (List ℕ) → Option (List ℕ) → List (List ℕ) → List (List ℕ) → NextMessage → Type 0
ReadsRecord most count known left old new Message =
    (count < MAX_MESSAGES) × TakesSpelled record_of most known left old new
ReadsRecord most count known left old new (End closed) = IfSome known (EndsRecords closed) × (new ≡ old)

-- The bytes, which follow a head of version 3, are the records of these messages, and then what ends them.
pub record AreRecords (messages : List (List ℕ)) (closed : Bool) (behind : List ℕ) : Type 0 where
  pub rest : List ℕ
  pub parts : behind ≡ records messages ++ rest
  pub ends : EndsRecords closed rest

-- The call may return this error: `Read`, `Memory`, or a fault of the bytes, but never `Write`. Bytes that are known
-- must have the fault.
abbrev pub Refuses : (List ℕ → FileError → Type 0) → Option (List ℕ) → FileError → Type 0
Refuses Fault known Read = ⊤
Refuses Fault known Memory = ⊤
Refuses Fault known Write = ⊥
Refuses Fault known error = IfSome known (λ bytes. Fault bytes error)

-- The count of the source's failures after an error: one more for `Read`, otherwise unchanged.
abbrev pub CountsLoadFault : ℕ → ℕ → FileError → Type 0
CountsLoadFault old new Read = new ≡ one_more old
CountsLoadFault old new error = new ≡ old

-- The count of the source's failures after a call: one more if the call returned `Read`, otherwise unchanged.
abbrev pub CountsLoad : {T : Type 0} → ℕ → ℕ → Result T FileError → Type 0
CountsLoad old new (Ok _) = new ≡ old
CountsLoad old new (Err error) = CountsLoadFault old new error
