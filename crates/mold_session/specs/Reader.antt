-- How a file is read message by message.
use Rattle.std.specs.Prelude.{◌≡◌, ℕ, ◌+◌, ◌<◌, ◌≤◌, Bool, List, [], ◌++◌, length, map, Option, IfSome}
use Rattle.std.specs.Io.KnownBytes.{Consumes}
use Rattle.std.specs.List.{AllByRecursion}
use Rattle.mold_wire.specs.Block.{blocks}
use Rattle.mold_wire.specs.declared.block.TheConstants.{MAX_MESSAGE}
use Rattle.mold_session.specs.FileFault.{BlockFault, RecordFault}
use Rattle.mold_session.specs.Journal.{AreMessages, IsWithin}
use Rattle.mold_session.specs.LengthTaker.{HasTakenLengths}
use Rattle.mold_session.specs.Loading.{head_spelling, message_spelling, messages_spelling, stated_count, IsStated}
use Rattle.mold_session.specs.Loading.{TakesSpelled}
use Rattle.mold_session.specs.Records.{EndsRecords}
use Rattle.mold_session.specs.declared.error.FileError.{FileError}
use Rattle.mold_session.specs.declared.error.FileError.TheVariants.{CountDiffers}
use Rattle.mold_session.specs.declared.file_version.FileVersion.{FileVersion}
use Rattle.mold_session.specs.declared.file_version.FileVersion.TheVariants.{One, Two, Three}
use Rattle.mold_session.specs.declared.journal.TheConstants.{MAX_MESSAGES}
use Rattle.mold_session.specs.declared.loading.FileHead.{FileHead}
use Rattle.mold_session.specs.declared.records.NextMessage.{NextMessage}
use Rattle.mold_session.specs.declared.records.NextMessage.TheVariants.{Message, End}

-- The state of a reader of a file: the head, the messages read so far, and the bytes that are not used yet.
pub record ReaderState : Type 0 where
  pub head : FileHead
  -- how many messages were read
  pub count : ℕ
  -- the message that was read last
  pub message : List ℕ
  -- the bytes that were read from the source and not used
  pub rest : List ℕ

-- The head of the file, and the blocks or records of these messages, were read.
pub record HasRead (known left : Option (List ℕ)) (reader : ReaderState) (messages : List (List ℕ)) : Type 0 where
  pub named : length reader.head.session.0 ≡ 10
  pub said : IsStated reader.head.closed reader.head.version
  pub listed : AreMessages MAX_MESSAGE messages
  pub counted : reader.count ≡ length messages
  pub consumed : Consumes known left
      (head_spelling reader.head.session.0 reader.head.closed reader.head.version
      ++ messages_spelling reader.head.version messages)

-- The next block or record was read, and `new` is the reader after it.
pub record ReadsNext (known left : Option (List ℕ)) (old new : ReaderState) : Type 0 where
  pub same : new.head ≡ old.head
  pub few : old.count < MAX_MESSAGES
  pub counted : new.count ≡ old.count + 1
  pub within : IsWithin MAX_MESSAGE new.message
  pub consumed : Consumes known left (message_spelling old.head.version new.message)

-- The messages were at the start of the unused bytes, in the encoding of the file, and they were taken: `next` is the
-- reader after them. There are at most `limit` of them.
pub record PassesBlocks (limit : ℕ) (reader next : ReaderState) (messages : List (List ℕ)) : Type 0 where
  pub same : next.head ≡ reader.head
  pub last : next.message ≡ reader.message
  pub few : length messages ≤ limit
  pub counted : next.count ≡ reader.count + length messages
  pub below : next.count ≤ MAX_MESSAGES
  pub each : AllByRecursion (IsWithin MAX_MESSAGE) messages
  pub parts : reader.rest ≡ messages_spelling reader.head.version messages ++ next.rest

-- Messages at the start of the unused bytes, at most `limit`, were taken, and their blocks appended to the bytes `text`.
pub record TakesBlocks (limit : ℕ) (old new : ReaderState) (text more : List ℕ) : Type 0 where
  pub messages : List (List ℕ)
  pub passes : PassesBlocks limit old new messages
  pub appended : more ≡ text ++ blocks messages

-- Messages at the start of the unused bytes, each with at most `most` bytes, were passed, and the taker took their
-- lengths.
pub record PassesMessages {T : Type 0} (takes : T → T → List ℕ → Type 0) (most : ℕ) (old new : ReaderState)
    (before after : T) : Type 0 where
  pub messages : List (List ℕ)
  pub passes : PassesBlocks (length messages) old new messages
  pub within : AllByRecursion (IsWithin most) messages
  pub taken : HasTakenLengths takes before after (map (λ message. length message) messages)

-- The bytes `rest`, which follow `read` messages, end a file of this version. `said` is what its head states of the
-- session, and `closed` is whether the session is closed. Versions 1 and 2 end with the file, and version 2 with the
-- number of messages that it states.
abbrev pub EndsFile : FileVersion → ℕ → Bool → Bool → List ℕ → Type 0
EndsFile One read said closed rest = (rest ≡ []) × (closed ≡ said)
EndsFile (Two count) read said closed rest = (rest ≡ []) × (closed ≡ said) × (count ≡ read)
EndsFile Three read said closed rest = EndsRecords closed rest

-- The next message was read in the encoding of the file, and appended to the list. It has at most `most` bytes.
-- Otherwise the file ends.
abbrev pub ReadsMessage : ℕ → FileHead → ℕ → Option (List ℕ) → Option (List ℕ) → List (List ℕ) → List (List ℕ) →
    NextMessage → Type 0
ReadsMessage most head count known left old new Message =
    (count < MAX_MESSAGES) × TakesSpelled (message_spelling head.version) most known left old new
ReadsMessage most head count known left old new (End closed) =
    IfSome known (EndsFile head.version count head.closed closed)

-- The head of a reader's file once its end was read.
abbrev pub head_at_end : FileHead → Bool → FileHead
head_at_end head closed = record head { closed = closed }

-- The file ends after the messages that were read. `head` is the head of the reader after the end: it states whether the
-- session is closed.
pub record EndsWith (known : Option (List ℕ)) (reader : ReaderState) (head : FileHead) : Type 0 where
  pub same : head ≡ head_at_end reader.head head.closed
  pub ends : IfSome known (EndsFile reader.head.version reader.count reader.head.closed head.closed)

-- The file states `count` messages, but `found` were read.
pub record Misstates (version : FileVersion) (read count found : ℕ) : Type 0 where
  pub states : count ≡ stated_count version read
  pub reads : found ≡ read
  pub differs : count ≡ found → ⊥

-- The error reports that the file states another number of messages than were read.
abbrev pub CountFault : FileVersion → ℕ → FileError → Type 0
CountFault version read (CountDiffers count found) = Misstates version read count found
CountFault version read error = ⊥

-- The rest of a file with blocks, after the messages read so far, has this fault. Either the fault is in the next block,
-- or the rest is empty and the file states another number of messages. A message may have at most `most` bytes.
abbrev pub BlocksRestFault : ℕ → FileVersion → ℕ → List ℕ → FileError → Type 0
BlocksRestFault most version read rest (CountDiffers count found) = (rest ≡ []) × Misstates version read count found
BlocksRestFault most version read rest error = BlockFault most read rest error

-- The rest of the file, after the messages read so far, has this fault. A message may have at most `most` bytes.
abbrev pub RestFault : ℕ → FileVersion → ℕ → List ℕ → FileError → Type 0
RestFault most One read rest error = BlocksRestFault most One read rest error
RestFault most (Two count) read rest error = BlocksRestFault most (Two count) read rest error
RestFault most Three read rest error = RecordFault most read rest error
