-- The faults of a journal's file: why bytes are not the file of a journal.
use Rattle.std.specs.Prelude.{◌≡◌, ◌⊎◌, ℕ, ◌+◌, ◌<◌, ◌≤◌, List, [], ◌∷◌, ◌++◌, length, take, drop, slice_index}
use Rattle.std.specs.List.{AllByRecursion}
use Rattle.byteorder.specs.Endian.{big_number}
use Rattle.mold_wire.specs.Block.{blocks}
use Rattle.mold_wire.specs.declared.limits.TheConstants.{MAX_NUMBER}
use Rattle.mold_devices.specs.declared.fault.ReadFault.{ReadFault}
use Rattle.mold_devices.specs.declared.fault.ReadFault.TheVariants as reading
use Rattle.mold_session.specs.File.{magic_1, magic_2}
use Rattle.mold_session.specs.Journal.{AreMessages, IsWithin}
use Rattle.mold_session.specs.Records.{magic_3, records}
use Rattle.mold_session.specs.declared.error.FileError.{FileError}
use Rattle.mold_session.specs.declared.error.FileError.TheVariants.{TooLong, Memory, BadMagic, Short, BlockCut, Read}
use Rattle.mold_session.specs.declared.error.FileError.TheVariants.{Write, Full, CountDiffers, BadFlag}
use Rattle.mold_session.specs.declared.error.FileError.TheVariants.{Damaged}
use Rattle.mold_session.specs.declared.journal.TheConstants.{MAX_MESSAGES}

-- The bytes begin with the magic bytes of version 2.
abbrev pub IsVersion2 : List ℕ → Type 0
IsVersion2 bytes = take 8 bytes ≡ magic_2

-- The byte, which is at offset 18 of version 2, is neither 0 nor 1.
abbrev pub IsBadFlag : ℕ → Type 0
IsBadFlag byte = 1 < byte

-- A file of version 1 has a valid head, and the bytes after it, from offset 18 on, are `behind`.
pub record IsBody1 (bytes behind : List ℕ) : Type 0 where
  pub magic : take 8 bytes ≡ magic_1
  pub whole : 18 ≤ length bytes
  pub from : behind ≡ drop 18 bytes

-- A file of version 2 has a valid head, and the bytes after it, from offset 27 on, are `behind`.
pub record IsBody2 (bytes behind : List ℕ) : Type 0 where
  pub magic : take 8 bytes ≡ magic_2
  pub whole : 27 ≤ length bytes
  pub flag : slice_index bytes 18 ≤ 1
  pub from : behind ≡ drop 27 bytes

-- A file of version 3 has a valid head, and the bytes after it, from offset 18 on, are `behind`.
pub record IsBody3 (bytes behind : List ℕ) : Type 0 where
  pub magic : take 8 bytes ≡ magic_3
  pub whole : 18 ≤ length bytes
  pub from : behind ≡ drop 18 bytes

-- The bytes end within a block: there are fewer than two of them, or the block has a valid length and fewer bytes than
-- that.
abbrev pub EndsInBlock : ℕ → List ℕ → Type 0
EndsInBlock most rest = (length rest < 2) ⊎ ((big_number 2 rest ≤ most) × (length rest < 2 + big_number 2 rest))

-- The bytes begin with a block that is cut: there is only one byte, or the block has a valid length and fewer
-- bytes than that.
pub record IsCut (most : ℕ) (rest : List ℕ) : Type 0 where
  pub some : 0 < length rest
  pub short : EndsInBlock most rest

-- The fault of the bytes that follow `count` whole blocks: another message would have no number, or it is too
-- long, or its block is cut.
abbrev pub BlockFault : ℕ → ℕ → List ℕ → FileError → Type 0
BlockFault most count rest Full = (0 < length rest) × (MAX_MESSAGES ≤ count)
BlockFault most count rest (TooLong len) =
    (count < MAX_MESSAGES) × (2 ≤ length rest) × (big_number 2 rest ≡ len) × (most < len)
BlockFault most count rest (BlockCut number) =
    (count < MAX_MESSAGES) × (number ≡ count + 1) × IsCut most rest
BlockFault most count rest _ = ⊥

-- The bytes `behind` have some whole blocks, of messages with at most `most` bytes. The bytes after these have
-- the fault `error`.
pub record BlocksFault (most : ℕ) (behind : List ℕ) (error : FileError) : Type 0 where
  pub messages : List (List ℕ)
  pub rest : List ℕ
  pub each : AllByRecursion (IsWithin most) messages
  pub parts : behind ≡ blocks messages ++ rest
  pub fault : BlockFault most (length messages) rest error

-- A file of version 1 or 2 has a valid head and a fault in its blocks.
abbrev pub FaultInBlocks : ℕ → List ℕ → FileError → Type 0
FaultInBlocks most bytes error =
    (behind : List ℕ) × (IsBody1 bytes behind ⊎ IsBody2 bytes behind) × BlocksFault most behind error

-- The bytes, which follow the records of `count` messages, begin neither with a whole record nor with a shut gate.
pub data IsDamaged (most count : ℕ) (rest : List ℕ) : Type 0 where
  -- The file ends where a gate has to be.
  no_gate : rest ≡ [] → IsDamaged most count rest
  -- It ends after an open gate.
  no_kind : rest ≡ 1 ∷ [] → IsDamaged most count rest
  -- The byte after an open gate is neither 0 nor 1.
  bad_kind : (kind : ℕ) (more : List ℕ) → rest ≡ 1 ∷ kind ∷ more → 1 < kind → IsDamaged most count rest
  -- It ends before the third byte of the closing record.
  cut_closing : rest ≡ 1 ∷ 1 ∷ [] → IsDamaged most count rest
  -- It ends within the block of a message that has a number.
  cut_message : (more : List ℕ) → count < MAX_MESSAGES → rest ≡ 1 ∷ 0 ∷ more → EndsInBlock most more →
      IsDamaged most count rest

-- The bytes begin the record of a message: an open gate, and the byte 0.
pub record StartsMessage (rest : List ℕ) : Type 0 where
  -- the bytes from the message's block on
  pub more : List ℕ
  pub parts : rest ≡ 1 ∷ 0 ∷ more

-- The bytes begin with the record of a message whose length is `len`, which is above `most`.
pub record IsLongRecord (most : ℕ) (rest : List ℕ) (len : ℕ) : Type 0 where
  -- the bytes from the message's block on
  pub more : List ℕ
  pub parts : rest ≡ 1 ∷ 0 ∷ more
  pub whole : 2 ≤ length more
  pub stated : big_number 2 more ≡ len
  pub long : most < len

-- The fault of the bytes that follow the records of `count` messages: another message would have no number, or it is
-- too long, or there is neither a whole record nor a shut gate.
abbrev pub RecordFault : ℕ → ℕ → List ℕ → FileError → Type 0
RecordFault most count rest Full = (MAX_MESSAGES ≤ count) × StartsMessage rest
RecordFault most count rest (TooLong len) = (count < MAX_MESSAGES) × IsLongRecord most rest len
RecordFault most count rest (Damaged number) = (number ≡ count + 1) × IsDamaged most count rest
RecordFault most count rest _ = ⊥

-- The bytes `behind` are the records of these messages, which have at most `most` bytes, and then the bytes `rest`.
pub record HasRecords (most : ℕ) (behind : List ℕ) (messages : List (List ℕ)) (rest : List ℕ) : Type 0 where
  pub listed : AreMessages most messages
  pub parts : behind ≡ records messages ++ rest

-- The bytes `behind` have the records of these messages. The bytes after these have the fault `error`.
pub record PrecedeRecord (most : ℕ) (behind : List ℕ) (messages : List (List ℕ)) (error : FileError) : Type 0 where
  pub rest : List ℕ
  pub front : HasRecords most behind messages rest
  pub fault : RecordFault most (length messages) rest error

-- The bytes `behind` have the records of some messages. The bytes after these have the fault `error`.
pub record RecordsFault (most : ℕ) (behind : List ℕ) (error : FileError) : Type 0 where
  pub messages : List (List ℕ)
  pub before : PrecedeRecord most behind messages error

-- A file of version 3 has a valid head and a fault in its records.
abbrev pub FaultInRecords : ℕ → List ℕ → FileError → Type 0
FaultInRecords most bytes error = (behind : List ℕ) × IsBody3 bytes behind × RecordsFault most behind error

-- A file of version 2 ends after a whole block, and it states another number of messages than it has.
pub record IsMiscounted (most : ℕ) (bytes : List ℕ) (count found : ℕ) : Type 0 where
  pub behind : List ℕ
  pub head : IsBody2 bytes behind
  pub messages : List (List ℕ)
  pub each : AllByRecursion (IsWithin most) messages
  pub few : length messages < MAX_NUMBER
  pub parts : behind ≡ blocks messages
  pub stated : count ≡ big_number 8 (drop 19 bytes)
  pub counted : found ≡ length messages
  pub differs : count ≡ found → ⊥

-- The error states why the bytes are not the file of a journal whose messages have at most `most` bytes. It is not
-- `Read`, `Write` or `Memory`.
abbrev pub JournalFault : ℕ → List ℕ → FileError → Type 0
JournalFault most bytes (Short len) =
    (len ≡ length bytes) × ((length bytes < 18) ⊎ (IsVersion2 bytes × (length bytes < 27)))
JournalFault most bytes BadMagic =
    (18 ≤ length bytes) × (take 8 bytes ≡ magic_1 → ⊥) × (take 8 bytes ≡ magic_2 → ⊥) × (take 8 bytes ≡ magic_3 → ⊥)
JournalFault most bytes (BadFlag byte) =
    IsVersion2 bytes × (27 ≤ length bytes) × (slice_index bytes 18 ≡ byte) × IsBadFlag byte
JournalFault most bytes Full = FaultInBlocks most bytes Full ⊎ FaultInRecords most bytes Full
JournalFault most bytes (TooLong len) =
    FaultInBlocks most bytes (TooLong len) ⊎ FaultInRecords most bytes (TooLong len)
JournalFault most bytes (BlockCut number) = FaultInBlocks most bytes (BlockCut number)
JournalFault most bytes (Damaged number) = FaultInRecords most bytes (Damaged number)
JournalFault most bytes (CountDiffers count found) = IsMiscounted most bytes count found
JournalFault most bytes Read = ⊥
JournalFault most bytes Memory = ⊥
JournalFault most bytes Write = ⊥

-- The error that a call returns if reading the source ends with this fault.
abbrev pub from_read_fault : ReadFault → FileError
from_read_fault reading.Read = Read
from_read_fault reading.Memory = Memory
