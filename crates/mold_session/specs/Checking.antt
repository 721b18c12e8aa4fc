-- How the bytes of a file are checked without memory for its messages.
use Rattle.std.specs.Prelude.{◌≡◌, ℕ, ◌≤◌, Bool, List, ◌∷◌, ◌++◌, length, map, take, drop}
use Rattle.std.specs.List.{AllByRecursion}
use Rattle.byteorder.specs.Endian.{big_number}
use Rattle.mold_wire.specs.Block.{be16, block, blocks}
use Rattle.mold_wire.specs.declared.block.TheConstants.{MAX_MESSAGE}
use Rattle.mold_session.specs.FileFault.{IsBody1, IsBody2, IsBody3, HasRecords}
use Rattle.mold_session.specs.Journal.{AreMessages, IsWithin}
use Rattle.mold_session.specs.LengthTaker.{HasTakenLengths}
use Rattle.mold_session.specs.Loading.{messages_spelling}
use Rattle.mold_session.specs.Records.{record_of, EndsRecords}
use Rattle.mold_session.specs.declared.file_version.FileVersion.{FileVersion}
use Rattle.mold_session.specs.declared.file_version.FileVersion.TheVariants.{One, Two, Three}

-- The bytes have a valid head of this version, and after it come the bytes `behind`.
abbrev pub IsBody : List ℕ → List ℕ → FileVersion → Type 0
IsBody bytes behind One = IsBody1 bytes behind
IsBody bytes behind (Two count) = IsBody2 bytes behind × (count ≡ big_number 8 (drop 19 bytes))
IsBody bytes behind Three = IsBody3 bytes behind

-- The bytes are a block, of a message with at most `most` bytes, and then the bytes `behind`.
pub record HasBlock (most : ℕ) (bytes behind : List ℕ) : Type 0 where
  pub message : List ℕ
  pub within : IsWithin most message
  pub parts : bytes ≡ block message ++ behind

-- The bytes are the blocks of `count` messages with at most `most` bytes, and then the bytes `rest`.
pub record HasCounted (most count : ℕ) (bytes rest : List ℕ) : Type 0 where
  pub messages : List (List ℕ)
  pub listed : AreMessages most messages
  pub counted : count ≡ length messages
  pub parts : bytes ≡ blocks messages ++ rest

-- The bytes are the record of a message with at most `most` bytes, and then the bytes `behind`.
pub record HasRecord (most : ℕ) (bytes behind : List ℕ) : Type 0 where
  pub message : List ℕ
  pub within : IsWithin most message
  pub parts : bytes ≡ record_of message ++ behind

-- The bytes begin with the record of a message of `len` bytes, at most `most`, up to the message: an open gate, the byte
-- 0 and the length.
pub record BeginsRecord (most : ℕ) (bytes : List ℕ) (len : ℕ) : Type 0 where
  pub within : len ≤ most
  pub starts : take 4 bytes ≡ 1 ∷ 0 ∷ be16 len

-- The bytes are the records of `count` messages with at most `most` bytes, and then the bytes `rest`.
pub record HasCountedRecords (most count : ℕ) (bytes rest : List ℕ) : Type 0 where
  pub messages : List (List ℕ)
  pub has : HasRecords most bytes messages rest
  pub counted : count ≡ length messages

-- The bytes are the closing record or a shut gate, and any bytes may follow.
pub record IsEnd (bytes : List ℕ) : Type 0 where
  pub closed : Bool
  pub ends : EndsRecords closed bytes

-- The bytes are records of messages with at most `most` bytes, and then what ends them.
pub record HasEnded (most : ℕ) (bytes : List ℕ) : Type 0 where
  pub messages : List (List ℕ)
  pub rest : List ℕ
  pub has : HasRecords most bytes messages rest
  pub end : IsEnd rest

-- The first `len` bytes are whole blocks, of `count` messages, and there are at most `limit` of them.
pub record AreWholeBlocks (limit : ℕ) (bytes : List ℕ) (len count : ℕ) : Type 0 where
  pub messages : List (List ℕ)
  pub few : length messages ≤ limit
  pub each : AllByRecursion (IsWithin MAX_MESSAGE) messages
  pub counted : count ≡ length messages
  pub within : len ≤ length bytes
  pub parts : take len bytes ≡ blocks messages

-- The bytes are the encoding of a message of `len` bytes, which is at most `most`, and then the bytes `behind`.
pub record HasLength (spelling : List ℕ → List ℕ) (most : ℕ) (bytes : List ℕ) (len : ℕ) (behind : List ℕ) : Type 0 where
  pub message : List ℕ
  pub within : IsWithin most message
  pub counted : len ≡ length message
  pub parts : bytes ≡ spelling message ++ behind

-- The bytes are the encodings of `count` messages with at most `most` bytes in a file of this version, and then the
-- bytes `rest`. The taker took their lengths.
pub record HasPassed {T : Type 0} (takes : T → T → List ℕ → Type 0) (version : FileVersion) (most count : ℕ)
    (bytes rest : List ℕ) (old new : T) : Type 0 where
  pub messages : List (List ℕ)
  pub each : AllByRecursion (IsWithin most) messages
  pub counted : count ≡ length messages
  pub parts : bytes ≡ messages_spelling version messages ++ rest
  pub taken : HasTakenLengths takes old new (map (λ message. length message) messages)

-- The first `len` bytes are the encodings of `count` messages with at most `most` bytes in a file of this version, and
-- there are at most `limit` of them. The taker took their lengths.
pub record PassesWhole {T : Type 0} (takes : T → T → List ℕ → Type 0) (version : FileVersion) (most limit : ℕ)
    (bytes : List ℕ) (len count : ℕ) (old new : T) : Type 0 where
  pub messages : List (List ℕ)
  pub few : length messages ≤ limit
  pub each : AllByRecursion (IsWithin most) messages
  pub counted : count ≡ length messages
  pub within : len ≤ length bytes
  pub parts : take len bytes ≡ messages_spelling version messages
  pub taken : HasTakenLengths takes old new (map (λ message. length message) messages)
