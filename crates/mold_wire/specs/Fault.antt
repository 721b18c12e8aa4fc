-- The faults of a datagram: why bytes do not encode a packet.
use Rattle.std.specs.Prelude.{◌≡◌, ℕ, ◌<◌, List, ◌++◌, length}
use Rattle.mold_wire.specs.Block.{be16, AreCutBlocks}
use Rattle.mold_wire.specs.Packet.{Spells}
use Rattle.mold_wire.specs.declared.header.TheConstants.{END_OF_SESSION, HEADER_LENGTH}
use Rattle.mold_wire.specs.declared.packet.Packet.{Packet}
use Rattle.mold_wire.specs.declared.error.DecodeError.{DecodeError}
use Rattle.mold_wire.specs.declared.error.DecodeError.TheVariants.{Short, BlockCut, Trailing}

-- The bytes are a data packet whose block with this index is cut. The count in its header is 1 to
-- `MAX_COUNT`, and exactly `index` whole blocks follow, fewer than the count states.
pub record IsCutPacket (index : ℕ) (bytes : List ℕ) : Type 0 where
  -- The session and the sequence number.
  pub front : List ℕ
  -- The message count.
  pub count : ℕ
  -- The bytes after the message count.
  pub behind : List ℕ
  pub front_length : length front ≡ 18
  pub below : index < count
  pub data_count : count < END_OF_SESSION
  pub parts : bytes ≡ front ++ (be16 count ++ behind)
  pub cut : AreCutBlocks index behind

-- The bytes are a whole packet of `at` bytes followed by at least one more byte.
pub record IsTrailing (at : ℕ) (bytes : List ℕ) : Type 0 where
  -- The packet that the first `at` bytes encode.
  pub packet : Packet
  -- The first `at` bytes.
  pub front : List ℕ
  -- The bytes after the packet.
  pub more : List ℕ
  pub whole : Spells packet front
  pub offset : length front ≡ at
  pub some : 0 < length more
  pub parts : bytes ≡ front ++ more

-- The error reports the fault of the bytes: its kind, and its length, index or offset.
abbrev pub FaultAt : DecodeError → List ℕ → Type 0
FaultAt (Short len) bytes = (length bytes < HEADER_LENGTH) × (len ≡ length bytes)
FaultAt (BlockCut index) bytes = IsCutPacket index bytes
FaultAt (Trailing at) bytes = IsTrailing at bytes
