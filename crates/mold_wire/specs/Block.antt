-- Message blocks and big-endian numbers, as the standard lays them out.
use Rattle.std.specs.Prelude.{◌≡◌, ℕ, zero, suc, ◌<◌, ◌^◌, List, [], ◌∷◌, ◌++◌, length, take, drop, get_or}
use Rattle.std.specs.List.{flat_map, AllByRecursion}
use Rattle.byteorder.specs.Endian.{big_bytes, big_number}

-- Every element of `bytes` is a byte.
abbrev pub IsBytes : List ℕ → Type 0
IsBytes bytes = (i : ℕ) → get_or bytes i 0 < 256

-- The two big-endian bytes of a number below 65,536: a message count or a block's length.
abbrev pub be16 : ℕ → List ℕ
be16 number = big_bytes 2 number

-- The eight big-endian bytes of a number below 2^64: a sequence number.
abbrev pub be64 : ℕ → List ℕ
be64 number = big_bytes 8 number

-- The message is short enough for a block's length field: it has at most 65,535 bytes. It may be empty.
abbrev pub IsMessage : List ℕ → Type 0
IsMessage message = length message < 2 ^ 16

-- The block of a message: two length bytes, then the data. The length does not count its own two bytes.
abbrev pub block : List ℕ → List ℕ
block message = be16 (length message) ++ message

-- The blocks of the messages, in order, without anything between them.
abbrev pub blocks : List (List ℕ) → List ℕ
blocks messages = flat_map block messages

-- The bytes are the block of `message` followed by `rest`.
pub record IsBlockAndRest (bytes message rest : List ℕ) : Type 0 where
  pub each : IsMessage message
  pub parts : bytes ≡ block message ++ rest

-- The bytes are `number` whole blocks followed by `rest`.
pub record AreBlocksAndRest (number : ℕ) (bytes rest : List ℕ) : Type 0 where
  -- The messages of these blocks.
  pub messages : List (List ℕ)
  pub counted : length messages ≡ number
  pub each : AllByRecursion IsMessage messages
  pub parts : bytes ≡ blocks messages ++ rest

-- The bytes do not start with a whole block.
abbrev pub BeginsNoBlock : List ℕ → Type 0
BeginsNoBlock bytes = (message more : List ℕ) → IsMessage message → bytes ≡ block message ++ more → ⊥

-- The bytes start with exactly `index` whole blocks: no whole block follows them.
pub record AreCutBlocks (index : ℕ) (bytes : List ℕ) : Type 0 where
  -- The bytes after the whole blocks.
  pub rest : List ℕ
  pub whole : AreBlocksAndRest index bytes rest
  pub cut : BeginsNoBlock rest

-- The messages of the first `count` blocks of the bytes. The definition reads the blocks without checking
-- that they are whole.
unfoldable pub messages_at : ℕ → List ℕ → List (List ℕ)
messages_at zero bytes = []
messages_at (suc count) bytes =
    take (big_number 2 bytes) (drop 2 bytes) ∷ messages_at count (drop (big_number 2 bytes) (drop 2 bytes))

-- The bytes are `count` whole blocks and nothing else.
pub record AreBlocks (count : ℕ) (bytes : List ℕ) : Type 0 where
  pub spelled : bytes ≡ blocks (messages_at count bytes)
  pub number : length (messages_at count bytes) ≡ count
  pub each : AllByRecursion IsMessage (messages_at count bytes)
