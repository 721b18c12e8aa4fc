-- The reading of a datagram as a function that is defined for all bytes. `laws::reading_law` proves that the
-- reading is the packet that the bytes encode, or their fault.
use Rattle.std.specs.Prelude.{ℕ, zero, suc, ◌+◌, ◌-◌, List, [], ◌∷◌, length, take, drop, nat_le, nat_lt, ◌==◌}
use Rattle.std.specs.Prelude.{if◌then◌else◌, Result, Ok, Err}
use Rattle.byteorder.specs.Endian.{big_number}
use Rattle.mold_wire.specs.Packet.{stated_blocks}
use Rattle.mold_wire.specs.declared.header.TheConstants.{END_OF_SESSION, HEADER_LENGTH}
use Rattle.mold_wire.specs.declared.packet.Packet.{Packet}
use Rattle.mold_wire.specs.declared.packet.Body.{Body}
use Rattle.mold_wire.specs.declared.packet.Body.TheVariants.{Data, Heartbeat, End}
use Rattle.mold_wire.specs.declared.error.DecodeError.{DecodeError}
use Rattle.mold_wire.specs.declared.error.DecodeError.TheVariants.{Short, BlockCut, Trailing}

-- The reading of some blocks with one more block before them. A message is added to the list, or the index of
-- the cut block grows by one.
abbrev pub behind_first : List ℕ → Result (List (List ℕ) × List ℕ) ℕ → Result (List (List ℕ) × List ℕ) ℕ
behind_first message (Ok found) = Ok (message ∷ found.0, found.1)
behind_first message (Err index) = Err (suc index)

-- The reading of the first `number` blocks: their messages and the bytes after them, or the index of the
-- first block that is cut.
unfoldable pub blocks_at : ℕ → List ℕ → Result (List (List ℕ) × List ℕ) ℕ
blocks_at zero bytes = Ok ([], bytes)
blocks_at (suc number) bytes =
    if nat_le (2 + big_number 2 bytes) (length bytes)
    then behind_first (take (big_number 2 bytes) (drop 2 bytes))
    (blocks_at number (drop (big_number 2 bytes) (drop 2 bytes)))
    else Err 0

-- The body of a packet with this message count and these messages.
abbrev pub body_of : ℕ → List (List ℕ) → Body
body_of count messages = if count == 0 then Heartbeat else (if count == END_OF_SESSION then End else Data messages)

-- The reading of a datagram of `len` bytes, from its header fields and from the reading of its blocks.
abbrev pub packet_from : List ℕ → ℕ → ℕ → ℕ → Result (List (List ℕ) × List ℕ) ℕ → Result Packet DecodeError
packet_from session sequence count len (Ok found) =
    if length found.1 == 0
    then Ok (record { session = record { 0 = session }; sequence = sequence; body = body_of count found.0 })
    else Err (Trailing (len - length found.1))
packet_from session sequence count len (Err index) = Err (BlockCut index)

-- The packet that the bytes encode, or their fault.
unfoldable pub reading : List ℕ → Result Packet DecodeError
reading bytes =
    if nat_lt (length bytes) HEADER_LENGTH
    then Err (Short (length bytes))
    else packet_from (take 10 bytes) (big_number 8 (drop 10 bytes)) (big_number 2 (drop 18 bytes)) (length bytes)
    (blocks_at (stated_blocks (big_number 2 (drop 18 bytes))) (drop HEADER_LENGTH bytes))
