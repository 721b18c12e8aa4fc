-- The lines of packets: what each line of hexadecimal digits holds.
use Rattle.std.specs.Prelude.{ℕ, List, [], ◌∷◌, Result, Ok, Err}
use Rattle.hex.specs.Hex.{decode_of}
use Rattle.hex.specs.declared.error.FromHexError.{FromHexError}
use Rattle.mold_wire.specs.Reading.{reading}
use Rattle.mold_wire.specs.declared.error.DecodeError.{DecodeError}
use Rattle.mold_wire.specs.declared.packet.Packet.{Packet}

-- What a line holds: nothing, as it is empty; no hexadecimal digits, or an odd number of them; the bytes of a datagram
-- that encodes no packet, of which only the fault counts; or the bytes of a datagram that encodes a packet.
pub data Content : Type 0 where
  empty : Content
  not_hex : Content
  no_packet : DecodeError → Content
  packet : List ℕ → Content

-- What the line of these bytes holds, given their reading.
abbrev pub bytes_content : List ℕ → Result Packet DecodeError → Content
bytes_content bytes (Ok _) = packet bytes
bytes_content bytes (Err fault) = no_packet fault

-- What the line of these digits holds, which is not empty.
abbrev pub digits_content : Result (List ℕ) FromHexError → Content
digits_content (Ok bytes) = bytes_content bytes (reading bytes)
digits_content (Err _) = not_hex

-- What the line holds.
unfoldable pub content : List ℕ → Content
content [] = empty
content (byte ∷ bytes) = digits_content (decode_of (byte ∷ bytes))
