-- Where the messages of a packet are in its bytes.
use Rattle.std.specs.Prelude.{ℕ, ◌+◌, List, [], ◌∷◌, ◌++◌, length, take, drop, Result, Ok, Err}
use Rattle.mold_wire.specs.Packet.{messages_of}
use Rattle.mold_wire.specs.declared.error.DecodeError.{DecodeError}
use Rattle.mold_wire.specs.declared.header.TheConstants.{HEADER_LENGTH}
use Rattle.mold_wire.specs.declared.packet.Packet.{Packet}
use Rattle.mold_ffi.specs.declared.packets.mold_place.MoldPlace.{MoldPlace}

-- The places of messages whose blocks follow one another from the offset `at` on.
unfoldable pub places_of : ℕ → List (List ℕ) → List MoldPlace
places_of at [] = []
places_of at (message ∷ messages) =
    record { offset = at + 2; length = length message } ∷ places_of (at + (2 + length message)) messages

-- The array `old` with its first elements replaced by `found`, as many as it has room for.
abbrev pub written_front : List MoldPlace → List MoldPlace → List MoldPlace
written_front found old = take (length old) found ++ drop (length found) old

-- The array of places after decoding a packet: it begins with the places of the messages. After a fault it is
-- unchanged.
abbrev pub places_read : Result Packet DecodeError → List MoldPlace → List MoldPlace
places_read (Ok packet) old = written_front (places_of HEADER_LENGTH (messages_of packet.body)) old
places_read (Err error) old = old
