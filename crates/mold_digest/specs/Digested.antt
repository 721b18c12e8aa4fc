-- Datagrams in which each message is replaced by its digest.
use Rattle.std.specs.Prelude.{ℕ, List, map, Result, Ok, Err}
use Rattle.mold_wire.specs.Packet.{spelling_of}
use Rattle.mold_wire.specs.Reading.{reading}
use Rattle.mold_wire.specs.declared.error.DecodeError.{DecodeError}
use Rattle.mold_wire.specs.declared.packet.Packet.{Packet}
use Rattle.mold_wire.specs.declared.packet.Body.{Body}
use Rattle.mold_wire.specs.declared.packet.Body.TheVariants.{Data, Heartbeat, End}
use Rattle.mold_digest.specs.Key.{digest}

-- The digests of the messages, in order.
abbrev pub digests : List ℕ → List (List ℕ) → List (List ℕ)
digests key messages = map (digest key) messages

-- The body with each message replaced by its digest.
abbrev pub digested_body : List ℕ → Body → Body
digested_body key (Data messages) = Data (digests key messages)
digested_body key Heartbeat = Heartbeat
digested_body key End = End

-- The packet with each message replaced by its digest. Its session and its sequence number stay.
abbrev pub digested_packet : List ℕ → Packet → Packet
digested_packet key packet =
    record { session = packet.session; sequence = packet.sequence; body = digested_body key packet.body }

-- The digested datagram, from its bytes and from their reading. Bytes that don't encode a packet stay.
abbrev pub digested_read : List ℕ → List ℕ → Result Packet DecodeError → List ℕ
digested_read key bytes (Ok packet) = spelling_of (digested_packet key packet)
digested_read key bytes (Err error) = bytes

-- The datagram with each message replaced by its digest.
unfoldable pub digested : List ℕ → List ℕ → List ℕ
digested key bytes = digested_read key bytes (reading bytes)

-- The datagrams with each message replaced by its digest.
abbrev pub digested_list : List ℕ → List (List ℕ) → List (List ℕ)
digested_list key list = map (digested key) list
