-- The downstream packet and its encoding.
use Rattle.std.specs.Prelude.{◌≡◌, ℕ, ◌+◌, ◌<◌, ◌^◌, List, [], ◌++◌, length, ◌==◌, if◌then◌else◌}
use Rattle.std.specs.List.{AllByRecursion}
use Rattle.mold_wire.specs.Block.{IsMessage, blocks}
use Rattle.mold_wire.specs.Header.{header_bytes}
use Rattle.mold_wire.specs.declared.header.TheConstants.{END_OF_SESSION}
use Rattle.mold_wire.specs.declared.packet.Packet.{Packet}
use Rattle.mold_wire.specs.declared.packet.Body.{Body}
use Rattle.mold_wire.specs.declared.packet.Body.TheVariants.{Data, Heartbeat, End}

-- The messages of a packet, in order. A heartbeat and an end packet have none.
abbrev pub messages_of : Body → List (List ℕ)
messages_of (Data messages) = messages
messages_of Heartbeat = []
messages_of End = []

-- The message count in the header: 0 for a heartbeat, `END_OF_SESSION` for an end packet, otherwise the
-- number of messages.
abbrev pub count_of : Body → ℕ
count_of (Data messages) = length messages
count_of Heartbeat = 0
count_of End = END_OF_SESSION

-- The number of blocks that follow a header with this message count. No blocks follow the header of an end
-- packet.
abbrev pub stated_blocks : ℕ → ℕ
stated_blocks count = if count == END_OF_SESSION then 0 else count

-- The body is valid: a data packet has 1 to `MAX_COUNT` messages, each of at most 65,535 bytes. A heartbeat
-- and an end packet are always valid.
abbrev pub IsBody : Body → Type 0
IsBody (Data messages) = (0 < length messages) × (length messages < END_OF_SESSION) × AllByRecursion IsMessage messages
IsBody Heartbeat = Unit {0}
IsBody End = Unit {0}

-- The body is valid, and it has this message count and these messages.
pub record BodyIs (count : ℕ) (messages : List (List ℕ)) (body : Body) : Type 0 where
  pub is_body : IsBody body
  pub counted : count_of body ≡ count
  pub carried : messages_of body ≡ messages

-- The packet is valid, so it has an encoding. Its session has ten bytes, its sequence number is below 2^64,
-- and its body is valid.
pub record IsPacket (packet : Packet) : Type 0 where
  pub session : length packet.session.0 ≡ 10
  pub sequence : packet.sequence < 2 ^ 64
  pub body : IsBody packet.body

-- The encoding of a packet: the header and the blocks, and nothing else.
abbrev pub spelling_of : Packet → List ℕ
spelling_of packet =
    header_bytes packet.session.0 packet.sequence (count_of packet.body) ++ blocks (messages_of packet.body)

-- The bytes are the encoding of the packet.
pub record Spells (packet : Packet) (bytes : List ℕ) : Type 0 where
  pub is_packet : IsPacket packet
  pub spelled : bytes ≡ spelling_of packet

-- The top of a packet: one more than the number of its last message. For a heartbeat or an end packet, it is
-- the sequence number.
abbrev pub top_of : Packet → ℕ
top_of packet = packet.sequence + length (messages_of packet.body)
