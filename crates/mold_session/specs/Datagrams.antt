-- The data packets that messages are packed into.
use Rattle.std.specs.Prelude.{ℕ, zero, suc, ◌+◌, List, [], ◌∷◌, length, drop, ◌==◌, if◌then◌else◌}
use Rattle.mold_wire.specs.declared.session.Session.{Session}
use Rattle.mold_wire.specs.declared.packet.Packet.{Packet}
use Rattle.mold_wire.specs.declared.packet.Body.TheVariants.{Data}
use Rattle.mold_wire.specs.Packing.{front}

-- A data packet of these messages. The first message has the number `sequence`.
abbrev pub data_packet : Session → ℕ → List (List ℕ) → Packet
data_packet session sequence messages = record { session = session; sequence = sequence; body = Data messages }

-- The messages of the first packet: the longest prefix that fits.
abbrev pub first_part : ℕ → List (List ℕ) → List (List ℕ)
first_part limit messages = front limit messages (length messages)

-- The first packets that the messages are packed into, at most as many as the second argument. Each has the
-- longest prefix of the remaining messages that fits.
unfoldable pub packing_within : ℕ → ℕ → Session → ℕ → List (List ℕ) → List Packet
packing_within limit zero session sequence messages = []
packing_within limit (suc most) session sequence messages =
    if length (first_part limit messages) == 0
    then []
    else data_packet session sequence (first_part limit messages)
    ∷ packing_within limit most session (sequence + length (first_part limit messages))
    (drop (length (first_part limit messages)) messages)

-- The messages packed into data packets, the first of which has the number `sequence`. Each packet has the
-- longest prefix of the remaining messages that fits.
unfoldable pub packing : ℕ → Session → ℕ → List (List ℕ) → List Packet
packing limit session sequence messages = packing_within limit (length messages) session sequence messages
