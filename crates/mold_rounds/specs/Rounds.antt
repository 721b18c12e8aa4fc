-- The number of requests that a receiver needs, given the server's datagram limit and burst.
use Rattle.std.specs.Prelude.{ℕ, zero, suc, List, [], length, take, drop, sum_by, ◌==◌, if◌then◌else◌}
use Rattle.mold_rule.specs.Ranges.{Range}
use Rattle.mold_receiver.specs.Store.{Message}
use Rattle.mold_receiver.specs.View.{View}
use Rattle.mold_receiver.specs.Wanted.{gaps}
use Rattle.mold_session.specs.Answer.{between}
use Rattle.mold_session.specs.Datagrams.{packing}
use Rattle.mold_wire.specs.Packet.{messages_of}
use Rattle.mold_wire.specs.Packing.{front}
use Rattle.mold_wire.specs.declared.limits.TheConstants.{MAX_COUNT}
use Rattle.mold_wire.specs.declared.packet.Packet.{Packet}
use Rattle.mold_wire.specs.declared.session.Session.{Session}

-- The number of messages that the packets carry.
abbrev pub carried : List Packet → ℕ
carried packets = sum_by (λ packet. length (messages_of packet.body)) packets

-- A session with an empty name, for which `brought` packs messages to count them. The count is the same for every
-- session.
abbrev pub nameless : Session
nameless = record { 0 = [] }

-- The number of these missing messages that one request brings. A request asks for at most `MAX_COUNT` messages, and
-- the server sends at most `burst` responses.
abbrev pub brought : ℕ → ℕ → List Message → ℕ
brought limit burst messages = carried (take burst (packing limit nameless 1 (take MAX_COUNT messages)))

-- The number of requests that bring these missing messages, which have consecutive numbers, but at most `most`. The
-- count stops before the first message that fits no datagram.
unfoldable pub asks_within : ℕ → ℕ → ℕ → List Message → ℕ
asks_within limit burst zero messages = 0
asks_within limit burst (suc most) messages =
    if length (front limit messages MAX_COUNT) == 0
    then 0
    else suc (asks_within limit burst most (drop (brought limit burst messages) messages))

-- The number of requests that bring these missing messages, which have consecutive numbers. The count stops before the
-- first message that fits no datagram.
unfoldable pub asks : ℕ → ℕ → List Message → ℕ
asks limit burst messages = asks_within limit burst (length messages) messages

-- The published messages in a range of numbers.
abbrev pub messages_in : List Message → Range → List Message
messages_in published r = between published r.first (suc r.last)

-- The number of requests that bring everything a view misses: the sum over its gaps.
abbrev pub rounds : View → List Message → ℕ → ℕ → ℕ
rounds v published limit burst = sum_by (λ gap. asks limit burst (messages_in published gap)) (gaps v)
