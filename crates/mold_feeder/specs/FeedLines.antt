-- What a publisher sends on its lines.
use Rattle.std.specs.Prelude.{◌≡◌, ℕ, Bool, List, [], ◌∷◌, ◌++◌, replicate, Option, None, Some}
use Rattle.mold_port_set.specs.PortSet.{Sent, sent_by}
use Rattle.mold_wire.specs.Packet.{spelling_of}
use Rattle.mold_wire.specs.declared.packet.Packet.{Packet}
use Rattle.mold_feeder.specs.SendCounts.{counted}
use Rattle.mold_feeder.specs.declared.feed_lines.FeedLines.{FeedLines}
use Rattle.mold_feeder.specs.declared.send_counts.LineCounts.{LineCounts}
use Rattle.mold_feeder.specs.declared.send_counts.SendCounts.{SendCounts}

-- What sending a datagram on line B adds to the sent datagrams. `fails` states whether the send fails.
abbrev pub sent_on_b : {P : Type 0} → Bool → Option P → List ℕ → List (Sent P)
sent_on_b fails None datagram = []
sent_on_b fails (Some b) datagram = sent_by fails 1 b datagram

-- What sending a datagram on line A and then on line B adds to the sent datagrams. The two Booleans state whether the
-- sends fail.
abbrev pub sent_on_both : {P : Type 0} → Bool → Bool → FeedLines P → List ℕ → List (Sent P)
sent_on_both fails_a fails_b lines datagram =
    sent_by fails_a 0 lines.a datagram ++ sent_on_b fails_b lines.b datagram

-- The counts of line B after a send on it. Without a line B they stay the same.
abbrev pub counted_on_b : {P : Type 0} → Bool → Option P → SendCounts → SendCounts
counted_on_b fails None counts = counts
counted_on_b fails (Some b) counts = counted fails counts

-- What was sent on the lines, and the counts of the sends.
pub record LinesState (P : Type 0) : Type 0 where
  pub sent : List (Sent P)
  pub counts : LineCounts

-- The lines on which these datagrams were sent, with these counts of the sends.
abbrev pub lines_at : {P : Type 0} → List (Sent P) → LineCounts → LinesState P
lines_at sent counts = record { sent = sent; counts = counts }

-- The lines after a datagram was sent on line A and then on line B. The two Booleans state whether the sends fail.
abbrev pub after_both : {P : Type 0} → Bool → Bool → FeedLines P → List ℕ → LinesState P → LinesState P
after_both fails_a fails_b lines datagram old =
    lines_at (old.sent ++ sent_on_both fails_a fails_b lines datagram)
    (record { a = counted fails_a old.counts.a; b = counted_on_b fails_b lines.b old.counts.b })

-- The datagrams were sent in order, each on line A and then on line B. Any of the sends may have failed, and each is
-- counted.
abbrev pub SendsOn : {P : Type 0} → FeedLines P → List (List ℕ) → LinesState P → LinesState P → Type 0
SendsOn lines [] old new = new ≡ old
SendsOn lines (datagram ∷ datagrams) old new =
    (fails_a : Bool) × (fails_b : Bool)
    × SendsOn lines datagrams (after_both fails_a fails_b lines datagram old) new

-- The datagram of the packet, if there is a packet.
abbrev pub datagram_of : Option Packet → List (List ℕ)
datagram_of None = []
datagram_of (Some packet) = spelling_of packet ∷ []

-- The datagram of the packet this many times, if there is a packet.
abbrev pub repeated : ℕ → Option Packet → List (List ℕ)
repeated times None = []
repeated times (Some packet) = replicate times (spelling_of packet)
