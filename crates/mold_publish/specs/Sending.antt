-- The packets that a publisher puts the messages of its input in.
use Rattle.std.specs.Prelude.{ℕ, ◌+◌, List, [], ◌∷◌, length, drop}
use Rattle.mold_input.specs.declared.input_kind.InputKind.{InputKind}
use Rattle.mold_input.specs.declared.input_kind.InputKind.TheVariants.{Lines, Blocks}
use Rattle.mold_wire.specs.declared.packet.Packet.{Packet}
use Rattle.mold_wire.specs.declared.packet.Body.TheVariants.{End}
use Rattle.mold_session.specs.Datagrams.{packing}
use Rattle.mold_session.specs.Journal.{JournalState}

-- The list without its last element.
unfoldable pub all_but_last : {X : Type 0} → List X → List X
all_but_last [] = []
all_but_last (x ∷ []) = []
all_but_last (x ∷ (y ∷ ys)) = x ∷ all_but_last (y ∷ ys)

-- The end packet of a session with these messages.
abbrev pub end_packet : JournalState → Packet
end_packet journal = record { session = journal.session; sequence = length journal.messages + 1; body = End }

-- The data packets of the journal's messages after the first `sent` messages.
abbrev pub packets_after : ℕ → ℕ → JournalState → List Packet
packets_after limit sent journal = packing limit journal.session (sent + 1) (drop sent journal.messages)

-- The packets that are sent of those of all messages before an entry that is refused. An input of lines leaves the last
-- packet out.
abbrev pub packets_before : InputKind → List Packet → List Packet
packets_before Lines packets = all_but_last packets
packets_before Blocks packets = packets
