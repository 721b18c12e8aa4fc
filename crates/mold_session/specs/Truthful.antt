-- What the datagrams of a publisher or a server state is true of the journal.
use Rattle.std.specs.Prelude.{◌≡◌, ℕ, ◌+◌, ◌≤◌, List, length}
use Rattle.mold_wire.specs.declared.limits.TheConstants.{MESSAGE_OVERHEAD}
use Rattle.mold_wire.specs.declared.packet.Packet.{Packet}
use Rattle.mold_wire.specs.Packet.{Spells}
use Rattle.mold_wire.specs.Truth.{IsTruePacket}
use Rattle.mold_wire.specs.Packer.{IsLimit}
use Rattle.mold_session.specs.Journal.{IsJournal, JournalState}

-- The bytes are the encoding of a packet of the journal's session that is true of the journal.
pub record IsTrueDatagram (journal : JournalState) (bytes : List ℕ) : Type 0 where
  pub packet : Packet
  pub spelled : Spells packet bytes
  pub session : packet.session ≡ journal.session
  -- what the packet states is true of the journal's messages
  pub so : IsTruePacket packet journal.messages journal.closed

-- A server with this limit may respond from the journal: each message fits a datagram by itself.
pub record MayAnswer (journal : JournalState) (limit : ℕ) : Type 0 where
  pub journaled : IsJournal journal
  pub named : length journal.session.0 ≡ 10
  pub limited : IsLimit limit
  pub room : journal.max_message + MESSAGE_OVERHEAD ≤ limit
