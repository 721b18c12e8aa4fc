-- How the next datagram of a plan is packed and sent.
use Rattle.std.specs.Prelude.{◌≡◌, ℕ, ◌+◌, ◌≤◌, ◌<◌, List, length}
use Rattle.mold_wire.specs.Packet.{Spells}
use Rattle.mold_wire.specs.Packer.{PackerState, IsLimit, Open}
use Rattle.mold_wire.specs.declared.limits.TheConstants.{MESSAGE_OVERHEAD}
use Rattle.mold_session.specs.Answer.{PlanState, moved, next_packet, next_part}
use Rattle.mold_session.specs.Journal.{JournalState, IsJournal}
use Rattle.mold_session.specs.Truthful.{IsTrueDatagram}

-- The plan's next packet was begun in the packer. It has `count` messages.
pub record HasPackedNext (old new : PackerState) (journal : JournalState) (plan : PlanState) (count : ℕ) : Type 0 where
  pub begun : new ≡ record {
    limit = old.limit;
    begun = Open plan.session plan.from (next_part journal.messages old.limit plan);
  }
  pub counted : count ≡ length (next_part journal.messages old.limit plan)
  pub within : plan.from + count ≤ plan.to
  -- a plan with remaining messages sends at least one
  pub some : plan.from < plan.to → 0 < count
  pub journaled : IsJournal journal

-- The plan's next packet, with `count` messages, was begun in the packer. A plan with remaining messages sends at least
-- one.
pub record HasBegunNext (old new : PackerState) (plan : PlanState) (count : ℕ) : Type 0 where
  pub messages : List (List ℕ)
  pub begun : new ≡ record { limit = old.limit; begun = Open plan.session plan.from messages }
  pub counted : count ≡ length messages
  pub within : plan.from + count ≤ plan.to
  pub some : plan.from < plan.to → 0 < count

-- The plan is for messages of the journal.
pub record IsPlanOf (journal : JournalState) (plan : PlanState) : Type 0 where
  pub session : plan.session ≡ journal.session
  pub to : plan.to ≤ length journal.messages + 1

-- The plan is for messages of the journal, and each of the journal's messages fits a datagram of this limit by itself.
pub record MayPack (journal : JournalState) (limit : ℕ) (plan : PlanState) : Type 0 where
  pub planned : IsPlanOf journal plan
  pub limited : IsLimit limit
  pub room : journal.max_message + MESSAGE_OVERHEAD ≤ limit

-- The bytes are the encoding of the plan's next packet, which is true of the journal. The plan was advanced past the
-- messages of that packet.
pub record HasSentNext (journal : JournalState) (limit : ℕ) (old new : PlanState) (bytes : List ℕ) : Type 0 where
  pub spelled : Spells (next_packet journal.messages limit old) bytes
  pub truth : IsTrueDatagram journal bytes
  pub moved : new ≡ moved old (length (next_part journal.messages limit old))
