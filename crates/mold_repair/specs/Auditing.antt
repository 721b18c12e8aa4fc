-- The audit: the digests of the messages that a repairer delivered last.
use Rattle.std.specs.Prelude.{◌≡◌, ℕ, List, MatchOption, Ok, Option}
use Rattle.mold_audit.specs.Kept.{AgreesWith, HasNoted, IsContradiction}
use Rattle.mold_audit.specs.declared.audit.Audit.{Audit}
use Rattle.mold_pacing.specs.declared.gap.Gap.{Gap}
use Rattle.mold_receiver.specs.Store.{Message}
use Rattle.mold_repair.specs.Stats.{counted_contradiction}
use Rattle.mold_repair.specs.declared.stats.RepairCounts.{RepairCounts}
use Rattle.mold_wire.specs.Packet.{messages_of}
use Rattle.mold_wire.specs.Reading.{reading}
use Rattle.mold_wire.specs.declared.packet.Packet.{Packet}

-- The bytes encode a packet, and `found` is the least number with which it contradicts the audit, if it does.
pub record IsCompared (a : Audit) (bytes : List ℕ) (found : Option ℕ) : Type 0 where
  pub packet : Packet
  pub read : reading bytes ≡ Ok packet
  pub compared : MatchOption found (AgreesWith a packet.sequence (messages_of packet.body))
      (IsContradiction a packet.sequence (messages_of packet.body))

-- A datagram that was accepted was compared with the audit. Then these messages, which it delivered from the number
-- `first` on, were added to the audit.
pub record HasAudited (old new : Audit) (before after : RepairCounts) (bytes : List ℕ) (first : ℕ)
    (delivered : List Message) : Type 0 where
  -- The number of the contradiction, if there is one.
  pub found : Option ℕ
  pub is : IsCompared old bytes found
  pub counts : after ≡ counted_contradiction found before
  pub noted : HasNoted old new first delivered

-- If messages were given up, the stored messages that were then delivered were added to the audit.
abbrev pub HasAuditedLoss : Audit → Audit → List Message → Option Gap → Type 0
HasAuditedLoss old new delivered lost = MatchOption lost (new ≡ old) (λ gap. HasNoted old new gap.end delivered)
