-- What a repairer delivers is what was published.
use Rattle.std.specs.Prelude.{◌≡◌, ◌⊎◌, ℕ, ◌+◌, Bool, List, [], ◌∷◌, ◌++◌, length, Some, None, slice_get}
use Rattle.mold_receiver.specs.Store.{Message}
use Rattle.mold_repair.specs.Run.{IsRepaired}
use Rattle.mold_repair.specs.declared.outcome.Outcome.{Outcome}
use Rattle.mold_repair.specs.declared.repairer.Repairer.{Repairer}
use Rattle.mold_repair.specs.declared.step.RepairStep.{RepairStep}
use Rattle.mold_repair.specs.declared.step.RepairStep.TheVariants.{Lost, Pass, Poll, Take}
use Rattle.mold_wire.specs.Block.{IsBytes}
use Rattle.mold_wire.specs.Packet.{Spells}
use Rattle.mold_wire.specs.Truth.{AreForeign, IsTruePacket, published_at}
use Rattle.mold_wire.specs.declared.packet.Packet.{Packet}
use Rattle.mold_wire.specs.declared.session.Session.{Session}

-- The datagram encodes a packet of the session, and the packet is true: it agrees with the published messages.
pub record IsTrueDatagram (named : Session) (published : List Message) (closed : Bool) (bytes : List ℕ) :
    Type 0 where
  pub packet : Packet
  pub spelled : Spells packet bytes
  pub session : packet.session ≡ named
  pub so : IsTruePacket packet published closed

-- The datagram is true, or it does not encode a packet of the session.
abbrev pub IsHarmless : Session → List Message → Bool → List ℕ → Type 0
IsHarmless session published closed bytes =
    IsTrueDatagram session published closed bytes ⊎ (IsBytes bytes × AreForeign session bytes)

-- Each datagram that the steps take is true, or does not encode a packet of the session.
abbrev pub AreHarmless : Session → List Message → Bool → List RepairStep → Type 0
AreHarmless session published closed [] = Unit {0}
AreHarmless session published closed (Take time origin datagram ∷ steps) =
    IsHarmless session published closed datagram.now × AreHarmless session published closed steps
AreHarmless session published closed (Poll time ∷ steps) = AreHarmless session published closed steps
AreHarmless session published closed (Lost time ∷ steps) = AreHarmless session published closed steps
AreHarmless session published closed (Pass time ∷ steps) = AreHarmless session published closed steps

-- The messages are the published ones with the numbers from `first` to just below `end`.
pub record IsPiece (published : List Message) (first end : ℕ) (messages : List Message) : Type 0 where
  pub counted : first + length messages ≡ end
  pub each : (i : ℕ) (message : Message) → slice_get messages i ≡ Some message →
      published_at published (first + i) ≡ Some message

-- Each step of the run delivered the published messages with its numbers.
abbrev pub ArePieces : List Message → (old new : Repairer) (steps : List RepairStep) (outcomes : List Outcome) →
    IsRepaired old new steps outcomes → Type 0
ArePieces published old new [] [] ran = Unit {0}
ArePieces published old new [] (o ∷ os) ran = ⊥
ArePieces published old new (step ∷ steps) [] ran = ⊥
ArePieces published old new (step ∷ steps) (o ∷ os) ran =
    IsPiece published o.delivered.first o.delivered.end ran.1.handed.messages
    × ArePieces published ran.0 new steps os ran.2

-- No step gave up messages.
abbrev pub AreWithoutLoss : List Outcome → Type 0
AreWithoutLoss [] = Unit {0}
AreWithoutLoss (o ∷ os) = (o.lost ≡ None) × AreWithoutLoss os

-- All messages that the run delivered, in order.
abbrev pub all_delivered : (old new : Repairer) (steps : List RepairStep) (outcomes : List Outcome) →
    IsRepaired old new steps outcomes → List Message
all_delivered old new [] [] ran = []
all_delivered old new [] (o ∷ os) ran = []
all_delivered old new (step ∷ steps) [] ran = []
all_delivered old new (step ∷ steps) (o ∷ os) ran =
    ran.1.handed.messages ++ all_delivered ran.0 new steps os ran.2
