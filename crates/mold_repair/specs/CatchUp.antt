-- Catching up: how many steps deliver messages until no old message is missing.
use Rattle.std.specs.Prelude.{◌≡◌, ℕ, ◌+◌, ◌-◌, ◌<◌, ◌≤◌, Bool, List, [], ◌∷◌, min, nat_lt, if◌then◌else◌, Err}
use Rattle.mold_receiver.specs.Store.{Message}
use Rattle.mold_receiver.specs.View.{View}
use Rattle.mold_receiver.specs.Wanted.{lacks}
use Rattle.mold_repair.specs.Run.{IsStepOf}
use Rattle.mold_repair.specs.Safe.{IsTrueDatagram}
use Rattle.mold_repair.specs.declared.outcome.Outcome.{Outcome}
use Rattle.mold_repair.specs.declared.repairer.Repairer.{Repairer}
use Rattle.mold_repair.specs.declared.step.RepairStep.{RepairStep}
use Rattle.mold_repair.specs.declared.step.RepairStep.TheVariants.{Lost, Pass, Poll, Take}
use Rattle.mold_rule.specs.Ranges.{lacking}
use Rattle.mold_rule.specs.declared.refusal.Refusal.TheVariants.{Memory}
use Rattle.mold_wire.specs.Packet.{top_of}

-- How many messages with numbers below `limit` are missing.
abbrev pub missing_below : View → ℕ → ℕ
missing_below v limit = lacking (lacks v.store) v.next (limit - v.next)

-- How many steps delivered a message with a number below `limit`.
abbrev pub count_deliveries : ℕ → List Outcome → ℕ
count_deliveries limit [] = 0
count_deliveries limit (o ∷ os) =
    (if nat_lt o.delivered.first (min limit o.delivered.end) then 1 else 0) + count_deliveries limit os

-- The datagram is true of the session, and has the first message that the view misses. A response to a request for that
-- message is such a datagram if it begins at the number requested and has at least one message.
pub record BringsFirst (v : View) (published : List Message) (closed : Bool) (bytes : List ℕ) : Type 0 where
  pub truth : IsTrueDatagram v.session published closed bytes
  pub begins : truth.packet.sequence ≤ v.next
  pub some : v.next < top_of truth.packet

-- The step takes a true datagram that has the first missing message.
abbrev pub TakesFirst : View → List Message → Bool → RepairStep → Type 0
TakesFirst v published closed (Take time origin datagram) = BringsFirst v published closed datagram.now
TakesFirst v published closed (Poll time) = ⊥
TakesFirst v published closed (Lost time) = ⊥
TakesFirst v published closed (Pass time) = ⊥

-- An allocation failed while the step took a datagram.
abbrev pub RanOutOfMemory : (old new : Repairer) (step : RepairStep) (outcome : Outcome) →
    IsStepOf old new step outcome → Type 0
RanOutOfMemory old new (Take time origin datagram) outcome is = is.stepped.0.result ≡ Err Memory
RanOutOfMemory old new (Poll time) outcome is = ⊥
RanOutOfMemory old new (Lost time) outcome is = ⊥
RanOutOfMemory old new (Pass time) outcome is = ⊥
