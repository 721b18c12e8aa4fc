use Rattle.std.proofs.Common.{ℕ}
use Rattle.mold_audit.specs.Kept.{Contradicts}
use Rattle.mold_audit.proofs.audit.Audit.check.Given as goal

-- Exactly the remaining messages that contradict the audit are those of the packet that do.
abbrev pub invariant-loop-message : goal.invariant-loop-message
invariant-loop-message l = record {
  later :
      (number : ℕ) → Contradicts l.self l.first l.blocks number →
      Contradicts l.self l.number l.message-iterator number;
  before :
      (number : ℕ) → Contradicts l.self l.number l.message-iterator number →
      Contradicts l.self l.first l.blocks number;
}
