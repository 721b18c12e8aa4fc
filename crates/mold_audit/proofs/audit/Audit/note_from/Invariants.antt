use Rattle.std.proofs.Common.{◌+◌, ◌<◌, ◌≤◌, ◌^◌, drop, length}
use Rattle.mold_audit.specs.Kept.{HasNoted}
use Rattle.mold_audit.specs.declared.audit.Audit.{Audit}
use Rattle.mold_audit.proofs.audit.Audit.note_from.Given as goal

-- Noting the remaining messages ends what was begun.
abbrev pub invariant-loop-index : goal.invariant-loop-index
invariant-loop-index l = record {
  ends :
      (final : Audit) → HasNoted l.self final l.number (drop l.index l.batch.messages) →
      HasNoted l.initial.self final l.first (drop l.from l.batch.messages);
  ascending : l.self.next ≤ l.number;
  few : l.number + length (drop l.index l.batch.messages) < 2 ^ 64;
}
