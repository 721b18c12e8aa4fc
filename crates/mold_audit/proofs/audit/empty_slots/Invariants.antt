use Rattle.mold_audit.specs.Kept.{AreEmptied}
use Rattle.mold_audit.proofs.audit.empty_slots.Given as goal

abbrev pub invariant-loop-number : goal.invariant-loop-number
invariant-loop-number l = AreEmptied l.initial.slots l.slots l.from l.number l.to
