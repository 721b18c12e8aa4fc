use Rattle.std.proofs.Common.{map}
use Rattle.mold_capture.proofs.CheckLemmas.{HasChecked}
use Rattle.mold_capture.proofs.checking.check.Given as goal

abbrev pub invariant-loop-index : goal.invariant-loop-index
invariant-loop-index l = HasChecked (map (λ b. b.now) l.list) l.index l.checker
