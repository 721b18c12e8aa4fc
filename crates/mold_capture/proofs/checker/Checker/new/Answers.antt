use Rattle.std.proofs.Common.{sym, subst}
use Rattle.std.specs.Prelude.{None}
use Rattle.mold_capture.specs.Seen.{Pairs, IsSound, seen_by}
use Rattle.mold_capture.proofs.SumLemmas.{sums_none}
use Rattle.mold_capture.proofs.checker.Checker.new.Goals as goal

pub invariant_of-result : goal.invariant_of-result
invariant_of-result c = subst (λ (p : Pairs). IsSound (seen_by None 1 None p)) (sym c.new.ensures) sums_none.sound
