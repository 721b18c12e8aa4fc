use Rattle.std.proofs.Common.{◌≡◌, drop}
use Rattle.mold_pacing.specs.Asks.{are_gaps}
use Rattle.mold_pacing.proofs.gap.are_in_order.Given as goal

abbrev pub invariant-loop-gap : goal.invariant-loop-gap
invariant-loop-gap l = are_gaps l.low (drop l.gap-index l.gaps) ≡ are_gaps 0 l.gaps
