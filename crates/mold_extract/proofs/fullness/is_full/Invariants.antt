use Rattle.std.proofs.Common.{◌-◌}
use Rattle.mold_extract.proofs.FullLemmas.{IsCarriedTo}
use Rattle.mold_extract.proofs.fullness.is_full.Given as goal

-- Each number from `first` up to, but not including, `next` is carried.
abbrev pub invariant-loop-next : goal.invariant-loop-next
invariant-loop-next l = IsCarriedTo l.checker.pairs l.first l.next

abbrev pub decreases-loop-next : goal.decreases-loop-next
decreases-loop-next l = l.end - l.next
