use Rattle.std.proofs.Common.{◌≡◌, ◌-◌, ◌<◌, ◌≤◌, ℕ}
use Rattle.mold_receiver.specs.Occupied.{bit_of}
use Rattle.mold_receiver.proofs.occupied.Levels.first_clear.Given as goal

-- The bits below bit `from` are set.
abbrev pub invariant-loop-from : goal.invariant-loop-from
invariant-loop-from l = record {
  low : l.fn.from ≤ l.from;
  high : l.from ≤ l.to;
  set : (i : ℕ) → l.fn.from ≤ i → i < l.from → bit_of l.fn.self.bits.items i ≡ 1;
}

abbrev pub decreases-loop-from : goal.decreases-loop-from
decreases-loop-from l = l.to - l.from
