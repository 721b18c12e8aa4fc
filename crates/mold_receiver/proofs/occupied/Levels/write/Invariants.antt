use Rattle.std.proofs.Common.{◌-◌, ◌≤◌}
use Rattle.std.specs.Prelude.{if◌then◌else◌}
use Rattle.mold_receiver.specs.Occupied.{AreLevels, AreWritten}
use Rattle.mold_receiver.proofs.occupied.Levels.write.Given as goal

-- The bits below bit `from` are written.
abbrev pub invariant-loop-from : goal.invariant-loop-from
invariant-loop-from l = record {
  levels : AreLevels l.self;
  low : l.fn.from ≤ l.from;
  high : l.from ≤ l.to;
  written : AreWritten l.initial.self.bits.items l.self.bits.items l.fn.from l.from (if l.set then 1 else 0);
}

abbrev pub decreases-loop-from : goal.decreases-loop-from
decreases-loop-from l = l.to - l.from
