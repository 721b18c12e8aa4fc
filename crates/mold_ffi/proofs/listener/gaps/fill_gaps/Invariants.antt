use Rattle.std.proofs.Common.{◌≡◌, ◌+◌, ◌-◌, ◌≤◌, length, take, drop, map}
use Rattle.mold_ffi.specs.Checker.MoldRange.{range_of}
use Rattle.mold_ffi.specs.Listener.Gaps.{gaps_from}
use Rattle.mold_ffi.proofs.listener.gaps.fill_gaps.Given as goal

-- As many elements are written as gaps were found. Those at or above `at` remain.
abbrev pub invariant-loop-filled : goal.invariant-loop-filled
invariant-loop-filled l = record {
  left : drop l.filled (gaps_from l.fn.arbiter.view l.fn.from) ≡ gaps_from l.fn.arbiter.view l.at;
  room : l.filled ≤ length l.fn.ranges;
  counted : l.filled + length (gaps_from l.fn.arbiter.view l.at) ≡ length (gaps_from l.fn.arbiter.view l.fn.from);
  told : map range_of (take l.filled l.ranges) ≡ take l.filled (gaps_from l.fn.arbiter.view l.fn.from);
  behind : drop l.filled l.ranges ≡ drop l.filled l.fn.ranges;
}

abbrev pub decreases-loop-filled : goal.decreases-loop-filled
decreases-loop-filled l = length l.ranges - l.filled
