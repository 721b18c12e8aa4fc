use Rattle.std.proofs.Common.{◌≡◌, ◌≤◌, length, take, drop, map}
use Rattle.mold_capture.specs.Verdict.{ranges_of}
use Rattle.mold_ffi.specs.Checker.MoldRange.{range_of}
use Rattle.mold_ffi.proofs.checker.mold_range.fill_places.Given as goal

-- As many elements are written as ranges were read.
abbrev pub invariant-loop-range : goal.invariant-loop-range
invariant-loop-range l = record {
  counted : l.filled ≡ l.range-index;
  room : l.filled ≤ length l.fn.places;
  told : map range_of (take l.filled l.places) ≡ take l.filled (ranges_of l.fn.missing);
  behind : drop l.filled l.places ≡ drop l.filled l.fn.places;
}
