use Rattle.std.proofs.Common.{◌≡◌, ◌≤◌, ◌-◌, ℕ, Some, length, slice_get}
use Rattle.mold_pacing.specs.Table.{AreBelow}
use Rattle.mold_pacing.specs.declared.flight.Flight.{Flight}
use Rattle.mold_pacing.proofs.table.count_below.Given as goal

abbrev pub invariant-loop-low : goal.invariant-loop-low
invariant-loop-low l = record {
  within : l.high ≤ length l.flights;
  order : l.low ≤ l.high;
  below : AreBelow l.flights l.low l.number;
  above : (i : ℕ) (f : Flight) → l.high ≤ i → slice_get l.flights i ≡ Some f → l.number ≤ f.first;
}

abbrev pub decreases-loop-low : goal.decreases-loop-low
decreases-loop-low l = l.high - l.low
