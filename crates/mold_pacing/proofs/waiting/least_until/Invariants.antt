use Rattle.std.proofs.Common.{◌≡◌, ◌<◌, ◌≤◌, ℕ, Some, slice_get}
use Rattle.mold_pacing.specs.declared.flight.Flight.{Flight}
use Rattle.mold_pacing.proofs.waiting.least_until.Given as goal

abbrev pub invariant-loop-index : goal.invariant-loop-index
invariant-loop-index l = record {
  later : l.now < l.least;
  waits : (i : ℕ) (f : Flight) → i < l.index → slice_get l.flights i ≡ Some f → l.least ≤ f.until;
}
