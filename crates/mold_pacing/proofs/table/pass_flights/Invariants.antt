use Rattle.std.proofs.Common.{ℕ, ◌-◌, ◌≤◌, ◌<◌, length}
use Rattle.mold_pacing.specs.Flight.{AllInFlight, ArePassed}
use Rattle.mold_pacing.proofs.table.pass_flights.Given as goal

abbrev pub invariant-loop-index : goal.invariant-loop-index
invariant-loop-index l = record {
  low : l.fn.from.number ≤ l.number;
  passed : ArePassed l.flights l.now l.index l.number;
  later : l.now < l.until;
  stays : (time : ℕ) → time < l.until → AllInFlight l.flights time l.fn.from.number l.number;
  busy : AllInFlight l.flights l.now l.fn.from.number l.number;
}

abbrev pub decreases-loop-index : goal.decreases-loop-index
decreases-loop-index l = length l.flights - l.index
