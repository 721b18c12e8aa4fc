use Rattle.std.proofs.Common.{◌≡◌, ℕ, ◌<◌, ◌≤◌, ◌-◌, true}
use Rattle.mold_pacing.specs.Flight.{ArePassed, in_flight}
use Rattle.mold_repair.specs.Missing.{IsMissing, IsWanted}
use Rattle.mold_repair.specs.Polls.{IsSentFor}
use Rattle.mold_repair.proofs.gaps.least_free.Given as goal

abbrev pub invariant-loop-from : goal.invariant-loop-from
invariant-loop-from l = record {
  sent : (number : ℕ) → number < l.from.number → IsWanted l.arbiter.view l.pacer.state.ripe number →
      IsSentFor l.pacer number;
  ahead : (time q : ℕ) → time < l.until → q < l.from.number → IsMissing l.arbiter.view q →
      in_flight time q l.pacer.flights.items ≡ true;
  later : l.pacer.state.now < l.until;
  passed : ArePassed l.pacer.flights.items l.pacer.state.now l.from.index l.from.number;
  low : l.arbiter.view.next ≤ l.from.number;
}

abbrev pub decreases-loop-from : goal.decreases-loop-from
decreases-loop-from l = l.limit - l.from.number
