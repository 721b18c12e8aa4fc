use Rattle.std.proofs.Common.{◌≡◌, ◌++◌, ◌-◌, ℕ, true, drop, length, map, min, take}
use Rattle.std.specs.List.{list_all}
use Rattle.mold_pacing.specs.Flight.{waits_until}
use Rattle.mold_pacing.specs.Responses.{after_response}
use Rattle.mold_pacing.proofs.response.take_response.Given as goal

abbrev pub invariant-loop-index : goal.invariant-loop-index
invariant-loop-index l = record {
  changed : l.flights ≡ map (after_response l.settle l.now l.came.first l.came.end) (take l.index l.fn.flights)
      ++ drop l.index l.fn.flights;
  waits : (time : ℕ) → list_all (waits_until time) l.fn.flights ≡ true →
      list_all (waits_until (min time l.least)) l.flights ≡ true;
}

abbrev pub decreases-loop-index : goal.decreases-loop-index
decreases-loop-index l = length l.flights - l.index
