use Rattle.std.proofs.Common.{◌-◌, length}
use Rattle.mold_pacing.specs.Flight.{is_stale}
use Rattle.mold_pacing.specs.Table.{NonePass}
use Rattle.mold_pacing.proofs.place.find_stale.Given as goal

abbrev pub invariant-loop-index : goal.invariant-loop-index
invariant-loop-index l = NonePass (is_stale l.now l.number) l.flights l.index

abbrev pub decreases-loop-index : goal.decreases-loop-index
decreases-loop-index l = length l.flights - l.index
