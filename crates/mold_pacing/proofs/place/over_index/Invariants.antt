use Rattle.mold_pacing.specs.Flight.{is_over}
use Rattle.mold_pacing.specs.Table.{NonePass}
use Rattle.mold_pacing.proofs.place.over_index.Given as goal

abbrev pub invariant-loop-index : goal.invariant-loop-index
invariant-loop-index l = NonePass (is_over l.now) l.flights l.index
