use Rattle.std.proofs.Common.{◌-◌, ◌≤◌, length}
use Rattle.mold_pacing.proofs.TableLemmas.{AreClear}
use Rattle.mold_pacing.proofs.table.free_end.Given as goal

abbrev pub invariant-loop-index : goal.invariant-loop-index
invariant-loop-index l = record { clear : AreClear l.flights l.now l.index l.free.first; low : l.free.index ≤ l.index }

abbrev pub decreases-loop-index : goal.decreases-loop-index
decreases-loop-index l = length l.flights - l.index
