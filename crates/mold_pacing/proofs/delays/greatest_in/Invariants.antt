use Rattle.std.proofs.Common.{◌≡◌, drop, max}
use Rattle.mold_pacing.specs.Delays.{greatest_stamp}
use Rattle.mold_pacing.proofs.delays.greatest_in.Given as goal

abbrev pub invariant-loop-index : goal.invariant-loop-index
invariant-loop-index l = max l.greatest (greatest_stamp (drop l.index l.delays)) ≡ greatest_stamp l.delays
