use Rattle.std.proofs.Common.{◌≡◌, drop, max}
use Rattle.mold_pacing.specs.Delays.{greatest_on}
use Rattle.mold_pacing.proofs.delays.greatest_on.Given as goal

abbrev pub invariant-loop-index : goal.invariant-loop-index
invariant-loop-index l =
    max l.greatest (greatest_on l.line (drop l.index l.delays)) ≡ greatest_on l.line l.delays
