use Rattle.mold_receiver.specs.Wanted.{missing}
use Rattle.mold_rounds.proofs.CatchUpLemmas.{StandsAfter}
use Rattle.mold_rounds.proofs.catching.catch_up.Given as goal

abbrev pub invariant-loop-request : goal.invariant-loop-request
invariant-loop-request l =
    StandsAfter l.initial.receiver l.initial.batch l.journal l.initial.server l.count l.receiver l.batch l.server

abbrev pub decreases-loop-request : goal.decreases-loop-request
decreases-loop-request l = missing l.receiver
