use Rattle.mold_pacing.proofs.WaitingLemmas.{IsFreeFrom}
use Rattle.mold_pacing.proofs.waiting.free_from.Given as goal

abbrev pub invariant-loop-index : goal.invariant-loop-index
invariant-loop-index l = IsFreeFrom l.flights l.number l.index l.from
