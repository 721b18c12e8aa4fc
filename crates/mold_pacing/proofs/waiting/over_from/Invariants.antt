use Rattle.mold_pacing.proofs.WaitingLemmas.{IsOverFrom}
use Rattle.mold_pacing.proofs.waiting.over_from.Given as goal

abbrev pub invariant-loop-index : goal.invariant-loop-index
invariant-loop-index l = IsOverFrom l.flights l.index l.from
