use Rattle.mold_pacing.proofs.WaitingLemmas.{IsNextOver}
use Rattle.mold_pacing.proofs.waiting.next_over.Given as goal

abbrev pub invariant-loop-index : goal.invariant-loop-index
invariant-loop-index l = IsNextOver l.flights l.now l.index l.over
