use Rattle.mold_pacing.proofs.WalkLemmas.{IsWalked}
use Rattle.mold_pacing.proofs.table.first_free.Given as goal

abbrev pub invariant-loop-gap : goal.invariant-loop-gap
invariant-loop-gap l = IsWalked l.flights l.now l.ripe l.gaps l.gap-index l.cursor.index l.cursor.number
