use Rattle.std.proofs.Common.{arith, inl, inr, refl}
use Rattle.mold_repair.proofs.FrontLemmas.{has_gap}
use Rattle.mold_repair.proofs.came.number_left.Goals as goal

pub returns-clause-begins : goal.returns-clause-begins
returns-clause-begins c =
    inr (
      c.is_spanned.ensures c.if-is_spanned.false,
      has_gap c.args.arbiter.now.view c.args.came c.held_end.result c.held_end.ensures (omega (arith, c.if-held_end-came.false)),
    )
