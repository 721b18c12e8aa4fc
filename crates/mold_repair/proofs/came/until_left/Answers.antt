use Rattle.std.proofs.Common.{arith, inl, inr}
use Rattle.mold_repair.proofs.came.until_left.Goals as goal

pub returns-then-is_spanned-clause-ends : goal.returns-then-is_spanned-clause-ends
returns-then-is_spanned-clause-ends c = inl (omega (arith, c.min.ensures, c.settles.ensures))

pub returns-clause-ends : goal.returns-clause-ends
returns-clause-ends c = inr (c.is_spanned.ensures c.if-is_spanned.false)
