use Rattle.std.proofs.Common.{arith, sym}
use Rattle.mold_pacing.proofs.DelayLemmas.{patience_none, patience_some}
use Rattle.mold_pacing.proofs.delays.patience_after.Goals as goal

pub returns-then-greatest-eq0 : goal.returns-then-greatest-eq0
returns-then-greatest-eq0 c delays is = sym (patience_none delays (omega (arith, is, c.if-greatest-eq0.true)))

pub returns : goal.returns
returns c delays is =
    omega (
      arith,
      patience_some delays (omega (arith, is, c.if-greatest-eq0.false)),
      is,
      c.span.ensures,
      c.min.ensures,
      c.max.ensures,
    )
