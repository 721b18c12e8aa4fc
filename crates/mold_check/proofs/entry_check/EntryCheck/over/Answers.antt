use Rattle.std.proofs.Common.{arith}
use Rattle.mold_check.proofs.CheckedLemmas.{length-lent}
use Rattle.mold_check.proofs.OrderLemmas.{lent, order_few}
use Rattle.mold_check.proofs.entry_check.EntryCheck.over.Goals as goal

pub overflow_sub-skipped : goal.overflow_sub-skipped
overflow_sub-skipped g c =
    omega (
      arith,
      order_few c.args.entries.now (lent c.in_ok-order.order.items) c.in_ok-order.ensures,
      length-lent c.in_ok-order.order.items,
      c.len.ensures,
      c.in_ok-order.order.ok,
    )
