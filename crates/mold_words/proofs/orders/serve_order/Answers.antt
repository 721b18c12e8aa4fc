use Rattle.mold_words.proofs.orders.serve_order.Goals as goal

pub invariant_of-result-clause-turning : goal.invariant_of-result-clause-turning
invariant_of-result-clause-turning c = c.in_ok-turns.ensures.within
