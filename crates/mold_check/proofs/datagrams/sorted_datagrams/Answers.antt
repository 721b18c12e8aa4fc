use Rattle.std.proofs.Common.{rules, ap}
use Rattle.std.specs.Ordering.{is_lt}
use Rattle.std.proofs.lemmas.Cmp.{nat_list_cmp_total}
use Rattle.std.proofs.lemmas.List.Sorted.{answers_always, ranks_by}
use Rattle.mold_check.specs.Entries.{name_of}
use Rattle.mold_check.proofs.OrderLemmas.{is_lent_below, order_is}
use Rattle.mold_check.proofs.datagrams.sorted_datagrams.Goals as goal

pub returns : goal.returns
returns c =
    order_is c.args.entries.now c.in_ok-order.order.items c.sort_unstable_by.new.self.items c.in_ok-order.ensures
    c.sort_unstable_by.ensures.permutation
    (c.sort_unstable_by.ensures.sorted is_lent_below (ranks_by nat_list_cmp_total (λ e. name_of e.now))
    (answers_always _ _ _ (λ f a r q k. ap is_lt (search rules))))
