use Rattle.std.proofs.Common.{[], arith}
use Rattle.mold_index.proofs.PushLemmas.{indexes_none}
use Rattle.mold_index.proofs.index.Index.new.Goals as goal

pub invariant_of-result : goal.invariant_of-result
invariant_of-result c = (
  record {
    lengths = [];
    indexes = rw (c.from.ensures, c.new.ensures.items) (indexes_none c.args.layout);
    few = omega arith;
    below = omega (arith, c.from.ensures);
  },
  c.none.ensures c.new.result.items,
)
