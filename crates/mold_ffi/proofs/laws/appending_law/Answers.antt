use Rattle.mold_ffi.proofs.AppendingLemmas.{empty_spelled, end_moved, grown_spelled, order_same, torn_spelled, waiting_spelled}
use Rattle.mold_ffi.proofs.laws.appending_law.Goals as goal

pub returns : goal.returns
returns c = record {
  empty = empty_spelled;
  waiting = waiting_spelled;
  torn = torn_spelled;
  order = order_same;
  grown = grown_spelled;
  next = end_moved;
}
