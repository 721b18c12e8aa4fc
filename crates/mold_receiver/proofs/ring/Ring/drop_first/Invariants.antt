use Rattle.std.proofs.Common.{◌≡◌, ◌++◌, drop, replicate, None}
use Rattle.mold_receiver.proofs.ring.Ring.drop_first.Given as goal

abbrev pub invariant-loop-slot : goal.invariant-loop-slot
invariant-loop-slot l = record {
  left : l.self ≡ drop l._slot l.fn.self ++ replicate l._slot None;
}
