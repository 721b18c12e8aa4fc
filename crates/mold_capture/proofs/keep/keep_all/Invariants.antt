use Rattle.std.proofs.Common.{◌≡◌, ◌++◌, length, take}
use Rattle.std.specs.List.{AllByRecursion}
use Rattle.mold_wire.specs.Block.{IsMessage}
use Rattle.mold_capture.proofs.keep.keep_all.Given as goal

abbrev pub invariant-loop-message : goal.invariant-loop-message
invariant-loop-message l = record {
  joined : l.kept ++ l.message-iterator ≡ l.fn.kept ++ l.blocks;
  short : AllByRecursion IsMessage l.message-iterator;
  front : take (length l.fn.kept) l.kept ≡ l.fn.kept;
}
