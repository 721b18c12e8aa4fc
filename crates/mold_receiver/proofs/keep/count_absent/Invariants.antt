use Rattle.std.proofs.Common.{◌≡◌, ◌+◌, length}
use Rattle.mold_receiver.specs.Keeping.{count_absent}
use Rattle.mold_receiver.specs.Shelf.{slots_on}
use Rattle.mold_receiver.proofs.keep.count_absent.Given as goal

abbrev pub invariant-loop-message : goal.invariant-loop-message
invariant-loop-message l = record {
  count :
      l.count + count_absent (slots_on l.shelf) l.slot l._message-iterator ≡ count_absent (slots_on l.shelf) l.first
      l.blocks;
  numbered : l.slot + length l._message-iterator ≡ l.first + length l.blocks;
}
