use Rattle.std.proofs.Common.{◌≡◌, ◌+◌, length}
use Rattle.mold_receiver.specs.Keeping.{fresh}
use Rattle.mold_receiver.specs.Shelf.{slots_on}
use Rattle.mold_receiver.proofs.keep.has_fresh.Given as goal

abbrev pub invariant-loop-message : goal.invariant-loop-message
invariant-loop-message l = record {
  same : fresh (slots_on l.shelf) l.slot l._message-iterator ≡ fresh (slots_on l.shelf) l.first l.blocks;
  counted : l.slot + length l._message-iterator ≡ l.first + length l.blocks;
}
