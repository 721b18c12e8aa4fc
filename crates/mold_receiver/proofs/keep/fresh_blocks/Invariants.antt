use Rattle.std.proofs.Common.{◌≡◌, ◌+◌, ◌++◌, length}
use Rattle.mold_wire.specs.Block.{blocks}
use Rattle.mold_receiver.specs.Keeping.{fresh_messages}
use Rattle.mold_receiver.specs.Shelf.{slots_on}
use Rattle.mold_receiver.proofs.keep.fresh_blocks.Given as goal

abbrev pub invariant-loop-message : goal.invariant-loop-message
invariant-loop-message l = record {
  taken :
      l.bytes.items ++ blocks (fresh_messages (slots_on l.shelf) l.slot l.message-iterator) ≡ blocks
      (fresh_messages (slots_on l.shelf) l.first l.blocks);
  left : l.rest ≡ blocks l.message-iterator;
  counted : l.slot + length l.message-iterator ≡ l.first + length l.blocks;
}
