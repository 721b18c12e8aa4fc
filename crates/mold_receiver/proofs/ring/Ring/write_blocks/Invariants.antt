use Rattle.std.proofs.Common.{◌≡◌, ◌+◌, length}
use Rattle.mold_wire.specs.Block.{blocks}
use Rattle.mold_receiver.specs.Ring.{placed}
use Rattle.mold_receiver.proofs.ring.Ring.write_blocks.Given as goal

abbrev pub invariant-loop-message : goal.invariant-loop-message
invariant-loop-message l = record {
  placed :
      placed l.self l.slot l.begin.segment l.at l.message-iterator ≡ placed l.fn.self l.fn.slot l.begin.segment l.begin.start
      l.blocks;
  size : length l.self ≡ length l.fn.self;
  within : l.slot + length l.message-iterator ≡ l.fn.slot + length l.blocks;
  fits : l.at + length (blocks l.message-iterator) ≡ l.begin.start + length (blocks l.blocks);
}
