use Rattle.std.proofs.Common.{◌≡◌, ◌≤◌, drop, length}
use Rattle.mold_wire.specs.Block.{blocks}
use Rattle.mold_receiver.proofs.MarkLemmas.{IsMarking}
use Rattle.mold_receiver.proofs.batch.mark_blocks.Given as goal

abbrev pub invariant-loop-message : goal.invariant-loop-message
invariant-loop-message l = record {
  bytes : l.list.bytes ≡ l.fn.list.bytes;
  there : drop l.at l.list.bytes ≡ blocks l.message-iterator;
  behind : l.list.end ≡ l.at;
  within : l.at ≤ length l.list.bytes;
  marking : IsMarking l.fn.list.messages l.list.messages l.message-iterator l.blocks;
}
