use Rattle.std.proofs.Common.{◌≡◌, ◌+◌, length}
use Rattle.mold_receiver.specs.Slots.{store_of}
use Rattle.mold_receiver.specs.Store.{first_conflict, from_next}
use Rattle.mold_receiver.proofs.conflict.find_conflict.Given as goal

abbrev pub invariant-loop-message : goal.invariant-loop-message
invariant-loop-message l = record {
  same :
      first_conflict (store_of l.next l.slots) (from_next l.next l.number l.message-iterator) ≡ first_conflict
      (store_of l.next l.slots) (from_next l.next l.first l.blocks);
  counted : l.number + length l.message-iterator ≡ l.first + length l.blocks;
}
