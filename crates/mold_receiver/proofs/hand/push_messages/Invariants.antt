use Rattle.std.proofs.Common.{◌≡◌, ◌+◌, ◌-◌, max, drop, length}
use Rattle.mold_receiver.proofs.BatchLemmas.{IsHanding}
use Rattle.mold_receiver.proofs.hand.push_messages.Given as goal

abbrev pub invariant-loop-message : goal.invariant-loop-message
invariant-loop-message l = record {
  handing :
      IsHanding l.fn.batch l.batch l.next (max l.number l.next) (drop (l.next - l.number) l.message-iterator)
      (drop (l.next - l.first) l.blocks);
  counted : l.number + length l.message-iterator ≡ l.first + length l.blocks;
}
