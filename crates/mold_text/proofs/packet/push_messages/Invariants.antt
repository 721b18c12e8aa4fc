use Rattle.std.proofs.Common.{◌≡◌, ◌+◌, ◌++◌, length, take}
use Rattle.mold_text.specs.Text.{messages_text}
use Rattle.mold_text.proofs.packet.push_messages.Given as goal

abbrev pub invariant-loop-message : goal.invariant-loop-message
invariant-loop-message l = record {
  told : l.out.items ++ messages_text l.number l.message-iterator ≡ l.fn.out.items ++ messages_text l.first l.blocks;
  kept : take (length l.fn.out.items) l.out.items ≡ l.fn.out.items;
  counted : l.number + length l.message-iterator ≡ l.first + length l.blocks;
}
