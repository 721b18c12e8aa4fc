use Rattle.std.proofs.Common.{◌≡◌, ◌++◌, ◌-◌, drop}
use Rattle.mold_input.specs.declared.message_format.MessageFormat.TheVariants.{BlocksToEmpty}
use Rattle.mold_turns.specs.Runs.{Begins}
use Rattle.mold_listen.specs.Text.{empty_number, handed_text, messages_to_empty}
use Rattle.mold_listen.proofs.handed.push_to_empty.Given as goal

-- the written blocks and those of the remaining messages are all blocks; the first empty message is among the remaining
-- ones; the former text is a prefix
abbrev pub invariant-loop-number : goal.invariant-loop-number
invariant-loop-number l = record {
  printed :
      l.out.items
      ++ handed_text BlocksToEmpty l.number (messages_to_empty (drop (l.number - l.first) l.batch.messages))
      ≡ l.fn.out.items ++ handed_text BlocksToEmpty l.first (messages_to_empty l.batch.messages);
  found : empty_number l.number (drop (l.number - l.first) l.batch.messages) ≡ empty_number l.first l.batch.messages;
  kept : Begins l.fn.out.items l.out.items;
}
