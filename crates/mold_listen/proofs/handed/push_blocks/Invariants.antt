use Rattle.std.proofs.Common.{◌≡◌, ◌++◌, ◌-◌, drop}
use Rattle.mold_input.specs.declared.message_format.MessageFormat.TheVariants.{Blocks}
use Rattle.mold_turns.specs.Runs.{Begins}
use Rattle.mold_listen.specs.Text.{handed_text}
use Rattle.mold_listen.proofs.handed.push_blocks.Given as goal

-- the written blocks and the blocks of the remaining messages are all blocks, and the former text is a prefix
abbrev pub invariant-loop-number : goal.invariant-loop-number
invariant-loop-number l = record {
  printed :
      l.out.items ++ handed_text Blocks l.number (drop (l.number - l.first) l.batch.messages)
      ≡ l.fn.out.items ++ handed_text Blocks l.first l.batch.messages;
  kept : Begins l.fn.out.items l.out.items;
}
