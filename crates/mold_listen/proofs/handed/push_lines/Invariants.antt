use Rattle.std.proofs.Common.{◌≡◌, ◌++◌, ◌-◌, ◌≤◌, drop, length, take}
use Rattle.mold_input.specs.declared.message_format.MessageFormat.TheVariants.{Lines}
use Rattle.mold_listen.specs.Text.{handed_text}
use Rattle.mold_listen.proofs.handed.push_lines.Given as goal

-- the written lines and the lines of the remaining messages are all lines
abbrev pub invariant-loop-number : goal.invariant-loop-number
invariant-loop-number l = record {
  low : length l.fn.out.items ≤ l.at;
  within : l.at ≤ length l.out.items;
  printed :
      take l.at l.out.items ++ handed_text Lines l.number (drop (l.number - l.first) l.batch.messages)
      ≡ l.fn.out.items ++ handed_text Lines l.first l.batch.messages;
}
