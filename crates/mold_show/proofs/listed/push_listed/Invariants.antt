use Rattle.std.proofs.Common.{◌≡◌, ◌+◌, ◌++◌, length}
use Rattle.mold_show.specs.Listed.{first_refused, list_text}
use Rattle.mold_show.proofs.listed.push_listed.Given as goal

-- The text is followed by that of the remaining messages.
abbrev pub invariant-loop-message : goal.invariant-loop-message
invariant-loop-message l = record {
  text :
      l.text.items ++ list_text l.options l.number l.message-iterator
      ≡ list_text l.options l.before l.messages.messages;
  refused :
      first_refused l.options l.number l.message-iterator ≡ first_refused l.options l.before l.messages.messages;
  counted : l.number + length l.message-iterator ≡ l.before + length l.messages.messages;
}
