-- What the bytes of an input in a given format encode.
use Rattle.std.specs.Prelude.{ℕ, List}
use Rattle.mold_input.specs.Blocks.{block_entries}
use Rattle.mold_input.specs.BlocksToEmpty.{to_empty_entries}
use Rattle.mold_input.specs.Entries.{Entry, line_entries}
use Rattle.mold_input.specs.declared.message_format.MessageFormat.{MessageFormat}
use Rattle.mold_input.specs.declared.message_format.MessageFormat.TheVariants as format
use Rattle.mold_input.specs.declared.input_kind.InputKind.{InputKind}
use Rattle.mold_input.specs.declared.input_kind.InputKind.TheVariants.{Lines, Blocks}

-- The kind of an input in this format.
abbrev pub kind_of : MessageFormat → InputKind
kind_of format.Lines = Lines
kind_of format.Blocks = Blocks
kind_of format.BlocksToEmpty = Blocks

-- The entries of an input in this format.
abbrev pub entries_of : MessageFormat → List ℕ → List Entry
entries_of format.Lines input = line_entries input
entries_of format.Blocks input = block_entries input
entries_of format.BlocksToEmpty input = to_empty_entries input
