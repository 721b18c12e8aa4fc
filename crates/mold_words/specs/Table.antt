-- Defines what the rows of the program's table contain, without the help texts.
use Rattle.std.specs.Prelude.{List, map}
use Rattle.clap.specs.Words.{Text}
use Rattle.mold_words.specs.declared.table.Kind.{Kind}
use Rattle.mold_words.specs.declared.table.OptionRow.{OptionRow}
use Rattle.mold_words.specs.declared.table.CommandRow.{CommandRow}

-- The name and the kind of an option.
abbrev pub option_of : OptionRow → Text × Kind
option_of row = (row.name.now, row.kind)

-- The name of a command, and its options.
abbrev pub command_of : CommandRow → Text × List (Text × Kind)
command_of row = (row.name.now, map option_of row.options.now)
