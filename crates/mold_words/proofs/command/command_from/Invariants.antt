use Rattle.std.proofs.Common.{◌≡◌, false, fold, map, take}
use Rattle.clap.specs.Words.{app_of, new_app}
use Rattle.clap.specs.declared.builder.Command.TheViews.{out-Command as fields_of}
use Rattle.mold_words.specs.Words.{with_option}
use Rattle.mold_words.specs.Table.{option_of}
use Rattle.mold_words.proofs.command.command_from.Given as goal

abbrev pub invariant-loop-option : goal.invariant-loop-option
invariant-loop-option l = record {
  app : app_of l.command
      ≡ fold with_option (new_app l.fn.row.name.now) (map option_of (take l.option-index l.fn.row.options.now));
  local : (fields_of l.command).has_globals ≡ false;
}
