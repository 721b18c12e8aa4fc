use Rattle.std.proofs.Common.{◌≡◌, fold, map, take}
use Rattle.clap.specs.Words.{app_of}
use Rattle.mold_words.specs.Words.{with_command}
use Rattle.mold_words.specs.Table.{command_of}
use Rattle.mold_words.proofs.command.with_commands.Given as goal

abbrev pub invariant-loop-row : goal.invariant-loop-row
invariant-loop-row l =
    app_of l.program ≡ fold with_command (app_of l.fn.program) (map command_of (take l.row-index l.fn.rows))
