use Rattle.std.proofs.Common.{◌∙◌, sym, ap, arith, [], get_or}
use Rattle.clap.specs.Words.{App, app_of, with_subcommand}
use Rattle.mold_words.specs.Words.{with_command}
use Rattle.mold_words.specs.Table.{command_of}
use Rattle.mold_words.specs.declared.table.CommandRow.{CommandRow}
use Rattle.mold_words.proofs.FoldLemmas.{fold-map_more}
use Rattle.mold_words.proofs.command.with_commands.Goals as goal

-- the element that an index after the end of the list reads as
no_row : CommandRow
no_row = record {
  name = record { ref_ptr = (0, 0); now = [] };
  about = record { ref_ptr = (0, 0); now = [] };
  options = record { ref_ptr = (0, 0); now = [] };
  example = record { ref_ptr = (0, 0); now = [] };
}

pub loop-row-preserved : goal.loop-row-preserved
unfolding no_row
loop-row-preserved c =
    let i = c.loop-row.row-index in
    let before = app_of c.loop-row.program in
    let added : App → App = λ app. with_command app (command_of (get_or c.args.rows.now i no_row)) in
    c.in_ok-program.ensures.shape c.in_ok-command.ensures.local
    ∙ ap (λ (app : App). with_subcommand before app.top) c.in_ok-command.ensures.app
    ∙ ap added c.loop-row.invariant
    ∙ sym (fold-map_more with_command (app_of c.args.program) command_of c.args.rows.now i no_row (omega arith))
