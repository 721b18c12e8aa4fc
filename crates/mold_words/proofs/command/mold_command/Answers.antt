use Rattle.std.proofs.Common.{◌∙◌, ap, fold}
use Rattle.std.proofs.lemmas.Result.{IfOk-weaker}
use Rattle.mold_words.specs.Words.{commands, mold_app, with_command}
use Rattle.mold_words.proofs.command.mold_command.Goals as goal

pub returns : goal.returns
unfolding mold_app
returns c =
    IfOk-weaker c.with_commands.result _ _
    (λ program same. same ∙ ap (fold with_command _) c.command_rows.ensures
    ∙ ap (λ app. fold with_command app commands) c.in_ok-program.ensures)
    c.with_commands.ensures
