use Rattle.std.proofs.Common.{ap, true}
use Rattle.std.proofs.lemmas.Result.{IfOk-weaker}
use Rattle.clap.specs.Words.{App}
use Rattle.mold_words.proofs.command.bare_command.Goals as goal

pub returns : goal.returns
returns c =
    IfOk-weaker c.bin_name.result _ _
    (λ command named. rw (
      named.0,
      c.after_help.ensures,
      c.about.ensures,
      c.version.ensures,
      c.no_binary_name.ensures,
    )
    (ap (λ (app : App). record app { top = record app.top { no_binary_name = true; has_version = true } })
    c.new.ensures.app))
    c.bin_name.ensures
