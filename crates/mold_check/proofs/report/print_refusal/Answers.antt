use Rattle.std.proofs.Common.{◌∷◌, ◌∙◌}
use Rattle.mold_text.specs.Text.{refusal_words, refused_line}
use Rattle.mold_check.proofs.report.print_refusal.Goals as goal

pub returns : goal.returns
returns g c =
    c.print_pushed.ensures c.args.text.now.items (refused_line (c.args.name.now ∷ refusal_words c.args.reason)) (c.len-len.ensures ∙ c.args.text.now.ok.0)
    c.push_refusal-pushed.ensures.text c.push_refusal-pushed.ensures.kept
