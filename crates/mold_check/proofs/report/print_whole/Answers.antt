use Rattle.std.proofs.Common.{[], ◌∙◌}
use Rattle.mold_capture.specs.Outcome.{whole}
use Rattle.mold_check.specs.Report.{outcome_text}
use Rattle.mold_check.proofs.report.print_whole.Goals as goal

pub returns : goal.returns
returns g c =
    c.print_pushed.ensures c.args.text.now.items (outcome_text [] (whole c.args.messages)) (c.len-len.ensures ∙ c.args.text.now.ok.0)
    c.push_whole-pushed.ensures.line c.push_whole-pushed.ensures.kept
