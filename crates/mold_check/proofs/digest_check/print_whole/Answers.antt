use Rattle.std.proofs.Common.{◌∙◌}
use Rattle.mold_check.specs.DigestCheck.{whole_line}
use Rattle.mold_check.proofs.digest_check.print_whole.Goals as goal

pub returns : goal.returns
returns g c =
    c.print_pushed.ensures c.args.text.now.items (whole_line c.args.messages) (c.len-len.ensures ∙ c.args.text.now.ok.0)
    c.push_whole-pushed.ensures.line c.push_whole-pushed.ensures.kept
