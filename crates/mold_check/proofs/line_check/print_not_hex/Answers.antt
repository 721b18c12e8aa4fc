use Rattle.std.proofs.Common.{◌∙◌}
use Rattle.mold_check.specs.Checking.{not_hex_text}
use Rattle.mold_check.proofs.line_check.print_not_hex.Goals as goal

pub returns : goal.returns
returns g c =
    c.print_pushed.ensures c.args.text.now.items (not_hex_text c.args.number) (c.len-len.ensures ∙ c.args.text.now.ok.0)
    c.push_not_hex-pushed.ensures.line c.push_not_hex-pushed.ensures.kept
