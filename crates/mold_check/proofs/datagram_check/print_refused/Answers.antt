use Rattle.std.proofs.Common.{◌∙◌}
use Rattle.mold_check.specs.Judgement.{refused_text}
use Rattle.mold_check.proofs.datagram_check.print_refused.Goals as goal

pub returns : goal.returns
returns g c =
    c.print_pushed.ensures c.args.text.now.items (refused_text (g.N.Naming.named c.args.naming.now) c.args.datagram) (c.len-len.ensures ∙ c.args.text.now.ok.0)
    c.push_refused-pushed.ensures.line c.push_refused-pushed.ensures.kept
