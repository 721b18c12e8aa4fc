use Rattle.std.proofs.Common.{take, ap, ◌∙◌, arith}
use Rattle.mold_capture.proofs.EndLemmas.{ends_cut_same, ends_cut_later}
use Rattle.mold_capture.proofs.ends.Ends.truncate.Goals as goal

pub returns-then-keep-self : goal.returns-then-keep-self
returns-then-keep-self c =
    let f = c.self.inside in
    ends_cut_same f.same f.width c.args.keep f.later c.truncate.new.self c.if-keep-self.true c.truncate.ensures
    ∙ ap (take c.args.keep) c.self.view_is

pub returns-else-keep-self : goal.returns-else-keep-self
returns-else-keep-self c =
    let f = c.self.inside in
    ends_cut_later f.same f.width c.args.keep f.later c.truncate-else-keep-self.new.self (omega arith)
    c.truncate-else-keep-self.ensures
    ∙ ap (take c.args.keep) c.self.view_is
