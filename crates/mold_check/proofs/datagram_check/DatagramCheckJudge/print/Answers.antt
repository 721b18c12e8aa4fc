use Rattle.std.proofs.Common.{List, ℕ, subst, ◌++◌}
use Rattle.mold_devices.specs.Devices.{AppendsPrefix}
use Rattle.mold_check.proofs.JudgementLemmas.{found_verdict, told_as}
use Rattle.mold_check.proofs.datagram_check.DatagramCheckJudge.print.Goals as goal

pub returns-in-Ok-clause-whole : goal.returns-in-Ok-clause-whole
returns-in-Ok-clause-whole g c =
    let told = found_verdict c.lacking_law.ensures.none c.args.self.now c.self.inside.checker c.self.inside.refused c.in-Ok.verdict
    (g.N.Naming.named c.args.naming.now) c.self.view_is c.in_default.is c.in-Ok.ensures
    in
    told_as _ _ c.print_verdict.result c.args.text.now.items _ _ _ _ told.0 told.1 c.print_verdict.ensures.whole

pub returns-in-Ok-clause-front : goal.returns-in-Ok-clause-front
returns-in-Ok-clause-front g c =
    let told = found_verdict c.lacking_law.ensures.none c.args.self.now c.self.inside.checker c.self.inside.refused c.in-Ok.verdict
    (g.N.Naming.named c.args.naming.now) c.self.view_is c.in_default.is c.in-Ok.ensures
    in
    subst (λ (t : List ℕ). AppendsPrefix (g.K.Sink.held c.args.sink.now) (g.K.Sink.held c.print_verdict.new.sink)
    (c.args.text.now.items ++ t)) told.0 c.print_verdict.ensures.front
