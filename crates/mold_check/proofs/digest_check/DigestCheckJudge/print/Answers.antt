use Rattle.std.proofs.Common.{List, ℕ, subst, ◌++◌}
use Rattle.mold_devices.specs.Devices.{AppendsPrefix}
use Rattle.mold_check.proofs.DigestLemmas.{digest_verdict}
use Rattle.mold_check.proofs.JudgementLemmas.{told_as}
use Rattle.mold_check.proofs.digest_check.DigestCheckJudge.print.Goals as goal

pub returns-in-Ok-clause-whole : goal.returns-in-Ok-clause-whole
returns-in-Ok-clause-whole g c =
    let told = digest_verdict c.lacking_law.ensures.none c.args.self.now c.self.inside.check c.checker.result.now
    c.refused.result c.in-Ok.verdict (g.N.Naming.named c.args.naming.now) c.self.view_is c.refused.ensures c.in_default.is
    c.checker.ensures c.in-Ok.ensures
    in
    told_as _ _ c.print_by_digest.result c.args.text.now.items _ _ _ _ told.0 told.1 c.print_by_digest.ensures.whole

pub returns-in-Ok-clause-front : goal.returns-in-Ok-clause-front
returns-in-Ok-clause-front g c =
    let told = digest_verdict c.lacking_law.ensures.none c.args.self.now c.self.inside.check c.checker.result.now
    c.refused.result c.in-Ok.verdict (g.N.Naming.named c.args.naming.now) c.self.view_is c.refused.ensures c.in_default.is
    c.checker.ensures c.in-Ok.ensures
    in
    subst (λ (t : List ℕ). AppendsPrefix (g.K.Sink.held c.args.sink.now) (g.K.Sink.held c.print_by_digest.new.sink)
    (c.args.text.now.items ++ t)) told.0 c.print_by_digest.ensures.front
