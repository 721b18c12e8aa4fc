use Rattle.std.proofs.Common.{ap, sym, ◌∙◌, ℕ, []}
use Rattle.std.specs.Prelude.{◌==◌}
use Rattle.mold_check.proofs.JudgementLemmas.{found_verdict, none_refused}
use Rattle.mold_check.proofs.datagram_check.DatagramCheckJudge.is_whole.Goals as goal

pub returns-in-Ok : goal.returns-in-Ok
returns-in-Ok c =
    let told = found_verdict c.lacking_law.ensures.none c.args.self.now c.self.inside.checker c.self.inside.refused c.in-Ok.verdict
    (λ number. []) c.self.view_is (none_refused c.self.inside.refused (sym c.is_some.ensures ∙ c.if-is_some.false)) c.in-Ok.ensures
    in
    c.is_whole.ensures ∙ ap (λ (status : ℕ). status == 0) told.1
