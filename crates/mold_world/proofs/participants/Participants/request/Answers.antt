use Rattle.std.proofs.Common.{ap, ◌∙◌, Err}
use Rattle.std.proofs.lemmas.Result.{err_from_is_err_and}
use Rattle.mold_session.specs.Server.{ServerState}
use Rattle.mold_world.proofs.RequestRowLemmas.{request_applied, request_refused}
use Rattle.mold_world.specs.Inside.{world_of}
use Rattle.mold_world.specs.declared.report.WorldError.{WorldError}
use Rattle.mold_world.proofs.participants.Participants.request.Goals as goal

pub returns-in_err-plan-clause-applied : goal.returns-in_err-plan-clause-applied
returns-in_err-plan-clause-applied c =
    let e = err_from_is_err_and c.from_residual.result c.from_residual.ensures.1 in
    let counted = c.in_err-plan.ensures.counted in
    rw (e.1 ∙ ap (λ (t : WorldError). Err t) e.2)
    (request_refused (world_of c.args.self.now) c.args.bytes.now _ c.plan.new.self.limit c.plan.new.self.burst
    (rw c.journal.ensures at c.in_err-plan.ensures.planned) (ap (λ (t : ServerState). t.limit) counted)
    (ap (λ (t : ServerState). t.burst) counted))

pub returns-clause-applied : goal.returns-clause-applied
returns-clause-applied c =
    let counted = c.in_ok-plan.ensures.counted in
    request_applied c.answered_law.ensures.answerable c.answered_law.ensures.answer (world_of c.args.self.now)
    (world_of c.send.new.self) c.args.bytes.now c.in_ok-plan.plan c.plan.new.self.limit c.plan.new.self.burst
    c.send.result (rw c.journal.ensures at c.in_ok-plan.ensures.planned) (ap (λ (t : ServerState). t.limit) counted)
    (ap (λ (t : ServerState). t.burst) counted) c.send.ensures.sent c.send.ensures.same c.send.ensures.memory
