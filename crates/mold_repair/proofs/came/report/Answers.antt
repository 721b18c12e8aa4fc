use Rattle.std.proofs.Common.{Option, subst}
use Rattle.mold_pacing.specs.declared.flight.Flight.{Flight}
use Rattle.mold_repair.specs.Came.{came_steps}
use Rattle.mold_repair.specs.Taking.{HasLearned}
use Rattle.mold_repair.proofs.TakingLemmas.{came_all}
use Rattle.mold_repair.proofs.came.report.Goals as goal

pub returns-clause-learned : goal.returns-clause-learned
returns-clause-learned c =
    let old = c.args.pacer.now in
    let new = c.report_filled.new.pacer in
    let origin = c.args.origin in
    let came = c.args.came in
    let v = c.args.arbiter.now.view in
    subst (λ (r : Option Flight). HasLearned old new (came_steps origin came v r)) c.request_for-request.ensures
    (came_all origin came v c.request_for-request.result old c.report_response.new.pacer c.report_from.new.pacer new
    c.if-came.false c.report_response.ensures.learned c.report_from.ensures.learned c.report_filled.ensures.learned)
