use Rattle.std.proofs.Common.{subst}
use Rattle.mold_pacing.specs.declared.gap.Gap.{Gap}
use Rattle.mold_repair.specs.Came.{noted_from}
use Rattle.mold_repair.specs.Taking.{HasLearned}
use Rattle.mold_repair.proofs.came.note.Goals as goal

pub returns-clause-noted : goal.returns-clause-noted
returns-clause-noted c =
    let p = c.args.pacer.now in
    subst (λ (g : Gap). HasLearned p c.report.new.pacer
    (noted_from c.args.origin g c.args.arbiter.now.view p.state.now p.flights.items)) c.came_of-came.ensures c.report.ensures.learned
