use Rattle.std.proofs.Common.{nat_lt, subst}
use Rattle.std.specs.Prelude.{find}
use Rattle.mold_pacing.specs.Flight.{covers}
use Rattle.mold_pacing.specs.declared.gap.Gap.{Gap}
use Rattle.mold_repair.specs.Came.{noted_from}
use Rattle.mold_repair.specs.Taking.{HasLearned}
use Rattle.mold_repair.specs.declared.origin.RepairOrigin.TheVariants.{Server}
use Rattle.mold_repair.proofs.FrontLemmas.{front_server}
use Rattle.mold_repair.proofs.came.note_response.Goals as goal

pub returns-clause-noted : goal.returns-clause-noted
returns-clause-noted c =
    let p = c.args.pacer.now in
    subst (λ (g : Gap). HasLearned p c.report.new.pacer
    (noted_from (Server c.args.server) g c.args.arbiter.now.view p.state.now p.flights.items)) c.came_of-came.ensures
    c.report.ensures.learned

pub returns-clause-front : goal.returns-clause-front
returns-clause-front c =
    let p = c.args.pacer.now in
    let came = c.came_of-came.result in
    front_server c.args.arbiter.now.view (nat_lt came.first came.end) c.args.server came
    (find (covers p.state.now came.first) p.flights.items) p c.report.new.pacer c.args.front.number c.args.front.until
    c.number_left-number.result c.until_left-until.result c.report.ensures.learned
    (record {
      few = c.number_left-number.ensures.few;
      short = c.until_left-until.ensures.short;
      begins = c.number_left-number.ensures.begins;
      ends = c.until_left-until.ensures.ends;
    }) c.requires
