use Rattle.std.proofs.Common.{refl, subst, sym}
use Rattle.mold_repair.specs.Came.{response_steps}
use Rattle.mold_repair.specs.Taking.{HasLearned}
use Rattle.mold_repair.specs.declared.origin.RepairOrigin.{RepairOrigin}
use Rattle.mold_repair.proofs.came.report_response.Goals as goal

pub returns-clause-learned : goal.returns-clause-learned
returns-clause-learned c =
    subst (λ (o : RepairOrigin). HasLearned c.args.pacer.now c.respond.new.self (response_steps o c.args.came))
    (sym c.in-Server.is) (
      c.respond.new.self,
      record {
        none = refl;
        becomes = c.respond.ensures.state;
        table = c.respond.ensures.flights;
        options = c.respond.ensures.options;
      },
      refl,
    )
