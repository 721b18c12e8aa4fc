use Rattle.std.proofs.Common.{ap, map, refl, ◌∙◌}
use Rattle.mold_pacing.specs.Responses.{after_arrival}
use Rattle.mold_repair.specs.Came.{held_end}
use Rattle.mold_repair.proofs.came.report_from.Goals as goal

pub returns-then-none_begins_from-clause-learned : goal.returns-then-none_begins_from-clause-learned
returns-then-none_begins_from-clause-learned c =
    let old = c.args.pacer.now in (
      old,
      record {
        none = refl;
        becomes = refl;
        table = c.none_begins_from.ensures c.if-none_begins_from.true (held_end c.args.arbiter.now.view c.args.first);
        options = refl;
      },
      refl,
    )

pub returns-clause-learned : goal.returns-clause-learned
returns-clause-learned c =
    let old = c.args.pacer.now in (
      c.arrive.new.self,
      record {
        none = refl;
        becomes = c.arrive.ensures.state;
        table = c.arrive.ensures.flights
            ∙ ap (λ end. map (after_arrival old.state.now c.args.first end) old.flights.items) c.held_end.ensures;
        options = c.arrive.ensures.options;
      },
      refl,
    )
