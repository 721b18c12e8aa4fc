use Rattle.std.proofs.Common.{◌+◌, ◌-◌, ◌*◌, ◌≤◌, length, subst}
use Rattle.mold_repair.specs.Laws.{requests_of}
use Rattle.mold_repair.specs.Options.{tolerance}
use Rattle.mold_repair.specs.declared.options.RepairOptions.{RepairOptions}
use Rattle.mold_wiring.proofs.RateLemmas.{kept}
use Rattle.mold_wiring.proofs.laws.request_limit_law.Goals as goal

pub returns : goal.returns
returns c = λ order old new steps os ran same some short.
    let time = new.pacer.state.now - old.pacer.state.now in
    kept order (length (requests_of os)) time some
    (subst (λ (o : RepairOptions). length (requests_of os) * o.interval ≤ time + tolerance o + o.interval) same
    (c.flood_law.ensures old new steps os ran)) short
