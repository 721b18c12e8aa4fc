use Rattle.std.proofs.Common.{ap, arith}
use Rattle.mold_pacing.specs.declared.state.PacerState.{PacerState}
use Rattle.mold_repair.proofs.repairer.Repairer.ripens.Goals as goal

pub returns-in-Some-clause-bound : goal.returns-in-Some-clause-bound
returns-in-Some-clause-bound c =
    let now = ap (λ (s : PacerState). s.now) c.state-state.ensures in
    λ number missing unripe. omega (arith, c.max.ensures, c.ripens.ensures.time, now)
