use Rattle.std.proofs.Common.{List, ℕ, false, ap, ◌∙◌}
use Rattle.std.proofs.lemmas.List.{take-replicate}
use Rattle.mold_sim.specs.Sim.{SimState}
use Rattle.mold_sim.proofs.sim.Sim.new.Goals as goal
use Rattle.mold_world.specs.World.{WorldState, beginning}

pub returns : goal.returns
returns c =
    let begun = λ (windows : List ℕ). beginning c.args.session c.args.limit c.args.server_limit c.args.burst windows in
    ap {B = SimState} (λ (w : WorldState). record { world = w; refused = false })
    (c.in-Ok.ensures.made ∙ ap begun (take-replicate c.args.receivers 8 c.args.window c.requires.receivers))
