use Rattle.mold_repair.proofs.LawLemmas.{not_flooded}
use Rattle.mold_repair.proofs.laws.flood_law.Goals as goal

pub returns : goal.returns
returns c =
    λ old new steps os ran. not_flooded c.limit_law.ensures old new steps os (c.pacing_law.ensures old new steps os ran)
