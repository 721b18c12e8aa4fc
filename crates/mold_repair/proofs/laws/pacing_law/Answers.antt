use Rattle.mold_repair.proofs.LawLemmas.{is_paced}
use Rattle.mold_repair.proofs.laws.pacing_law.Goals as goal

pub returns : goal.returns
returns c = is_paced c.taken_law.ensures c.apart_law.ensures
