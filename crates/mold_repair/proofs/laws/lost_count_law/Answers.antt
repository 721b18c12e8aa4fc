use Rattle.mold_repair.proofs.LossLemmas.{lost_counted}
use Rattle.mold_repair.proofs.laws.lost_count_law.Goals as goal

pub returns : goal.returns
returns c = lost_counted
