use Rattle.mold_index.proofs.PushLemmas.{indexes_none}
use Rattle.mold_index.proofs.laws.empty_law.Goals as goal

pub returns : goal.returns
returns c = indexes_none
