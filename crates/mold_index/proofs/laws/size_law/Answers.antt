use Rattle.mold_index.proofs.SizeLemmas.{few_entries}
use Rattle.mold_index.proofs.laws.size_law.Goals as goal

pub returns : goal.returns
returns c = few_entries
