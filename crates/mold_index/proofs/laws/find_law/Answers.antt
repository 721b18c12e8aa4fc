use Rattle.mold_index.proofs.FoundLemmas.{no_end, one_found}
use Rattle.mold_index.proofs.laws.find_law.Goals as goal

pub returns : goal.returns
returns c = record { one = one_found; whole = no_end }
