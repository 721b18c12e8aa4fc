use Rattle.mold_receiver.proofs.LawLemmas.{goes_through}
use Rattle.mold_receiver.proofs.laws.through_law.Goals as goal

pub returns : goal.returns
returns c v p well begun = goes_through v p well begun
