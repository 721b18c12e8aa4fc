use Rattle.mold_index.proofs.ReadLemmas.{found_in_piece}
use Rattle.mold_index.proofs.laws.piece_law.Goals as goal

pub returns : goal.returns
returns c = found_in_piece
