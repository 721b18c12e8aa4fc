use Rattle.mold_indexed_file.proofs.FileLemmas.{has_growing}
use Rattle.mold_indexed_file.proofs.laws.growing_file_law.Goals as goal

pub returns : goal.returns
returns c = has_growing
