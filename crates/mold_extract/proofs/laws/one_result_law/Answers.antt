use Rattle.mold_extract.proofs.ResultLemmas.{one_blocks, one_saved}
use Rattle.mold_extract.proofs.laws.one_result_law.Goals as goal

pub returns-clause-saved : goal.returns-clause-saved
returns-clause-saved c = one_saved

pub returns-clause-blocks : goal.returns-clause-blocks
returns-clause-blocks c = one_blocks
