use Rattle.mold_extract.proofs.LawLemmas.{one_list, one_name, prefix_whole, saved_holes, saved_whole}
use Rattle.mold_extract.proofs.laws.journal_law.Goals as goal

pub returns-clause-one : goal.returns-clause-one
returns-clause-one c = one_list c.reading_law.ensures.read

pub returns-clause-name : goal.returns-clause-name
returns-clause-name c = one_name c.reading_law.ensures.read

pub returns-clause-saved : goal.returns-clause-saved
returns-clause-saved c = saved_whole c.reading_law.ensures.read

pub returns-clause-prefix : goal.returns-clause-prefix
returns-clause-prefix c = prefix_whole c.reading_law.ensures.read

pub returns-clause-holes : goal.returns-clause-holes
returns-clause-holes c = saved_holes c.reading_law.ensures.read
