use Rattle.mold_extract.proofs.LawLemmas.{whole_blocks, whole_full, whole_lines}
use Rattle.mold_extract.proofs.laws.whole_law.Goals as goal

pub returns-clause-full : goal.returns-clause-full
returns-clause-full c = whole_full c.reading_law.ensures.read

pub returns-clause-blocks : goal.returns-clause-blocks
returns-clause-blocks c = whole_blocks c.reading_law.ensures.read

pub returns-clause-lines : goal.returns-clause-lines
returns-clause-lines c = whole_lines c.reading_law.ensures.read
