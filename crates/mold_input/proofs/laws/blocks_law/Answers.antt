use Rattle.mold_input.proofs.LawLemmas.{all_read, are_blocks, cut_read}
use Rattle.mold_input.proofs.laws.blocks_law.Goals as goal

pub returns-clause-read : goal.returns-clause-read
returns-clause-read c = all_read

pub returns-clause-cut : goal.returns-clause-cut
returns-clause-cut c = cut_read

pub returns-clause-spelled : goal.returns-clause-spelled
returns-clause-spelled c messages bytes fits is = (are_blocks messages bytes fits is).is

pub returns-clause-each : goal.returns-clause-each
returns-clause-each c messages bytes fits is = (are_blocks messages bytes fits is).each
