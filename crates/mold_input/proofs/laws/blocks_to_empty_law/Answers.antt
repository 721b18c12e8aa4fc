use Rattle.mold_input.proofs.ToEmptyLawLemmas.{start_with_blocks, to_empty_cut, to_empty_read}
use Rattle.mold_input.proofs.laws.blocks_to_empty_law.Goals as goal

pub returns-clause-read : goal.returns-clause-read
returns-clause-read c = to_empty_read

pub returns-clause-cut : goal.returns-clause-cut
returns-clause-cut c = to_empty_cut

pub returns-clause-spelled : goal.returns-clause-spelled
returns-clause-spelled c messages bytes fits is =
    let found = start_with_blocks messages bytes fits is in (found.rest, found.is)

pub returns-clause-each : goal.returns-clause-each
returns-clause-each c messages bytes fits is =
    let found = start_with_blocks messages bytes fits is in (found.each, found.some)
