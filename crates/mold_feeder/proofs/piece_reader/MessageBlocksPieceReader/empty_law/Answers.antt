use Rattle.mold_input.proofs.BlockLemmas.{no_entries}
use Rattle.mold_feeder.proofs.PieceLemmas.{blocks_empty}
use Rattle.mold_feeder.proofs.piece_reader.MessageBlocksPieceReader.empty_law.Goals as goal

pub returns-clause-empty : goal.returns-clause-empty
returns-clause-empty c = blocks_empty

pub returns-clause-none : goal.returns-clause-none
returns-clause-none c = no_entries
