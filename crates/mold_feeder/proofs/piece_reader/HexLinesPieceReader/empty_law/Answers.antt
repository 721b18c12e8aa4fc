use Rattle.mold_feeder.proofs.PieceLemmas.{lines_empty}
use Rattle.mold_feeder.proofs.piece_reader.HexLinesPieceReader.empty_law.Goals as goal

pub returns-clause-empty : goal.returns-clause-empty
returns-clause-empty c = lines_empty
