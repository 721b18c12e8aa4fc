use Rattle.mold_session.proofs.ReaderLemmas.{read_blocks, read_file, read_front, read_more, read_refused}
use Rattle.mold_session.proofs.ReaderLemmas.{read_refused_within, read_whole}
use Rattle.mold_session.proofs.laws.reader_law.Goals as goal

pub returns : goal.returns
returns c = record {
  next = read_more;
  blocks = read_blocks;
  end = read_whole;
  file = read_file;
  refused = read_refused;
  refused_within = read_refused_within;
  front = read_front;
}
