use Rattle.std.proofs.Common.{drop, ◌∙◌}
use Rattle.std.proofs.lemmas.List.{length-take-le}
use Rattle.mold_indexed_file.proofs.FileLemmas.{read_is}
use Rattle.mold_indexed_file.proofs.StoredLemmas.{reads_still}
use Rattle.mold_indexed_file.proofs.piece_buffer.read_stored_piece.Goals as goal

pub returns-clause-read : goal.returns-clause-read
returns-clause-read g c = λ bytes shown.
    read_is (λ moment. bytes) 0 0 c.in_ok-count.count c.args.piece c.read_at.new.buffer
    (drop c.args.piece.len c.args.buffer.now)
    (c.read_at.auto.buffer ∙ length-take-le c.args.piece.len c.args.buffer.now c.requires) c.in_ok-count.ensures.count.0
    (reads_still c.args.piece.entry.offset c.in_ok-count.count bytes c.read_at.new.buffer
    (c.in_ok-count.ensures.bytes bytes shown))
