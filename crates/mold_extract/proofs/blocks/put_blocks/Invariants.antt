use Rattle.std.proofs.Common.{◌≡◌, length}
use Rattle.mold_extract.specs.Text.{entry_block}
use Rattle.mold_extract.proofs.PuttingLemmas.{Puts}
use Rattle.mold_extract.proofs.blocks.put_blocks.Given as goal

-- The sink and the buffer have the blocks of the messages so far.
abbrev pub invariant-loop-message : goal.invariant-loop-message
invariant-loop-message g l = record {
  puts :
      Puts entry_block (g.K.Sink.held l.fn.sink) (g.K.Sink.held l.sink) l.fn.buffer l.fn.carried l.carried l.buffer
      l.count;
  failures : g.K.Sink.failed l.sink ≡ g.K.Sink.failed l.fn.sink;
}

abbrev pub decreases-loop-message : goal.decreases-loop-message
decreases-loop-message g l = length l.carried
