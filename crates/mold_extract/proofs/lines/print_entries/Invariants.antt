use Rattle.std.proofs.Common.{◌≡◌, length}
use Rattle.mold_extract.specs.Text.{entry_line}
use Rattle.mold_extract.proofs.PuttingLemmas.{Puts}
use Rattle.mold_extract.proofs.lines.print_entries.Given as goal

-- The sink and the text have the lines of the messages so far.
abbrev pub invariant-loop-number : goal.invariant-loop-number
invariant-loop-number g l = record {
  puts :
      Puts entry_line (g.K.Sink.held l.fn.sink) (g.K.Sink.held l.sink) l.fn.text.items l.fn.carried l.carried
      l.text.items l.count;
  failures : g.K.Sink.failed l.sink ≡ g.K.Sink.failed l.fn.sink;
}

abbrev pub decreases-loop-number : goal.decreases-loop-number
decreases-loop-number g l = length l.carried
