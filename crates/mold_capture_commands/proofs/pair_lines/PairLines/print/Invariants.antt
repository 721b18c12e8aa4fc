use Rattle.std.proofs.Common.{◌≡◌, ◌++◌}
use Rattle.mold_devices.specs.Writing.{Moves}
use Rattle.mold_capture_commands.specs.SessionState.{lines_text}
use Rattle.mold_capture_commands.proofs.pair_lines.PairLines.print.Given as goal

-- The text and the lines of the remaining pairs are what is not written yet.
abbrev pub invariant-loop-pair : goal.invariant-loop-pair
invariant-loop-pair g l = record {
  moves :
      Moves (g.K.Sink.held l.fn.sink) (g.K.Sink.held l.sink) (l.fn.text.items ++ lines_text l.self)
      (l.text.items ++ lines_text l.pair-iterator);
  counted : g.K.Sink.failed l.sink ≡ g.K.Sink.failed l.fn.sink;
}
