use Rattle.std.proofs.Common.{◌≡◌}
use Rattle.std.specs.Io.KnownBytes.{prepend_known}
use Rattle.mold_devices.specs.Lines.{work_left}
use Rattle.mold_capture_commands.proofs.ShowLemmas.{PrintedSoFar, moment}
use Rattle.mold_capture_commands.proofs.frame_show.print_frames.Given as goal

-- The frames so far are printed, and no device failed.
abbrev pub invariant-frames : goal.invariant-frames
invariant-frames g l = record {
  printed :
      PrintedSoFar l.fn.filter (g.K.Sink.held l.fn.sink)
      (moment (g.K.Sink.held l.sink) l.unsent)
      (g.S.Source.left l.fn.source) l.reader.format (prepend_known l.reader.rest (g.S.Source.left l.source));
  source : g.S.Source.failed l.source ≡ g.S.Source.failed l.fn.source;
  sink : g.K.Sink.failed l.sink ≡ g.K.Sink.failed l.fn.sink;
}

abbrev pub decreases-frames : goal.decreases-frames
decreases-frames g l = work_left (g.S.Source.bound l.source) l.reader.rest
