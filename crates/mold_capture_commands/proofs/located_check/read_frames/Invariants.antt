use Rattle.std.proofs.Common.{◌≡◌}
use Rattle.std.specs.Io.KnownBytes.{prepend_known}
use Rattle.mold_devices.specs.Lines.{work_left}
use Rattle.mold_capture_commands.proofs.LocatedLemmas.{TakenSoFar}
use Rattle.mold_capture_commands.proofs.located_check.read_frames.Given as goal

-- The frames so far were taken, and no device failed.
abbrev pub invariant-frames : goal.invariant-frames
invariant-frames g l = record {
  taken : TakenSoFar g.J.Judge.judging l.fn.filter l.fn.check l.check (g.S.Source.left l.fn.source) l.reader.format
      (prepend_known l.reader.rest (g.S.Source.left l.source));
  failed : g.S.Source.failed l.source ≡ g.S.Source.failed l.fn.source;
}

abbrev pub decreases-frames : goal.decreases-frames
decreases-frames g l = work_left (g.S.Source.bound l.source) l.reader.rest
