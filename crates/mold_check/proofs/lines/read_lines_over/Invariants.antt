use Rattle.std.proofs.Common.{◌≡◌}
use Rattle.std.specs.Io.KnownBytes.{prepend_known}
use Rattle.mold_devices.specs.Lines.{work_left}
use Rattle.mold_check.specs.Checking.{beginning_over}
use Rattle.mold_check.proofs.LineLemmas.{TakenSoFar}
use Rattle.mold_check.proofs.lines.read_lines_over.Given as goal

-- The lines so far were taken, and no device failed.
abbrev pub invariant-lines : goal.invariant-lines
invariant-lines g l = record {
  taken : TakenSoFar g.J.Judge.judging (beginning_over l.fn.judge) l.check (g.S.Source.left l.fn.source)
      (prepend_known l.lines.rest (g.S.Source.left l.source));
  failed : g.S.Source.failed l.source ≡ g.S.Source.failed l.fn.source;
}

abbrev pub decreases-lines : goal.decreases-lines
decreases-lines g l = work_left (g.S.Source.bound l.source) l.lines.rest
