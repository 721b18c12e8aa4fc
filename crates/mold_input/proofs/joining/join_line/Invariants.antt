use Rattle.std.proofs.Common.{◌≡◌, ◌*◌, ◌<◌, ◌≤◌, length}
use Rattle.std.specs.Io.KnownBytes.{prepend_known}
use Rattle.mold_devices.specs.Lines.{work_left}
use Rattle.mold_input.proofs.StartLemmas.{Starting}
use Rattle.mold_input.proofs.joining.join_line.Given as goal

-- The part means the same as the bytes that were read and not delivered, and no line ends in them.
abbrev pub invariant-pieces : goal.invariant-pieces
invariant-pieces g l = record {
  starting : Starting g.P.Part.meaning (prepend_known l.fn.piece (g.S.Source.left l.fn.source))
      (g.S.Source.left l.source) (g.P.Part.bytes l.part);
  lower : g.S.Source.bound l.source ≤ g.S.Source.bound l.fn.source;
  work : 0 < length (g.P.Part.bytes l.part) →
      g.S.Source.bound l.source * 65537 < work_left (g.S.Source.bound l.fn.source) l.fn.piece;
  failures : g.S.Source.failed l.source ≡ g.S.Source.failed l.fn.source;
}

abbrev pub decreases-pieces : goal.decreases-pieces
decreases-pieces g l = g.S.Source.bound l.source
