use Rattle.std.proofs.Common.{◌≡◌, ◌*◌, ◌<◌, ◌≤◌, length}
use Rattle.std.specs.Io.KnownBytes.{Consumes, prepend_known}
use Rattle.mold_devices.specs.Lines.{HasNoEnd, work_left}
use Rattle.mold_devices.proofs.lines.join_line.Given as goal

-- The bytes that were read and not delivered are the joined bytes, and no line ends in them.
abbrev pub invariant-pieces : goal.invariant-pieces
invariant-pieces g l = record {
  read : Consumes (prepend_known l.fn.piece (g.S.Source.left l.fn.source)) (g.S.Source.left l.source) l.joined.items;
  no_end : HasNoEnd l.joined.items;
  lower : g.S.Source.bound l.source ≤ g.S.Source.bound l.fn.source;
  work : 0 < length l.joined.items →
      g.S.Source.bound l.source * 65537 < work_left (g.S.Source.bound l.fn.source) l.fn.piece;
  failures : g.S.Source.failed l.source ≡ g.S.Source.failed l.fn.source;
}

abbrev pub decreases-pieces : goal.decreases-pieces
decreases-pieces g l = g.S.Source.bound l.source
