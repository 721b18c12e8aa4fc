use Rattle.std.proofs.Common.{◌≡◌, ◌≤◌, ◌-◌, length, take}
use Rattle.std.specs.Io.KnownBytes.{Consumes, prepend_known}
use Rattle.mold_session.proofs.loading.fill.Given as goal

-- The first `count` bytes were read from the source.
abbrev pub invariant-loop-count : goal.invariant-loop-count
invariant-loop-count g l = record {
  within : l.count ≤ length l.buffer;
  bytes : Consumes (prepend_known l.fn.piece (g.S.Source.left l.fn.source))
      (prepend_known l.piece (g.S.Source.left l.source)) (take l.count l.buffer);
  counted : g.S.Source.failed l.source ≡ g.S.Source.failed l.fn.source;
}

abbrev pub decreases-loop-count : goal.decreases-loop-count
decreases-loop-count g l = length l.buffer - l.count
