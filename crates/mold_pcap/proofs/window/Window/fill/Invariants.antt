use Rattle.std.proofs.Common.{◌≡◌, ◌<◌, ◌≤◌, length}
use Rattle.std.specs.Io.KnownBytes.{Keeps, prepend_known}
use Rattle.mold_devices.specs.Lines.{work_left}
use Rattle.mold_pcap.proofs.window.Window.fill.Given as goal

-- The same bytes remain, and each read was less work for the next ones.
abbrev pub invariant-loop-self : goal.invariant-loop-self
invariant-loop-self g l = record {
  same : Keeps (prepend_known l.fn.self (g.S.Source.left l.fn.source)) (prepend_known l.self
      (g.S.Source.left l.source));
  work : work_left (g.S.Source.bound l.source) l.self ≤ work_left (g.S.Source.bound l.fn.source) l.fn.self;
  less : length l.fn.self < length l.self →
      work_left (g.S.Source.bound l.source) l.self < work_left (g.S.Source.bound l.fn.source) l.fn.self;
  longer : length l.fn.self ≤ length l.self;
  failures : g.S.Source.failed l.source ≡ g.S.Source.failed l.fn.source;
}

abbrev pub decreases-loop-self : goal.decreases-loop-self
decreases-loop-self g l = g.S.Source.bound l.source
