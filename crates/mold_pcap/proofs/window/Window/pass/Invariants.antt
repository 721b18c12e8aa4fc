use Rattle.std.proofs.Common.{◌≡◌, ◌-◌, ◌<◌, ◌≤◌}
use Rattle.std.specs.Io.KnownBytes.{prepend_known}
use Rattle.mold_devices.specs.Lines.{work_left}
use Rattle.mold_pcap.specs.Windows.{Passes}
use Rattle.mold_pcap.proofs.window.Window.pass.Given as goal

-- All but `left` bytes were passed.
abbrev pub invariant-loop-left : goal.invariant-loop-left
invariant-loop-left g l = record {
  few : l.left ≤ l.count;
  passed : Passes (l.count - l.left) (prepend_known l.fn.self (g.S.Source.left l.fn.source))
      (prepend_known l.self (g.S.Source.left l.source));
  work : work_left (g.S.Source.bound l.source) l.self ≤ work_left (g.S.Source.bound l.fn.source) l.fn.self;
  less : l.left < l.count →
      work_left (g.S.Source.bound l.source) l.self < work_left (g.S.Source.bound l.fn.source) l.fn.self;
  failures : g.S.Source.failed l.source ≡ g.S.Source.failed l.fn.source;
}

abbrev pub decreases-loop-left : goal.decreases-loop-left
decreases-loop-left g l = l.left
