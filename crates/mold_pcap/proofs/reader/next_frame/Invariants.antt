use Rattle.std.proofs.Common.{◌≡◌, ◌≤◌}
use Rattle.std.specs.Io.KnownBytes.{prepend_known}
use Rattle.mold_devices.specs.Lines.{work_left}
use Rattle.mold_pcap.specs.Reading.{Leads}
use Rattle.mold_pcap.proofs.reader.next_frame.Given as goal

-- The capture goes on with the parts that remain.
abbrev pub invariant-parts : goal.invariant-parts
invariant-parts g l = record {
  leads : Leads l.fn.format (prepend_known l.fn.window (g.S.Source.left l.fn.source)) l.format
      (prepend_known l.window (g.S.Source.left l.source));
  work : work_left (g.S.Source.bound l.source) l.window ≤ work_left (g.S.Source.bound l.fn.source) l.fn.window;
  failures : g.S.Source.failed l.source ≡ g.S.Source.failed l.fn.source;
}

abbrev pub decreases-parts : goal.decreases-parts
decreases-parts g l = work_left (g.S.Source.bound l.source) l.window
