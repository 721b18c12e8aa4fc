use Rattle.std.proofs.Common.{◌≡◌, true, replicate}
use Rattle.mold_feeder.specs.FeedLines.{SendsOn, lines_at}
use Rattle.mold_feeder.proofs.feed_lines.send_often.Given as goal

-- this many copies were sent
abbrev pub invariant-loop-time : goal.invariant-loop-time
invariant-loop-time g l = record {
  sends :
      g.L.PortSet.modeled ≡ true →
      SendsOn l.fn.lines (replicate l._time l.fn.datagram) (lines_at (g.L.PortSet.state l.fn.ports).sent l.fn.counts)
      (lines_at (g.L.PortSet.state l.ports).sent l.counts);
  given : g.L.PortSet.modeled ≡ true → (g.L.PortSet.state l.ports).given ≡ (g.L.PortSet.state l.fn.ports).given;
  clock : (g.L.PortSet.state l.ports).now ≡ (g.L.PortSet.state l.fn.ports).now;
}
