use Rattle.std.proofs.Common.{◌≡◌, true, replicate}
use Rattle.mold_send.specs.PublishLoop.{IsSameLines, SendsBoth}
use Rattle.mold_send.proofs.sending.TwoLines.send_often.Given as goal

-- this many datagrams were sent
abbrev pub invariant-loop-time : goal.invariant-loop-time
invariant-loop-time g l = record {
  sends :
      g.D.Datagrams.modeled ≡ true →
      SendsBoth g.D.Datagrams.port (replicate l._time l.fn.datagram) l.fn.self l.self;
  same : IsSameLines l.fn.self l.self;
}
