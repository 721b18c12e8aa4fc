use Rattle.std.proofs.Common.{◌≡◌}
use Rattle.std.specs.Prelude.{None}
use Rattle.mold_receive.specs.Receiving.{HasWritten, state_of}
use Rattle.mold_receive.proofs.feed_receiver.FeedReceiver.receive_some.Given as goal

abbrev pub invariant-loop : goal.invariant-loop
invariant-loop g l = record {
  written : HasWritten l.fn.options.lines l.fn.options.servers.items l.fn.self.outgoing.format g.D.PortSet.modeled
      (state_of g.D.PortSet.state l.fn.self) (state_of g.D.PortSet.state l.self)
      (g.K.Sink.held l.fn.sink) (g.K.Sink.held l.sink);
  format : l.self.outgoing.format ≡ l.fn.self.outgoing.format;
  going : l.stopped ≡ None;
}
