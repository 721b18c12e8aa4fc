use Rattle.std.proofs.Common.{◌≡◌}
use Rattle.mold_receive.specs.Receiving.{HasAsked, state_of}
use Rattle.mold_receive.proofs.feed_receiver.FeedReceiver.request_all.Given as goal

abbrev pub invariant-loop : goal.invariant-loop
invariant-loop g l = record {
  asked : HasAsked l.fn.options.lines l.fn.options.servers.items l.fn.self.outgoing.format g.D.PortSet.modeled
      (state_of g.D.PortSet.state l.fn.self) (state_of g.D.PortSet.state l.self);
  text : l.self.outgoing.text ≡ l.fn.self.outgoing.text;
  format : l.self.outgoing.format ≡ l.fn.self.outgoing.format;
}
