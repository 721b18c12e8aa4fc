use Rattle.std.proofs.Common.{◌≡◌, true, ◌-◌}
use Rattle.mold_listen.specs.Listening.{IsSame, asking_state, receive_responses, receives}
use Rattle.mold_turns.specs.Outgoing.{KeepsSide}
use Rattle.mold_turns.specs.Runs.{Begins}
use Rattle.mold_listen.proofs.feed_listener.FeedListener.receive_responses.Given as goal

-- all receives give the same end as the remaining receives do from here; nothing is sent, and the lines do not change
abbrev pub invariant-loop : goal.invariant-loop
invariant-loop g l = record {
  received : g.D.Datagrams.modeled ≡ true →
      receive_responses (receives (l.most - l.counter) (g.D.Datagrams.port l.self.requests.now).comes)
      (asking_state g.D.Datagrams.port l.self)
      ≡ receive_responses (receives l.most (g.D.Datagrams.port l.fn.self.requests.now).comes)
      (asking_state g.D.Datagrams.port l.fn.self);
  sent : g.D.Datagrams.modeled ≡ true →
      (g.D.Datagrams.port l.self.requests.now).sent ≡ (g.D.Datagrams.port l.fn.self.requests.now).sent;
  a : l.self.a ≡ l.fn.self.a;
  b : l.self.b ≡ l.fn.self.b;
  same : IsSame l.fn.self l.self;
  prints : Begins l.fn.self.printer.now.outgoing.text l.self.printer.now.outgoing.text;
  keeps : KeepsSide l.fn.self.printer.now.outgoing l.self.printer.now.outgoing;
}
