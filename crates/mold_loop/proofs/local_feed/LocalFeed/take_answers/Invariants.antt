use Rattle.std.proofs.Common.{◌≡◌, true, ◌-◌}
use Rattle.mold_listen.specs.Listening.{receive_responses}
use Rattle.mold_loop.specs.LocalFeed.{OnlyRepairs, asking_state}
use Rattle.mold_turns.specs.Outgoing.{KeepsSide}
use Rattle.mold_turns.specs.Runs.{Begins}
use Rattle.mold_loop.proofs.local_feed.LocalFeed.take_answers.Given as goal

-- the remaining receives lead from this state to the end of all receives; nothing is sent, and other ports are
-- unchanged
abbrev pub invariant-loop-answer : goal.invariant-loop-answer
invariant-loop-answer g l = record {
  received : g.D.Datagrams.modeled ≡ true →
      receive_responses (l.count - l._answer) (asking_state g.D.Datagrams.port l.self)
      ≡ receive_responses l.count (asking_state g.D.Datagrams.port l.fn.self);
  sent : g.D.Datagrams.modeled ≡ true →
      (g.D.Datagrams.port l.self.ports.now.requests).sent ≡ (g.D.Datagrams.port l.fn.self.ports.now.requests).sent;
  server : l.self.ports.now.server ≡ l.fn.self.ports.now.server;
  only : OnlyRepairs l.fn.self l.self;
  keeps : KeepsSide l.fn.self.listener.now.printer.outgoing l.self.listener.now.printer.outgoing;
  prints : Begins l.fn.self.listener.now.printer.outgoing.text l.self.listener.now.printer.outgoing.text;
}
