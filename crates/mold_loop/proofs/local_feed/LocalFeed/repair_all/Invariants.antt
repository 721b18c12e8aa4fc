use Rattle.std.proofs.Common.{◌≡◌, true}
use Rattle.mold_loop.specs.LocalFeed.{OnlyRepairs, rounds}
use Rattle.mold_loop.specs.Repairing.{repairing, side_before, text_before}
use Rattle.mold_loop.specs.Writing.{IsPlain}
use Rattle.mold_serve.specs.Serving.{service_of}
use Rattle.mold_turns.specs.Outgoing.{IsBounded}
use Rattle.mold_turns.proofs.RunLemmas.{GoingBeside}
use Rattle.mold_loop.proofs.local_feed.LocalFeed.repair_all.Given as goal

-- the rounds so far changed nothing else, the rest of the run starts at this state, the text is bounded, no sink has
-- failed, and among lines nothing was written to standard error
abbrev pub invariant-loop-turn : goal.invariant-loop-turn
invariant-loop-turn g l =
    let known = g.D.Datagrams.port in
    record {
      going :
          g.D.Datagrams.modeled ≡ true →
          GoingBeside (repairing l.fn.self.options.now.peers.server (service_of l.journal l.fn.server)) text_before
          side_before
          (rounds known l.fn.server l.fn.self) (g.K.Sink.held l.fn.sink) (g.K.Sink.held l.sink)
          (g.E.Sink.held l.fn.errors) (g.E.Sink.held l.errors) l._turn (rounds known l.server l.self);
      server : l.server ≡ record l.fn.server { answered = l.server.answered };
      only : OnlyRepairs l.fn.self l.self;
      bounded : IsBounded (g.K.Sink.live l.fn.sink) l.self.listener.now.printer.outgoing.text;
      live : g.K.Sink.live l.sink ≡ g.K.Sink.live l.fn.sink;
      sink : g.K.Sink.failed l.sink ≡ g.K.Sink.failed l.fn.sink;
      errors : g.E.Sink.failed l.errors ≡ g.E.Sink.failed l.fn.errors;
      plain : IsPlain l.fn.self.listener.now.printer.outgoing → IsPlain l.self.listener.now.printer.outgoing;
      quiet : IsPlain l.fn.self.listener.now.printer.outgoing → l.errors ≡ l.fn.errors;
    }
