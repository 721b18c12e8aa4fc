use Rattle.std.proofs.Common.{◌≡◌, [], true}
use Rattle.mold_input.specs.declared.message_format.MessageFormat.TheVariants.{Lines}
use Rattle.mold_turns.proofs.RunLemmas.{GoingBeside}
use Rattle.mold_turns.specs.Outgoing.{IsBounded}
use Rattle.mold_listen.specs.Listening.{IsSame, listening, put_before, put_beside, state}
use Rattle.mold_listen.proofs.feed_listener.FeedListener.take_turns.Given as goal

-- some turns were made, and the run continues from here; the text is bounded, and no sink failed; among lines,
-- nothing was written to standard error
abbrev pub invariant-loop-turn : goal.invariant-loop-turn
invariant-loop-turn g l = record {
  going : g.D.Datagrams.modeled ≡ true → GoingBeside (listening l.options.server l.options.burst) put_before put_beside
      (state g.D.Datagrams.port l.fn.self)
      (g.K.Sink.held l.fn.sink) (g.K.Sink.held l.sink) (g.E.Sink.held l.fn.errors) (g.E.Sink.held l.errors) l._turn
      (state g.D.Datagrams.port l.self);
  bounded :
      IsBounded (g.K.Sink.live l.fn.sink) l.fn.self.printer.now.outgoing.text →
      IsBounded (g.K.Sink.live l.fn.sink) l.self.printer.now.outgoing.text;
  live : g.K.Sink.live l.sink ≡ g.K.Sink.live l.fn.sink;
  same : IsSame l.fn.self l.self;
  sink : g.K.Sink.failed l.sink ≡ g.K.Sink.failed l.fn.sink;
  errors : g.E.Sink.failed l.errors ≡ g.E.Sink.failed l.fn.errors;
  format : l.self.printer.now.outgoing.format ≡ l.fn.self.printer.now.outgoing.format;
  said : l.fn.self.printer.now.outgoing.side ≡ [] → l.self.printer.now.outgoing.side ≡ [];
  quiet : l.fn.self.printer.now.outgoing.format ≡ Lines → l.fn.self.printer.now.outgoing.side ≡ [] →
      l.errors ≡ l.fn.errors;
}
