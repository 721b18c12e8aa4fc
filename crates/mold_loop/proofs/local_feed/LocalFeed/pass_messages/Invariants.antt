use Rattle.std.proofs.Common.{◌≡◌, ◌≤◌, true}
use Rattle.std.specs.Io.KnownBytes.{prepend_known}
use Rattle.mold_devices.specs.Lines.{work_left}
use Rattle.mold_input.specs.Entries.{known_input}
use Rattle.mold_publish.specs.Publishing.{HasRoom}
use Rattle.mold_turns.specs.Outgoing.{IsBounded}
use Rattle.mold_loop.specs.LocalFeed.{OnlyPasses, lines}
use Rattle.mold_loop.specs.Writing.{IsPlain}
use Rattle.mold_loop.proofs.HearsLemmas.{HeardSoFar}
use Rattle.mold_loop.proofs.local_feed.LocalFeed.pass_messages.Given as goal

-- the unsent messages fit a datagram, the data so far are passed and nothing else changed, the limit is the same, no
-- device failed, and among lines nothing was written to standard error
abbrev pub invariant-passing : goal.invariant-passing
invariant-passing g l = record {
  room : HasRoom l.publisher;
  few : l.number ≤ l.publisher.sent;
  received :
      g.D.Datagrams.modeled ≡ true →
      HeardSoFar l.fn.self.options.now.drops l.fn.self.options.now.peers.a l.fn.self.options.now.peers.b l.fn.publisher l.publisher
      (known_input g.M.MessageReader.input_kind g.M.MessageReader.entries (g.S.Source.left l.fn.source))
      (known_input g.M.MessageReader.input_kind g.M.MessageReader.entries
      (prepend_known (g.M.InputReader.unread l.messages) (g.S.Source.left l.source)))
      (lines g.D.Datagrams.port l.fn.self) (lines g.D.Datagrams.port l.self)
      (g.K.Sink.held l.fn.sink) (g.K.Sink.held l.sink) (g.E.Sink.held l.fn.errors) (g.E.Sink.held l.errors) l.number;
  only : OnlyPasses g.D.Datagrams.modeled g.D.Datagrams.port l.fn.self l.self;
  limit : l.publisher.limit ≡ l.fn.publisher.limit;
  bounded :
      IsBounded (g.K.Sink.live l.fn.sink) l.fn.self.listener.now.printer.outgoing.text →
      IsBounded (g.K.Sink.live l.fn.sink) l.self.listener.now.printer.outgoing.text;
  live : g.K.Sink.live l.sink ≡ g.K.Sink.live l.fn.sink;
  source : g.S.Source.failed l.source ≡ g.S.Source.failed l.fn.source;
  sink : g.K.Sink.failed l.sink ≡ g.K.Sink.failed l.fn.sink;
  errors : g.E.Sink.failed l.errors ≡ g.E.Sink.failed l.fn.errors;
  plain : IsPlain l.fn.self.listener.now.printer.outgoing → IsPlain l.self.listener.now.printer.outgoing;
  quiet : IsPlain l.fn.self.listener.now.printer.outgoing → l.errors ≡ l.fn.errors;
}

abbrev pub decreases-passing : goal.decreases-passing
decreases-passing g l = work_left (g.S.Source.bound l.source) (g.M.InputReader.unread l.messages)
