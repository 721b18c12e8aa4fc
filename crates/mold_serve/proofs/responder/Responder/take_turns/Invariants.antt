use Rattle.std.proofs.Common.{◌≡◌, ℕ, List, true, length}
use Rattle.std.specs.Io.KnownBytes.{Appends}
use Rattle.mold_serve.specs.Serving.{IsSame, MayAnswer, behind, service_of, serving, state}
use Rattle.mold_serve.proofs.ServingLemmas.{Keeps}
use Rattle.mold_session.specs.Journal.{JournalState}
use Rattle.mold_turns.proofs.RunLemmas.{Going}
use Rattle.mold_turns.specs.Outgoing.{IsBounded}
use Rattle.mold_serve.proofs.responder.Responder.take_turns.Given as goal
use Rattle.mold_wire.specs.declared.limits.TheConstants.{MAX_LIMIT}

-- some turns were made, and the run continues from here; the text is bounded; neither the journal nor the sink failed
abbrev pub invariant-loop-turn : goal.invariant-loop-turn
invariant-loop-turn g l =
    let shows = g.J.ServedJournal.shows in
    record {
      going :
          (journal : JournalState) →
          MayAnswer shows l.fn.self.journal.now l.fn.self.server.now journal →
          g.D.Datagrams.modeled ≡ true →
          Going (serving (service_of journal l.fn.self.server.now)) behind
          (state g.D.Datagrams.port l.fn.self)
          (g.K.Sink.held l.fn.sink)
          (g.K.Sink.held l.sink)
          l._turn
          (state g.D.Datagrams.port l.self);
      bounded :
          IsBounded (g.K.Sink.live l.fn.sink) l.fn.self.tally.now.outgoing.text →
          IsBounded (g.K.Sink.live l.fn.sink) l.self.tally.now.outgoing.text;
      written : (text : List ℕ) × Appends (g.K.Sink.held l.fn.sink) (g.K.Sink.held l.sink) text;
      live : g.K.Sink.live l.sink ≡ g.K.Sink.live l.fn.sink;
      shown : Keeps shows l.fn.self.journal.now l.self.journal.now;
      same : IsSame l.fn.self l.self;
      buffer : length l.buffer ≡ MAX_LIMIT;
      failures :
          (journal : JournalState) →
          MayAnswer shows l.fn.self.journal.now l.fn.self.server.now journal →
          (g.J.ServedJournal.failed l.self.journal.now ≡ g.J.ServedJournal.failed l.fn.self.journal.now)
          × (g.K.Sink.failed l.sink ≡ g.K.Sink.failed l.fn.sink);
    }
