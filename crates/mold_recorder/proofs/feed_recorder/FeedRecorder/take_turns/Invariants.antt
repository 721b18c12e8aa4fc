use Rattle.std.proofs.Common.{◌≡◌, []}
use Rattle.mold_recorder.specs.CommitPlan.{IsPlanOf}
use Rattle.mold_recorder.specs.Recording.{HasRecorded, HasSaid, state_of}
use Rattle.mold_recorder.proofs.feed_recorder.FeedRecorder.take_turns.Given as goal

abbrev pub invariant-loop : goal.invariant-loop
invariant-loop g l = record {
  recorded : HasRecorded l.fn.options.lines l.fn.options.servers.items g.D.PortSet.modeled g.S.Storage.shows
      g.S.Storage.may_leave g.S.Storage.moment g.S.Storage.left_since [] (state_of g.D.PortSet.state l.fn.self.feed)
      (state_of g.D.PortSet.state l.self.feed) l.fn.journal l.journal;
  plan : IsPlanOf l.self.plan l.journal.waiting;
  said : HasSaid (g.E.Sink.held l.fn.errors) (g.E.Sink.held l.errors) [];
  format : l.self.feed.outgoing.format ≡ l.fn.self.feed.outgoing.format;
}
