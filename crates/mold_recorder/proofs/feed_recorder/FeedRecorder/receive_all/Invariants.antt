use Rattle.std.proofs.Common.{◌≡◌, []}
use Rattle.mold_recorder.specs.CommitPlan.{IsPlanOf}
use Rattle.mold_recorder.specs.Recording.{HasRecorded, state_of}
use Rattle.mold_recorder.proofs.feed_recorder.FeedRecorder.receive_all.Given as goal

abbrev pub invariant-loop-port : goal.invariant-loop-port
invariant-loop-port g l = record {
  recorded : HasRecorded l.fn.options.lines l.fn.options.servers.items g.D.PortSet.modeled g.S.Storage.shows
      g.S.Storage.may_leave g.S.Storage.moment g.S.Storage.left_since [] (state_of g.D.PortSet.state l.fn.self.feed)
      (state_of g.D.PortSet.state l.self.feed) l.fn.journal l.journal;
  plan : IsPlanOf l.self.plan l.journal.waiting;
  format : l.self.feed.outgoing.format ≡ l.fn.self.feed.outgoing.format;
}
