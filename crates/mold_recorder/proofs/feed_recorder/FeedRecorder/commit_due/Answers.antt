use Rattle.std.proofs.lemmas.Result.{on_err_weaker, on_ok_weaker}
use Rattle.mold_recorder.specs.Recording.{state_of}
use Rattle.mold_recorder.proofs.RecordingLemmas.{recorded_commit, recorded_yet, stopped_commit}
use Rattle.mold_recorder.proofs.feed_recorder.FeedRecorder.commit_due.Goals as goal

pub returns-then-not-is_due-clause-recorded : goal.returns-then-not-is_due-clause-recorded
returns-then-not-is_due-clause-recorded g c = λ lines servers.
    recorded_yet g.S.Storage.shows g.S.Storage.may_leave g.S.Storage.moment g.S.Storage.left_since
    g.met.S.Storage.only_now lines servers g.D.PortSet.modeled
    (state_of g.D.PortSet.state c.args.self.now.feed) c.args.journal.now

pub returns-clause-recorded : goal.returns-clause-recorded
returns-clause-recorded g c =
    on_ok_weaker c.commit.result
    (λ appended. λ lines servers.
    recorded_commit g.S.Storage.shows g.S.Storage.may_leave g.S.Storage.moment g.S.Storage.left_since
    g.met.S.Storage.only_now lines servers g.D.PortSet.modeled
    (state_of g.D.PortSet.state c.args.self.now.feed) c.args.journal.now c.commit.new.journal appended)
    c.commit.ensures.appended

pub returns-clause-stopped : goal.returns-clause-stopped
returns-clause-stopped g c =
    on_err_weaker c.commit.result
    (λ some. λ lines servers.
    stopped_commit g.S.Storage.shows g.S.Storage.may_leave g.S.Storage.moment g.S.Storage.left_since
    g.met.S.Storage.only_now lines servers g.D.PortSet.modeled
    (state_of g.D.PortSet.state c.args.self.now.feed) c.args.journal.now c.commit.new.journal some)
    c.commit.ensures.some
