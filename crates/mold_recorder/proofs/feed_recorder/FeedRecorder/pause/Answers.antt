use Rattle.std.proofs.lemmas.Result.{on_err_weaker, on_ok_weaker}
use Rattle.mold_receive.proofs.CallLemmas.{on_err_of}
use Rattle.mold_recorder.proofs.RecordingLemmas.{delivered_asked, recorded_still, recorded_then, stopped_then}
use Rattle.mold_recorder.proofs.feed_recorder.FeedRecorder.pause.Goals as goal

pub returns-then-is_busy-clause-recorded : goal.returns-then-is_busy-clause-recorded
returns-then-is_busy-clause-recorded g c =
    on_ok_weaker c.commit_due.result (λ recorded. λ lines servers.
    recorded_then g.S.Storage.shows g.S.Storage.may_leave g.S.Storage.moment g.S.Storage.left_since
    g.met.S.Storage.only_now lines servers g.D.PortSet.modeled _ _ _ _ _ _ _
    (recorded_still g.S.Storage.shows g.S.Storage.may_leave g.S.Storage.moment g.S.Storage.left_since
    g.met.S.Storage.only_now lines servers g.D.PortSet.modeled _ _ _ c.args.journal.now
    (delivered_asked lines servers _ _ _ _ (c.is_busy.ensures.asked lines servers)))
    (recorded lines servers))
    c.commit_due.ensures.recorded

pub returns-then-is_busy-clause-stopped : goal.returns-then-is_busy-clause-stopped
returns-then-is_busy-clause-stopped g c =
    on_err_weaker c.commit_due.result (λ stopped. λ lines servers.
    stopped_then g.S.Storage.shows g.S.Storage.may_leave g.S.Storage.moment g.S.Storage.left_since
    g.met.S.Storage.only_now lines servers g.D.PortSet.modeled _ _ _ _ _ _ _
    (recorded_still g.S.Storage.shows g.S.Storage.may_leave g.S.Storage.moment g.S.Storage.left_since
    g.met.S.Storage.only_now lines servers g.D.PortSet.modeled _ _ _ c.args.journal.now
    (delivered_asked lines servers _ _ _ _ (c.is_busy.ensures.asked lines servers)))
    (stopped lines servers))
    c.commit_due.ensures.stopped

pub returns-in_err-commit_due-clause-stopped : goal.returns-in_err-commit_due-clause-stopped
returns-in_err-commit_due-clause-stopped g c =
    on_err_of c.from_residual.result (λ lines servers.
    stopped_then g.S.Storage.shows g.S.Storage.may_leave g.S.Storage.moment g.S.Storage.left_since
    g.met.S.Storage.only_now lines servers g.D.PortSet.modeled _ _ _ _ _ _ _
    (recorded_still g.S.Storage.shows g.S.Storage.may_leave g.S.Storage.moment g.S.Storage.left_since
    g.met.S.Storage.only_now lines servers g.D.PortSet.modeled _ _ _ c.args.journal.now
    (delivered_asked lines servers _ _ _ _ (c.is_busy.ensures.asked lines servers)))
    (c.in_err-commit_due.ensures.stopped lines servers))

pub returns-clause-recorded : goal.returns-clause-recorded
returns-clause-recorded g c = λ lines servers.
    recorded_then g.S.Storage.shows g.S.Storage.may_leave g.S.Storage.moment g.S.Storage.left_since
    g.met.S.Storage.only_now lines servers g.D.PortSet.modeled _ _ _ _ _ _ _
    (recorded_then g.S.Storage.shows g.S.Storage.may_leave g.S.Storage.moment g.S.Storage.left_since
    g.met.S.Storage.only_now lines servers g.D.PortSet.modeled _ _ _ _ _ _ _
    (recorded_still g.S.Storage.shows g.S.Storage.may_leave g.S.Storage.moment g.S.Storage.left_since
    g.met.S.Storage.only_now lines servers g.D.PortSet.modeled _ _ _ c.args.journal.now
    (delivered_asked lines servers _ _ _ _ (c.is_busy.ensures.asked lines servers)))
    (c.in_ok-commit_due.ensures.recorded lines servers))
    (recorded_still g.S.Storage.shows g.S.Storage.may_leave g.S.Storage.moment g.S.Storage.left_since
    g.met.S.Storage.only_now lines servers g.D.PortSet.modeled _ _ _ c.commit_due-2.new.journal
    (delivered_asked lines servers _ _ _ _ (c.wait.ensures.asked lines servers)))
