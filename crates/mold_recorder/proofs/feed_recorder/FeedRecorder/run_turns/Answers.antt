use Rattle.mold_receive.proofs.CallLemmas.{on_err_of}
use Rattle.mold_recorder.proofs.RecordingLemmas.{recorded_yet, stopped_of}
use Rattle.mold_recorder.proofs.feed_recorder.FeedRecorder.run_turns.Goals as goal

pub returns-in_err-buffer-clause-stopped : goal.returns-in_err-buffer-clause-stopped
returns-in_err-buffer-clause-stopped g c =
    on_err_of c.from_residual.result
    (stopped_of g.S.Storage.shows g.S.Storage.may_leave g.S.Storage.moment g.S.Storage.left_since
    g.met.S.Storage.only_now _ _ _ _ _ _ _ _
    (recorded_yet g.S.Storage.shows g.S.Storage.may_leave g.S.Storage.moment g.S.Storage.left_since
    g.met.S.Storage.only_now _ _ _ _ _))
