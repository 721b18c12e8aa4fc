use Rattle.std.proofs.Common.{refl, ◌∙◌}
use Rattle.mold_receive.proofs.CallLemmas.{on_err_of}
use Rattle.mold_recorder.proofs.RecordingLemmas.{recorded_then, recorded_yet, stopped_then}
use Rattle.mold_recorder.proofs.feed_recorder.FeedRecorder.receive_some.Goals as goal

pub loop-init : goal.loop-init
loop-init g c = record {
  recorded = recorded_yet g.S.Storage.shows g.S.Storage.may_leave g.S.Storage.moment g.S.Storage.left_since
      g.met.S.Storage.only_now _ _ _ _ _;
  plan = c.requires.plan;
  format = refl;
}

pub loop-preserved : goal.loop-preserved
loop-preserved g c = record {
  recorded = recorded_then g.S.Storage.shows g.S.Storage.may_leave g.S.Storage.moment g.S.Storage.left_since
      g.met.S.Storage.only_now _ _ _ _ _ _ _ _ _ _
      c.loop.invariant.recorded c.in_ok-receive_one.ensures.recorded;
  plan = c.in_ok-receive_one.ensures.plan;
  format = c.receive_one.ensures.format ∙ c.loop.invariant.format;
}

pub returns-in_err-receive_one-clause-stopped : goal.returns-in_err-receive_one-clause-stopped
returns-in_err-receive_one-clause-stopped g c =
    on_err_of c.from_residual.result
    (stopped_then g.S.Storage.shows g.S.Storage.may_leave g.S.Storage.moment g.S.Storage.left_since
    g.met.S.Storage.only_now _ _ _ _ _ _ _ _ _ _
    c.loop.invariant.recorded c.in_err-receive_one.ensures.stopped)

pub returns-then-not-branch-clause-recorded : goal.returns-then-not-branch-clause-recorded
returns-then-not-branch-clause-recorded g c =
    recorded_then g.S.Storage.shows g.S.Storage.may_leave g.S.Storage.moment g.S.Storage.left_since
    g.met.S.Storage.only_now _ _ _ _ _ _ _ _ _ _
    c.loop.invariant.recorded c.in_ok-receive_one.ensures.recorded
