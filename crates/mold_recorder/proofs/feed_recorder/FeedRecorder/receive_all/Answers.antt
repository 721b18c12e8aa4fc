use Rattle.std.proofs.Common.{refl, ◌∙◌}
use Rattle.mold_receive.proofs.CallLemmas.{on_err_of}
use Rattle.mold_recorder.proofs.RecordingLemmas.{recorded_then, recorded_yet, stopped_then}
use Rattle.mold_recorder.proofs.feed_recorder.FeedRecorder.receive_all.Goals as goal

pub loop-port-init : goal.loop-port-init
loop-port-init g c = record {
  recorded = recorded_yet g.S.Storage.shows g.S.Storage.may_leave g.S.Storage.moment g.S.Storage.left_since
      g.met.S.Storage.only_now _ _ _ _ _;
  plan = c.requires.plan;
  format = refl;
}

pub loop-port-preserved : goal.loop-port-preserved
loop-port-preserved g c = record {
  recorded = recorded_then g.S.Storage.shows g.S.Storage.may_leave g.S.Storage.moment g.S.Storage.left_since
      g.met.S.Storage.only_now _ _ _ _ _ _ _ _ _ _
      c.loop-port.invariant.recorded c.in_ok-receive_some.ensures.recorded;
  plan = c.in_ok-receive_some.ensures.plan;
  format = c.receive_some.ensures.format ∙ c.loop-port.invariant.format;
}

pub returns-in_err-receive_some-clause-stopped : goal.returns-in_err-receive_some-clause-stopped
returns-in_err-receive_some-clause-stopped g c =
    on_err_of c.from_residual.result
    (stopped_then g.S.Storage.shows g.S.Storage.may_leave g.S.Storage.moment g.S.Storage.left_since
    g.met.S.Storage.only_now _ _ _ _ _ _ _ _ _ _
    c.loop-port.invariant.recorded c.in_err-receive_some.ensures.stopped)
