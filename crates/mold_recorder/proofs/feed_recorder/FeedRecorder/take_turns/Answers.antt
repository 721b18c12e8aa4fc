use Rattle.std.proofs.Common.{refl, ◌∙◌}
use Rattle.mold_receive.proofs.CallLemmas.{on_err_of}
use Rattle.mold_recorder.proofs.RecordingLemmas.{recorded_then, recorded_yet, said_none, said_then, stopped_then}
use Rattle.mold_recorder.proofs.feed_recorder.FeedRecorder.take_turns.Goals as goal

pub loop-init : goal.loop-init
loop-init g c = record {
  recorded = recorded_yet g.S.Storage.shows g.S.Storage.may_leave g.S.Storage.moment g.S.Storage.left_since
      g.met.S.Storage.only_now _ _ _ _ _;
  plan = c.requires.plan;
  said = said_none _;
  format = refl;
}

pub loop-preserved : goal.loop-preserved
loop-preserved g c = record {
  recorded = recorded_then g.S.Storage.shows g.S.Storage.may_leave g.S.Storage.moment g.S.Storage.left_since
      g.met.S.Storage.only_now _ _ _ _ _ _ _ _ _ _
      c.loop.invariant.recorded c.in_ok-turn.ensures.recorded;
  plan = c.in_ok-turn.ensures.plan;
  said = said_then _ _ _ _ c.loop.invariant.said c.in_ok-turn.ensures.said;
  format = c.turn.ensures.format ∙ c.loop.invariant.format;
}

pub returns-in_err-turn-clause-stopped : goal.returns-in_err-turn-clause-stopped
returns-in_err-turn-clause-stopped g c =
    on_err_of c.from_residual.result
    (stopped_then g.S.Storage.shows g.S.Storage.may_leave g.S.Storage.moment g.S.Storage.left_since
    g.met.S.Storage.only_now _ _ _ _ _ _ _ _ _ _
    c.loop.invariant.recorded c.in_err-turn.ensures.stopped)

pub returns-then-is_finished-clause-recorded : goal.returns-then-is_finished-clause-recorded
returns-then-is_finished-clause-recorded g c =
    recorded_then g.S.Storage.shows g.S.Storage.may_leave g.S.Storage.moment g.S.Storage.left_since
    g.met.S.Storage.only_now _ _ _ _ _ _ _ _ _ _
    c.loop.invariant.recorded c.in_ok-turn.ensures.recorded

pub returns-then-is_finished-clause-said : goal.returns-then-is_finished-clause-said
returns-then-is_finished-clause-said g c = said_then _ _ _ _ c.loop.invariant.said c.in_ok-turn.ensures.said
