use Rattle.std.proofs.Common.{[], subst, sym, ◌∙◌}
use Rattle.std.proofs.lemmas.Result.{on_ok_weaker}
use Rattle.mold_receive.proofs.CallLemmas.{on_err_of}
use Rattle.mold_receive.specs.Receiving.{last_line}
use Rattle.mold_recorder.specs.Recording.{HasSaid, RecorderState, state_of}
use Rattle.mold_recorder.proofs.EndingLemmas.{run_broken, run_ended, stopped_broken}
use Rattle.mold_recorder.proofs.RecordingLemmas.{said_then, stopped_saved}
use Rattle.mold_recorder.proofs.feed_recorder.FeedRecorder.run.Goals as goal

pub returns-in-Err-clause-broken : goal.returns-in-Err-clause-broken
returns-in-Err-clause-broken g c =
    stopped_broken g.S.Storage.shows g.S.Storage.may_leave g.S.Storage.moment g.S.Storage.left_since
    c.args.options.now.lines
    c.args.options.now.servers.items g.D.PortSet.modeled [] (state_of g.D.PortSet.state c.args.self.now.feed)
    (state_of g.D.PortSet.state c.run_turns.new.self.feed) c.args.journal.now c.save.new.journal
    (stopped_saved g.S.Storage.shows g.S.Storage.may_leave g.S.Storage.moment g.S.Storage.left_since
    g.met.S.Storage.only_now _ _ _ _ _ _ _ _ _ c.in-Err.ensures.stopped c.save.ensures.unwritten
    c.save.ensures.committed c.save.ensures.leaves)

pub returns-in-Ok-clause-ended : goal.returns-in-Ok-clause-ended
returns-in-Ok-clause-ended g c =
    on_ok_weaker c.end.result
    (λ ended.
    run_ended g.S.Storage.shows g.S.Storage.may_leave g.S.Storage.moment g.S.Storage.left_since _ _ _ _ _ _ _ _ _ _
    c.in-Ok.ensures.recorded ended c.end.ensures.leaves c.end.ensures.state)
    c.end.ensures.ended

pub returns-in-Ok-clause-broken : goal.returns-in-Ok-clause-broken
returns-in-Ok-clause-broken g c =
    on_err_of c.end.result
    (run_broken g.S.Storage.shows g.S.Storage.may_leave g.S.Storage.moment g.S.Storage.left_since _ _ _ _ _ _ _ _ _
    c.in-Ok.ensures.recorded c.end.ensures.leaves)

pub returns-in-Ok-clause-said : goal.returns-in-Ok-clause-said
returns-in-Ok-clause-said g c = λ blocks.
    on_ok_weaker c.end.result
    (λ said.
    subst (λ (s : RecorderState g.row.D-Peer.Denot). HasSaid (g.E.Sink.held c.args.errors.now)
    (g.E.Sink.held c.end.new.errors) (last_line s.repairer s.ports.failures)) (sym c.end.ensures.state)
    (said_then _ _ _ _ c.in-Ok.ensures.said said))
    (c.end.ensures.said (c.run_turns.ensures.format ∙ blocks))
