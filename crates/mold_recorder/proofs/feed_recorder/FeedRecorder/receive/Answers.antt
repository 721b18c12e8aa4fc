use Rattle.std.proofs.Common.{◌∙◌}
use Rattle.std.proofs.lemmas.Result.{on_ok_weaker}
use Rattle.mold_receive.proofs.CallLemmas.{on_err_map, on_err_of}
use Rattle.mold_recorder.proofs.EndingLemmas.{broken_after, ended_after, stopped_broken}
use Rattle.mold_recorder.proofs.feed_recorder.FeedRecorder.receive.Goals as goal

pub returns-in_err-take_first-clause-broken : goal.returns-in_err-take_first-clause-broken
returns-in_err-take_first-clause-broken g c =
    on_err_of c.from_residual.result
    (stopped_broken g.S.Storage.shows g.S.Storage.may_leave g.S.Storage.moment g.S.Storage.left_since
    c.args.options.now.lines c.args.options.now.servers.items g.D.PortSet.modeled _ _ _ _ _
    (c.in_err-take_first.ensures.stopped c.args.options.now.lines c.args.options.now.servers.items))

pub returns-in_err-take_first-clause-saved : goal.returns-in_err-take_first-clause-saved
returns-in_err-take_first-clause-saved g c = on_err_of c.from_residual.result c.in_err-take_first.ensures.saved

pub returns-clause-ended : goal.returns-clause-ended
returns-clause-ended g c =
    on_ok_weaker c.run.result
    (λ ended.
    ended_after g.S.Storage.shows g.S.Storage.may_leave g.S.Storage.moment g.S.Storage.left_since
    c.args.options.now.lines c.args.options.now.servers.items g.D.PortSet.modeled _ _ _ _ _ _ _
    (c.in_ok-take_first.ensures.recorded c.args.options.now.lines c.args.options.now.servers.items) ended)
    c.run.ensures.ended

pub returns-clause-broken : goal.returns-clause-broken
returns-clause-broken g c =
    on_err_map c.run.result
    (λ broken.
    broken_after g.S.Storage.shows g.S.Storage.may_leave g.S.Storage.moment g.S.Storage.left_since
    c.args.options.now.lines c.args.options.now.servers.items g.D.PortSet.modeled _ _ _ _ _ _
    (c.in_ok-take_first.ensures.recorded c.args.options.now.lines c.args.options.now.servers.items) broken)
    c.run.ensures.broken

pub returns-clause-said : goal.returns-clause-said
returns-clause-said g c = λ blocks. c.run.ensures.said (c.take_first.ensures.format ∙ blocks)
