use Rattle.std.proofs.Common.{◌≡◌, ℕ, ap, refl, ◌∙◌}
use Rattle.mold_receive.proofs.CallLemmas.{gave_fault, gave_none, gave_some, on_err_of}
use Rattle.mold_receive.specs.Receiving.{port_of}
use Rattle.mold_recorder.specs.Recording.{state_of}
use Rattle.mold_recorder.proofs.RecordingLemmas.{delivered_none, recorded_one, recorded_still, stopped_one}
use Rattle.mold_recorder.proofs.feed_recorder.FeedRecorder.receive_one.Goals as goal

pub returns-in_ok-take-in-Ok-Some-clause-recorded : goal.returns-in_ok-take-in-Ok-Some-clause-recorded
returns-in_ok-take-in-Ok-Some-clause-recorded g c =
    let lines = c.args.options.now.lines in
    let origin = c.origin_of-origin.result in
    let at : c.args.port ≡ port_of lines origin =
    c.origin_of-origin.ensures ∙ ap (λ (n : ℕ). port_of n origin) c.lines.ensures in
    recorded_one g.S.Storage.shows g.S.Storage.may_leave g.S.Storage.moment g.S.Storage.left_since
    g.met.S.Storage.only_now lines
    c.args.options.now.servers.items g.D.PortSet.modeled _ (state_of g.D.PortSet.state c.args.self.now.feed)
    (state_of g.D.PortSet.state c.take.new.self.feed) _ _ _ c.in_ok-take-in-Ok-Some.ensures.taken
    (λ is.
    ap (λ p. (g.D.PortSet.state p).given) c.take.ensures.ports
    ∙ gave_some _ _ c.args.port _ c.receive.result c.in-Ok-Some.field-0 c.in-Ok-Some.count c.receive.new.buffer
    (c.receive.ensures.given is) c.in-Ok-Some.is c.in-Ok-Some.field-0-is at)
    (λ is. ap (λ p. (g.D.PortSet.state p).sent) c.take.ensures.ports ∙ c.receive.ensures.sent is)

pub returns-in_err-take-in-Ok-Some-clause-stopped : goal.returns-in_err-take-in-Ok-Some-clause-stopped
returns-in_err-take-in-Ok-Some-clause-stopped g c =
    let lines = c.args.options.now.lines in
    let origin = c.origin_of-origin.result in
    let at : c.args.port ≡ port_of lines origin =
    c.origin_of-origin.ensures ∙ ap (λ (n : ℕ). port_of n origin) c.lines.ensures in
    on_err_of c.from_residual.result
    (stopped_one g.S.Storage.shows g.S.Storage.may_leave g.S.Storage.moment g.S.Storage.left_since
    g.met.S.Storage.only_now lines
    c.args.options.now.servers.items g.D.PortSet.modeled _ (state_of g.D.PortSet.state c.args.self.now.feed)
    (state_of g.D.PortSet.state c.take.new.self.feed) _ _ _ c.in_err-take-in-Ok-Some.ensures.taken
    (λ is.
    ap (λ p. (g.D.PortSet.state p).given) c.take.ensures.ports
    ∙ gave_some _ _ c.args.port _ c.receive.result c.in-Ok-Some.field-0 c.in-Ok-Some.count c.receive.new.buffer
    (c.receive.ensures.given is) c.in-Ok-Some.is c.in-Ok-Some.field-0-is at)
    (λ is. ap (λ p. (g.D.PortSet.state p).sent) c.take.ensures.ports ∙ c.receive.ensures.sent is))

pub returns-in-Ok-None-clause-recorded : goal.returns-in-Ok-None-clause-recorded
returns-in-Ok-None-clause-recorded g c =
    recorded_still g.S.Storage.shows g.S.Storage.may_leave g.S.Storage.moment g.S.Storage.left_since
    g.met.S.Storage.only_now _ _ _ _ _ _ _
    (delivered_none _ _ _ _ _ refl
    (λ is. gave_none _ _ c.args.port c.receive.result c.in-Ok-None.field-0 c.receive.new.buffer
    (c.receive.ensures.given is)
    c.in-Ok-None.is c.in-Ok-None.field-0-is)
    c.receive.ensures.sent)

pub returns-in-Err-clause-recorded : goal.returns-in-Err-clause-recorded
returns-in-Err-clause-recorded g c =
    recorded_still g.S.Storage.shows g.S.Storage.may_leave g.S.Storage.moment g.S.Storage.left_since
    g.met.S.Storage.only_now _ _ _ _ _ _ _
    (delivered_none _ _ _ _ _ refl
    (λ is. gave_fault _ _ c.args.port c.receive.result c.in-Err.field-0 c.receive.new.buffer
    (c.receive.ensures.given is)
    c.in-Err.is)
    c.receive.ensures.sent)
