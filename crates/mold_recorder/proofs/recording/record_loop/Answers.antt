use Rattle.std.proofs.Common.{[], refl, subst, sym}
use Rattle.std.proofs.Common.{◌≡◌, List, ℕ, arith}
use Rattle.mold_recorder.specs.CommitPlan.{IsPlanOf, plan_of_none}
use Rattle.mold_recorder.specs.declared.commit_plan.CommitPlan.{CommitPlan}
use Rattle.mold_receive.proofs.CallLemmas.{on_err_of}
use Rattle.mold_receive.specs.Receiving.{datagram_of_first, is_finished}
use Rattle.mold_recorder.specs.Recording.{HasBroken, HasEnded, RecorderState, state_of}
use Rattle.mold_recorder.proofs.EndingLemmas.{closed_if, ended_number}
use Rattle.mold_recorder.proofs.EndingLemmas.{started_as}
use Rattle.mold_recorder.proofs.recording.record_loop.Goals as goal

-- No message waits at the start.
plan_none : (plan : CommitPlan) (waiting : List (List ℕ)) → plan ≡ plan_of_none → waiting ≡ [] → IsPlanOf plan waiting
plan_none plan waiting is none =
    subst (λ (p : CommitPlan). IsPlanOf p waiting) (sym is)
    (subst (λ (w : List (List ℕ)). IsPlanOf plan_of_none w) (sym none)
    (record { counted = refl; few = omega arith; timed = λ _. refl }))

pub receive-requires : goal.receive-requires
receive-requires g c =
    record { plan = plan_none c.new.result c.args.journal.now.waiting c.new.ensures c.requires.none }

pub returns-in_err-status-clause-broken : goal.returns-in_err-status-clause-broken
returns-in_err-status-clause-broken g c =
    let lines = c.args.options.now.lines in
    let servers = c.args.options.now.servers.items in
    on_err_of c.from_residual.result
    (subst (λ (s : RecorderState g.row.D-Peer.Denot). HasBroken lines servers g.D.PortSet.modeled g.S.Storage.shows
    g.S.Storage.may_leave g.S.Storage.moment g.S.Storage.left_since
    (datagram_of_first lines c.args.parts.first) s c.args.journal.now c.receive.new.journal)
    (started_as _ _ c.new-feed.ensures.started) c.in_err-status.ensures.broken)

pub returns-in_err-status-clause-saved : goal.returns-in_err-status-clause-saved
returns-in_err-status-clause-saved g c = on_err_of c.from_residual.result c.in_err-status.ensures.saved

pub returns-clause-ended : goal.returns-clause-ended
returns-clause-ended g c =
    let lines = c.args.options.now.lines in
    let servers = c.args.options.now.servers.items in
    rw (c.into_received.ensures.repairer, c.into_received.ensures.ports)
    (subst (λ (s : RecorderState g.row.D-Peer.Denot). HasEnded lines servers g.D.PortSet.modeled g.S.Storage.shows
    g.S.Storage.may_leave g.S.Storage.moment g.S.Storage.left_since
    (datagram_of_first lines c.args.parts.first) s (state_of g.D.PortSet.state c.receive.new.self.feed)
    c.args.journal.now c.receive.new.journal)
    (started_as _ _ c.new-feed.ensures.started) c.in_ok-status.ensures.ended)

pub returns-clause-numbered : goal.returns-clause-numbered
returns-clause-numbered g c =
    ended_number g.S.Storage.shows g.S.Storage.may_leave g.S.Storage.moment g.S.Storage.left_since
    c.args.options.now.lines c.args.options.now.servers.items g.D.PortSet.modeled
    (record { order = c.order_law.ensures.order; messages = c.order_law.ensures.messages })
    (datagram_of_first c.args.options.now.lines c.args.parts.first) _ _ c.args.journal.now c.receive.new.journal
    (returns-clause-ended g c) c.requires.begins c.requires.none

pub returns-clause-closed : goal.returns-clause-closed
returns-clause-closed g c =
    closed_if (is_finished c.into_received.result.repairer) c.args.journal.now.closed c.receive.new.journal.closed
    c.requires.open (returns-clause-ended g c).ended.closed

pub returns-clause-said : goal.returns-clause-said
returns-clause-said g c =
    rw (c.into_received.ensures.repairer, c.into_received.ensures.ports)
    (c.in_ok-status.ensures.said c.new-feed.ensures.format)

pub returns-clause-status : goal.returns-clause-status
returns-clause-status g c =
    rw (c.into_received.ensures.status, c.into_received.ensures.repairer) c.in_ok-status.ensures.status
