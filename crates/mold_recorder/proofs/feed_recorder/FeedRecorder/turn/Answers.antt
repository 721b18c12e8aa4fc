use Rattle.std.proofs.Common.{◌≡◌, ◌∙◌, ap}
use Rattle.std.specs.Prelude.{Result, Ok, Err, OnErr, OnOk}
use Rattle.std.proofs.lemmas.Result.{on_ok_weaker}
use Rattle.mold_port_set.specs.PortSet.{PortSetState}
use Rattle.mold_receive.proofs.CallLemmas.{on_err_of, on_ok_all}
use Rattle.mold_recorder.proofs.RecordingLemmas.{delivered_asked, delivered_none, recorded_still, recorded_then}
use Rattle.mold_recorder.proofs.RecordingLemmas.{said_one}
use Rattle.mold_recorder.proofs.RecordingLemmas.{stopped_of, stopped_then}
use Rattle.mold_turns.specs.Outgoing.{OutgoingState, said_out}
use Rattle.mold_recorder.proofs.feed_recorder.FeedRecorder.turn.Goals as goal

-- A write to standard error keeps the format.
side_format : {T E : Type 0} (result : Result T E) (old new : OutgoingState) → OnOk result (new ≡ said_out old) →
    OnErr result (new ≡ old) → new.format ≡ old.format
side_format (Ok x) old new out same = ap (λ (o : OutgoingState). o.format) out
side_format (Err e) old new out same = ap (λ (o : OutgoingState). o.format) same

pub returns-in_err-receive_all-clause-format : goal.returns-in_err-receive_all-clause-format
returns-in_err-receive_all-clause-format g c = c.receive_all.ensures.format ∙ c.pause.ensures.format

pub returns-in_err-report-clause-format : goal.returns-in_err-report-clause-format
returns-in_err-report-clause-format g c =
    c.report.ensures.format ∙ c.request_all.ensures.format ∙ c.receive_all.ensures.format ∙ c.pause.ensures.format

pub returns-clause-format : goal.returns-clause-format
returns-clause-format g c =
    side_format c.send_side.result _ _ c.send_side.ensures.empty c.send_side.ensures.same
    ∙ c.report.ensures.format ∙ c.request_all.ensures.format ∙ c.receive_all.ensures.format ∙ c.pause.ensures.format

pub returns-in_err-pause-clause-stopped : goal.returns-in_err-pause-clause-stopped
returns-in_err-pause-clause-stopped g c =
    on_err_of c.from_residual.result
    (c.in_err-pause.ensures.stopped c.args.options.now.lines c.args.options.now.servers.items)

pub returns-in_err-receive_all-clause-stopped : goal.returns-in_err-receive_all-clause-stopped
returns-in_err-receive_all-clause-stopped g c =
    on_err_of c.from_residual-in_err-receive_all.result
    (stopped_then g.S.Storage.shows g.S.Storage.may_leave g.S.Storage.moment g.S.Storage.left_since
    g.met.S.Storage.only_now _ _ _ _ _ _ _ _ _ _
    (c.in_ok-pause.ensures.recorded c.args.options.now.lines c.args.options.now.servers.items)
    c.in_err-receive_all.ensures.stopped)

pub returns-in_err-report-clause-stopped : goal.returns-in_err-report-clause-stopped
returns-in_err-report-clause-stopped g c =
    on_err_of c.from_residual-in_err-report.result
    (stopped_of g.S.Storage.shows g.S.Storage.may_leave g.S.Storage.moment g.S.Storage.left_since
    g.met.S.Storage.only_now _ _ _ _ _ _ _ _
    (recorded_then g.S.Storage.shows g.S.Storage.may_leave g.S.Storage.moment g.S.Storage.left_since
    g.met.S.Storage.only_now _ _ _ _ _ _ _ _ _ _
    (recorded_then g.S.Storage.shows g.S.Storage.may_leave g.S.Storage.moment g.S.Storage.left_since
    g.met.S.Storage.only_now _ _ _ _ _ _ _ _ _ _
    (recorded_then g.S.Storage.shows g.S.Storage.may_leave g.S.Storage.moment g.S.Storage.left_since
    g.met.S.Storage.only_now _ _ _ _ _ _ _ _ _ _
    (c.in_ok-pause.ensures.recorded c.args.options.now.lines c.args.options.now.servers.items)
    c.in_ok-receive_all.ensures.recorded)
    (recorded_still g.S.Storage.shows g.S.Storage.may_leave g.S.Storage.moment g.S.Storage.left_since
    g.met.S.Storage.only_now _ _ _ _ _ _ c.receive_all.new.journal
    (delivered_asked _ _ _ _ _ _ c.request_all.ensures.asked)))
    (recorded_still g.S.Storage.shows g.S.Storage.may_leave g.S.Storage.moment g.S.Storage.left_since
    g.met.S.Storage.only_now _ _ _ _ _ _ c.receive_all.new.journal
    (delivered_none _ _ _ _ _ c.report.ensures.repairer
    (λ is. ap (λ (p : PortSetState g.row.D-Peer.Denot). p.given) c.report.ensures.ports)
    (λ is. ap (λ (p : PortSetState g.row.D-Peer.Denot). p.sent) c.report.ensures.ports)))))

pub returns-clause-recorded : goal.returns-clause-recorded
returns-clause-recorded g c =
    on_ok_all c.send_side.result
    (recorded_then g.S.Storage.shows g.S.Storage.may_leave g.S.Storage.moment g.S.Storage.left_since
    g.met.S.Storage.only_now _ _ _ _ _ _ _ _ _ _
    (recorded_then g.S.Storage.shows g.S.Storage.may_leave g.S.Storage.moment g.S.Storage.left_since
    g.met.S.Storage.only_now _ _ _ _ _ _ _ _ _ _
    (recorded_then g.S.Storage.shows g.S.Storage.may_leave g.S.Storage.moment g.S.Storage.left_since
    g.met.S.Storage.only_now _ _ _ _ _ _ _ _ _ _
    (c.in_ok-pause.ensures.recorded c.args.options.now.lines c.args.options.now.servers.items)
    c.in_ok-receive_all.ensures.recorded)
    (recorded_still g.S.Storage.shows g.S.Storage.may_leave g.S.Storage.moment g.S.Storage.left_since
    g.met.S.Storage.only_now _ _ _ _ _ _ c.receive_all.new.journal
    (delivered_asked _ _ _ _ _ _ c.request_all.ensures.asked)))
    (recorded_still g.S.Storage.shows g.S.Storage.may_leave g.S.Storage.moment g.S.Storage.left_since
    g.met.S.Storage.only_now _ _ _ _ _ _ c.receive_all.new.journal
    (delivered_none _ _ _ _ _ c.report.ensures.repairer
    (λ is. ap (λ (p : PortSetState g.row.D-Peer.Denot). p.given) c.report.ensures.ports)
    (λ is. ap (λ (p : PortSetState g.row.D-Peer.Denot). p.sent) c.report.ensures.ports))))

pub returns-clause-stopped : goal.returns-clause-stopped
returns-clause-stopped g c =
    on_err_of c.send_side.result
    (stopped_of g.S.Storage.shows g.S.Storage.may_leave g.S.Storage.moment g.S.Storage.left_since
    g.met.S.Storage.only_now _ _ _ _ _ _ _ _
    (recorded_then g.S.Storage.shows g.S.Storage.may_leave g.S.Storage.moment g.S.Storage.left_since
    g.met.S.Storage.only_now _ _ _ _ _ _ _ _ _ _
    (recorded_then g.S.Storage.shows g.S.Storage.may_leave g.S.Storage.moment g.S.Storage.left_since
    g.met.S.Storage.only_now _ _ _ _ _ _ _ _ _ _
    (recorded_then g.S.Storage.shows g.S.Storage.may_leave g.S.Storage.moment g.S.Storage.left_since
    g.met.S.Storage.only_now _ _ _ _ _ _ _ _ _ _
    (c.in_ok-pause.ensures.recorded c.args.options.now.lines c.args.options.now.servers.items)
    c.in_ok-receive_all.ensures.recorded)
    (recorded_still g.S.Storage.shows g.S.Storage.may_leave g.S.Storage.moment g.S.Storage.left_since
    g.met.S.Storage.only_now _ _ _ _ _ _ c.receive_all.new.journal
    (delivered_asked _ _ _ _ _ _ c.request_all.ensures.asked)))
    (recorded_still g.S.Storage.shows g.S.Storage.may_leave g.S.Storage.moment g.S.Storage.left_since
    g.met.S.Storage.only_now _ _ _ _ _ _ c.receive_all.new.journal
    (delivered_none _ _ _ _ _ c.report.ensures.repairer
    (λ is. ap (λ (p : PortSetState g.row.D-Peer.Denot). p.given) c.report.ensures.ports)
    (λ is. ap (λ (p : PortSetState g.row.D-Peer.Denot). p.sent) c.report.ensures.ports)))))

pub returns-clause-said : goal.returns-clause-said
returns-clause-said g c = on_ok_weaker c.send_side.result (said_one _ _ _) c.send_side.ensures.whole
