use Rattle.std.proofs.Common.{List, ℕ, ap, refl, subst, ◌∙◌}
use Rattle.std.proofs.lemmas.Result.{on_ok_weaker}
use Rattle.mold_devices.specs.Devices.{AppendsPrefix}
use Rattle.mold_devices.proofs.WritingLemmas.{ends_front}
use Rattle.mold_port_set.specs.PortSet.{PortSetState}
use Rattle.mold_turns.proofs.PrintingLemmas.{former_text, front_none}
use Rattle.mold_turns.proofs.RunLemmas.{begins_whole}
use Rattle.mold_turns.specs.Outgoing.{OutgoingState}
use Rattle.mold_receive.specs.Receiving.{state_of}
use Rattle.mold_receive.proofs.CallLemmas.{failed_more, failed_write, if_some_map, not_stopped, on_err_of}
use Rattle.mold_receive.proofs.CallLemmas.{received_none, stopped_more, written_more, written_none}
use Rattle.mold_receive.proofs.feed_receiver.FeedReceiver.turn.Goals as goal

pub returns-in_err-pause-clause-failed : goal.returns-in_err-pause-clause-failed
returns-in_err-pause-clause-failed g c =
    on_err_of c.from_residual.result
    (c.in_err-pause.ensures.failed c.args.options.now.lines c.args.options.now.servers.items)

pub returns-in_err-receive_all-clause-failed : goal.returns-in_err-receive_all-clause-failed
returns-in_err-receive_all-clause-failed g c =
    on_err_of c.from_residual-in_err-receive_all.result
    (failed_more _ _ _ _ _ _ _ _ _ _
    (c.in_ok-pause.ensures.written c.args.options.now.lines c.args.options.now.servers.items) c.pause.ensures.format
    c.in_err-receive_all.ensures.failed)

pub returns-in_err-lose_all-clause-failed : goal.returns-in_err-lose_all-clause-failed
returns-in_err-lose_all-clause-failed g c =
    let lines = c.args.options.now.lines in
    let servers = c.args.options.now.servers.items in
    on_err_of c.from_residual-in_err-lose_all.result
    (failed_more _ _ _ _ _ _ _ _ _ _
    (written_more _ _ _ _ _ _ _ _ _ _ _ (c.in_ok-pause.ensures.written lines servers) c.pause.ensures.format
    c.in_ok-receive_all.ensures.written)
    (c.receive_all.ensures.format ∙ c.pause.ensures.format) (c.in_err-lose_all.ensures.failed lines servers))

pub returns-in_default-clause-failed : goal.returns-in_default-clause-failed
returns-in_default-clause-failed g c =
    let lines = c.args.options.now.lines in
    let servers = c.args.options.now.servers.items in
    failed_more _ _ _ _ _ _ _ _ _ _
    (written_more _ _ _ _ _ _ _ _ _ _ _ (written_more _ _ _ _ _ _ _ _ _ _ _
    (written_more _ _ _ _ _ _ _ _ _ _ _ (c.in_ok-pause.ensures.written lines servers) c.pause.ensures.format
    c.in_ok-receive_all.ensures.written)
    (c.receive_all.ensures.format ∙ c.pause.ensures.format) (c.in_ok-lose_all.ensures.written lines servers))
    (c.lose_all.ensures.format ∙ (c.receive_all.ensures.format ∙ c.pause.ensures.format))
    (written_none _ _ _ _ _ _ _ c.request_all.ensures.asked.received))
    (c.request_all.ensures.format
    ∙ (c.lose_all.ensures.format ∙ (c.receive_all.ensures.format ∙ c.pause.ensures.format)))
    (failed_write _ _ _ _ _ (state_of g.D.PortSet.state c.report.new.self) _ _ c.report.new.self.outgoing.text
    (received_none _ _ _ _ _ _ c.report.ensures.repairer
    (λ is. ap (λ (p : PortSetState g.row.D-Peer.Denot). p.given) c.report.ensures.ports)
    (λ is. ap (λ (p : PortSetState g.row.D-Peer.Denot). p.sent) c.report.ensures.ports) c.report.ensures.text)
    refl
    (subst (λ (t : List ℕ). AppendsPrefix (g.K.Sink.held c.lose_all.new.sink) (g.K.Sink.held c.end_with.new.sink) t)
    (former_text c.report.new.self.outgoing.text _ _ (begins_whole _) c.unwritten-len.ensures)
    (ends_front c.end_with.ensures.ends)))

pub returns-clause-written : goal.returns-clause-written
returns-clause-written g c =
    let lines = c.args.options.now.lines in
    let servers = c.args.options.now.servers.items in
    on_ok_weaker c.send_side.result
    (λ empty.
    written_more _ _ _ _ _ _ _ _ _ _ _
    (written_more _ _ _ _ _ _ _ _ _ _ _ (written_more _ _ _ _ _ _ _ _ _ _ _
    (written_more _ _ _ _ _ _ _ _ _ _ _ (c.in_ok-pause.ensures.written lines servers) c.pause.ensures.format
    c.in_ok-receive_all.ensures.written)
    (c.receive_all.ensures.format ∙ c.pause.ensures.format) (c.in_ok-lose_all.ensures.written lines servers))
    (c.lose_all.ensures.format ∙ (c.receive_all.ensures.format ∙ c.pause.ensures.format))
    (written_none _ _ _ _ _ _ _ c.request_all.ensures.asked.received))
    (c.request_all.ensures.format
    ∙ (c.lose_all.ensures.format ∙ (c.receive_all.ensures.format ∙ c.pause.ensures.format)))
    (written_none _ _ _ _ _ _ _
    (received_none _ _ _ _ _ _ c.report.ensures.repairer
    (λ is. ap (λ (p : PortSetState g.row.D-Peer.Denot). p.given) c.report.ensures.ports)
    (λ is. ap (λ (p : PortSetState g.row.D-Peer.Denot). p.sent) c.report.ensures.ports) (ap (λ (o : OutgoingState). o.text) empty ∙ c.report.ensures.text))))
    c.send_side.ensures.empty

pub returns-clause-failed : goal.returns-clause-failed
returns-clause-failed g c =
    let lines = c.args.options.now.lines in
    let servers = c.args.options.now.servers.items in
    on_err_of c.send_side.result
    (failed_more _ _ _ _ _ _ _ _ _ _
    (written_more _ _ _ _ _ _ _ _ _ _ _ (written_more _ _ _ _ _ _ _ _ _ _ _
    (written_more _ _ _ _ _ _ _ _ _ _ _ (c.in_ok-pause.ensures.written lines servers) c.pause.ensures.format
    c.in_ok-receive_all.ensures.written)
    (c.receive_all.ensures.format ∙ c.pause.ensures.format) (c.in_ok-lose_all.ensures.written lines servers))
    (c.lose_all.ensures.format ∙ (c.receive_all.ensures.format ∙ c.pause.ensures.format))
    (written_none _ _ _ _ _ _ _ c.request_all.ensures.asked.received))
    (c.request_all.ensures.format
    ∙ (c.lose_all.ensures.format ∙ (c.receive_all.ensures.format ∙ c.pause.ensures.format)))
    (failed_write _ _ _ _ _ (state_of g.D.PortSet.state c.report.new.self) _ _ _
    (received_none _ _ _ _ _ _ c.report.ensures.repairer
    (λ is. ap (λ (p : PortSetState g.row.D-Peer.Denot). p.given) c.report.ensures.ports)
    (λ is. ap (λ (p : PortSetState g.row.D-Peer.Denot). p.sent) c.report.ensures.ports) c.report.ensures.text)
    refl (front_none _ _)))

pub returns-in_err-pause-clause-cut : goal.returns-in_err-pause-clause-cut
returns-in_err-pause-clause-cut g c =
    on_err_of c.from_residual.result (not_stopped _ c.args.stopped.now c.requires.going)

pub returns-in_err-receive_all-clause-cut : goal.returns-in_err-receive_all-clause-cut
returns-in_err-receive_all-clause-cut g c =
    let lines = c.args.options.now.lines in
    let servers = c.args.options.now.servers.items in
    on_err_of c.from_residual-in_err-receive_all.result
    (if_some_map c.receive_all.new.stopped
    (λ number is.
    stopped_more _ _ _ _ _ _ _ _ _ _ _ _ number (c.in_ok-pause.ensures.written lines servers) c.pause.ensures.format is)
    c.in_err-receive_all.ensures.cut)

pub returns-in_err-lose_all-clause-cut : goal.returns-in_err-lose_all-clause-cut
returns-in_err-lose_all-clause-cut g c =
    let lines = c.args.options.now.lines in
    let servers = c.args.options.now.servers.items in
    on_err_of c.from_residual-in_err-lose_all.result
    (if_some_map c.lose_all.new.stopped
    (λ number is.
    stopped_more _ _ _ _ _ _ _ _ _ _ _ _ number
    (written_more _ _ _ _ _ _ _ _ _ _ _ (c.in_ok-pause.ensures.written lines servers) c.pause.ensures.format
    c.in_ok-receive_all.ensures.written)
    (c.receive_all.ensures.format ∙ c.pause.ensures.format) (is lines servers))
    c.in_err-lose_all.ensures.cut)

pub returns-in_default-clause-cut : goal.returns-in_default-clause-cut
returns-in_default-clause-cut g c = not_stopped _ c.lose_all.new.stopped c.in_ok-lose_all.ensures.going

pub returns-clause-cut : goal.returns-clause-cut
returns-clause-cut g c =
    on_err_of c.send_side.result (not_stopped _ c.lose_all.new.stopped c.in_ok-lose_all.ensures.going)
