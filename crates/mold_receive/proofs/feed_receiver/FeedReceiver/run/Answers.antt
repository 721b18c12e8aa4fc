use Rattle.std.proofs.Common.{◌++◌, subst, sym, ◌∙◌}
use Rattle.std.specs.Prelude.{IfOk}
use Rattle.std.specs.Io.KnownBytes.{Appends}
use Rattle.std.proofs.lemmas.Result.{on_ok_weaker}
use Rattle.mold_devices.specs.Devices.{AppendsPrefix}
use Rattle.mold_input.specs.declared.message_format.MessageFormat.{MessageFormat}
use Rattle.mold_port_set.specs.PortSet.{PortSetState}
use Rattle.mold_receive.specs.Receiving.{HasEnded, datagram_of_first, state_of}
use Rattle.mold_receive.proofs.CallLemmas.{begun_then, broken_begun, broken_end, broken_turn, closing, ended_at}
use Rattle.mold_receive.proofs.CallLemmas.{if_some_map, not_stopped, on_err_map, on_err_of, stopped_turn}
use Rattle.mold_repair.specs.declared.repairer.Repairer.{Repairer}
use Rattle.mold_receive.proofs.feed_receiver.FeedReceiver.run.Goals as goal

pub returns-in_err-take_first-clause-failed : goal.returns-in_err-take_first-clause-failed
returns-in_err-take_first-clause-failed g c =
    on_err_of c.from_residual.result
    (c.in_err-take_first.ensures.failed c.args.options.now.lines c.args.options.now.servers.items)

pub returns-in_err-take_first-clause-cut : goal.returns-in_err-take_first-clause-cut
returns-in_err-take_first-clause-cut g c =
    on_err_of c.from_residual.result
    (if_some_map c.take_first.new.stopped
    (λ number is. is c.args.options.now.lines c.args.options.now.servers.items) c.in_err-take_first.ensures.cut)

pub returns-in_err-buffer-clause-failed : goal.returns-in_err-buffer-clause-failed
returns-in_err-buffer-clause-failed g c =
    on_err_of c.from_residual-in_err-buffer.result
    (broken_begun _ _ _ _ _ _ _ _ _
    (c.in_ok-take_first.ensures.begun c.args.options.now.lines c.args.options.now.servers.items))

pub returns-in_err-buffer-clause-cut : goal.returns-in_err-buffer-clause-cut
returns-in_err-buffer-clause-cut g c =
    on_err_of c.from_residual-in_err-buffer.result
    (not_stopped _ c.take_first.new.stopped c.in_ok-take_first.ensures.going)

pub returns-in_err-take_turns-clause-failed : goal.returns-in_err-take_turns-clause-failed
returns-in_err-take_turns-clause-failed g c =
    on_err_of c.from_residual-in_err-take_turns.result
    (broken_turn _ _ _ _ _ _ _ _ _ _ _
    (c.in_ok-take_first.ensures.begun c.args.options.now.lines c.args.options.now.servers.items)
    c.take_first.ensures.format c.in_err-take_turns.ensures.failed)

pub returns-in_err-take_turns-clause-cut : goal.returns-in_err-take_turns-clause-cut
returns-in_err-take_turns-clause-cut g c =
    on_err_of c.from_residual-in_err-take_turns.result
    (if_some_map c.take_turns.new.stopped
    (λ number is.
    stopped_turn _ _ _ _ _ _ _ _ _ _ _ _ _ number
    (c.in_ok-take_first.ensures.begun c.args.options.now.lines c.args.options.now.servers.items)
    c.take_first.ensures.format is)
    c.in_err-take_turns.ensures.cut)

pub returns-clause-failed : goal.returns-clause-failed
returns-clause-failed g c =
    let mid = c.take_turns.new.self in
    let state = state_of g.D.PortSet.state mid in
    on_err_map c.end.result
    (λ front.
    broken_end _ _ _ _ _ _ state _ _ _
    (begun_then _ _ _ _ _ _ _ _ state _ _ _
    (c.in_ok-take_first.ensures.begun c.args.options.now.lines c.args.options.now.servers.items)
    c.take_first.ensures.format c.in_ok-take_turns.ensures.written)
    (subst (λ (f : MessageFormat). AppendsPrefix (g.K.Sink.held c.take_turns.new.sink) (g.K.Sink.held c.end.new.sink)
    (mid.outgoing.text ++ closing f state))
    (c.take_turns.ensures.format ∙ c.take_first.ensures.format) front))
    c.end.ensures.front

pub returns-clause-cut : goal.returns-clause-cut
returns-clause-cut g c =
    on_err_of c.end.result (not_stopped _ c.take_turns.new.stopped c.in_ok-take_turns.ensures.going)

pub returns-clause-ended : goal.returns-clause-ended
returns-clause-ended g c =
    let old = c.args.self.now in
    let mid = c.take_turns.new.self in
    let state = state_of g.D.PortSet.state mid in
    let lines = c.args.options.now.lines in
    let servers = c.args.options.now.servers.items in
    let given = datagram_of_first lines c.args.first.now in
    subst (λ (r : Repairer). IfOk c.end.result (HasEnded lines servers old.outgoing.format g.D.PortSet.modeled given
    (state_of g.D.PortSet.state old) r (g.D.PortSet.state c.end.new.self.ports) (g.K.Sink.held c.args.sink.now)
    (g.K.Sink.held c.end.new.sink))) (sym c.end.ensures.repairer)
    (subst (λ (p : PortSetState g.row.D-Peer.Denot). IfOk c.end.result (HasEnded lines servers old.outgoing.format
    g.D.PortSet.modeled given (state_of g.D.PortSet.state old) mid.repairer p (g.K.Sink.held c.args.sink.now)
    (g.K.Sink.held c.end.new.sink))) (sym c.end.ensures.ports)
    (ended_at lines servers old.outgoing.format g.D.PortSet.modeled given (state_of g.D.PortSet.state old) state
    (g.K.Sink.held c.args.sink.now) (g.K.Sink.held c.take_turns.new.sink) (g.K.Sink.held c.end.new.sink) c.end.result
    (begun_then lines servers old.outgoing.format c.take_first.new.self.outgoing.format g.D.PortSet.modeled given
    (state_of g.D.PortSet.state old) (state_of g.D.PortSet.state c.take_first.new.self) state _ _ _
    (c.in_ok-take_first.ensures.begun lines servers) c.take_first.ensures.format c.in_ok-take_turns.ensures.written)
    (on_ok_weaker c.end.result
    (λ appends.
    subst (λ (f : MessageFormat). Appends (g.K.Sink.held c.take_turns.new.sink) (g.K.Sink.held c.end.new.sink)
    (mid.outgoing.text ++ closing f state))
    (c.take_turns.ensures.format ∙ c.take_first.ensures.format) appends)
    c.end.ensures.written)
    c.end.ensures.status))
