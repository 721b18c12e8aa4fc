use Rattle.std.proofs.Common.{subst, ◌∙◌}
use Rattle.mold_input.specs.declared.message_format.MessageFormat.{MessageFormat}
use Rattle.mold_receive.specs.Receiving.{HasBroken, HasEnded, HasStopped, ReceiverState, datagram_of_first}
use Rattle.mold_receive.specs.Receiving.{state_of}
use Rattle.mold_receive.proofs.CallLemmas.{if_none_of, if_none_some, if_ok_map, if_some_all, if_some_map, on_err_of}
use Rattle.mold_receive.proofs.receiving.receive_loop.Goals as goal

pub returns-in-Ok-clause-ended : goal.returns-in-Ok-clause-ended
returns-in-Ok-clause-ended g c =
    let lines = c.args.options.now.lines in
    let servers = c.args.options.now.servers.items in
    let given = datagram_of_first lines c.args.parts.first in
    let same = c.new-receiver.ensures.format ∙ c.format.ensures in
    rw (c.into_received.ensures.repairer, c.into_received.ensures.ports, c.into_received.ensures.status)
    (if_none_of c.into_received.result.stopped _
    (subst (λ (s : ReceiverState g.row.D-Peer.Denot). HasEnded lines servers c.args.options.now.format
    g.D.PortSet.modeled given s c.run.new.self.repairer (g.D.PortSet.state c.run.new.self.ports)
    (g.K.Sink.held c.args.sink.now) (g.K.Sink.held c.run.new.sink) c.in-Ok.status)
    c.new-receiver.ensures.started
    (subst (λ (f : MessageFormat). HasEnded lines servers f g.D.PortSet.modeled given
    (state_of g.D.PortSet.state c.new-receiver.result) c.run.new.self.repairer
    (g.D.PortSet.state c.run.new.self.ports) (g.K.Sink.held c.args.sink.now) (g.K.Sink.held c.run.new.sink)
    c.in-Ok.status) same c.in-Ok.ensures.ended)))

pub returns-clause-ended : goal.returns-clause-ended
returns-clause-ended g c =
    if_ok_map _ _ c.stop.result (λ received is. if_none_some received.stopped _ is.1) c.stop.ensures

pub returns-clause-status : goal.returns-clause-status
returns-clause-status g c =
    if_ok_map _ _ c.stop.result (λ received is. if_some_all _ received.stopped (λ number. is.2)) c.stop.ensures

pub returns-clause-stopped : goal.returns-clause-stopped
returns-clause-stopped g c =
    let lines = c.args.options.now.lines in
    let servers = c.args.options.now.servers.items in
    let given = datagram_of_first lines c.args.parts.first in
    let same = c.new-receiver.ensures.format ∙ c.format.ensures in
    let repairer = c.run.new.self.repairer in
    let ports = g.D.PortSet.state c.run.new.self.ports in
    let old = g.K.Sink.held c.args.sink.now in
    let new = g.K.Sink.held c.run.new.sink in
    if_ok_map _ _ c.stop.result
    (λ received is.
    rw (is.0, is.3, is.4)
    (if_some_map c.run.new.stopped
    (λ number cut.
    subst (λ (s : ReceiverState g.row.D-Peer.Denot). HasStopped lines servers c.args.options.now.format
    g.D.PortSet.modeled given s repairer ports old new number)
    c.new-receiver.ensures.started
    (subst (λ (f : MessageFormat). HasStopped lines servers f g.D.PortSet.modeled given
    (state_of g.D.PortSet.state c.new-receiver.result) repairer ports old new number) same cut))
    c.in-Err.ensures.cut))
    c.stop.ensures

pub returns-clause-failed : goal.returns-clause-failed
returns-clause-failed g c =
    let lines = c.args.options.now.lines in
    let servers = c.args.options.now.servers.items in
    let given = datagram_of_first lines c.args.parts.first in
    let same = c.new-receiver.ensures.format ∙ c.format.ensures in
    on_err_of c.stop.result
    (subst (λ (s : ReceiverState g.row.D-Peer.Denot). HasBroken lines servers c.args.options.now.format
    g.D.PortSet.modeled given s (g.K.Sink.held c.args.sink.now) (g.K.Sink.held c.run.new.sink))
    c.new-receiver.ensures.started
    (subst (λ (f : MessageFormat). HasBroken lines servers f g.D.PortSet.modeled given
    (state_of g.D.PortSet.state c.new-receiver.result) (g.K.Sink.held c.args.sink.now) (g.K.Sink.held c.run.new.sink))
    same c.in-Err.ensures.failed))
