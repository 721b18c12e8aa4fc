use Rattle.std.proofs.Common.{List, ap, append-nil, inl, refl, subst, sym, ◌∙◌, ℕ}
use Rattle.std.specs.Prelude.{None, Ok, Err, false, take}
use Rattle.mold_devices.specs.Devices.{AppendsPrefix}
use Rattle.mold_devices.specs.declared.fault.CommandFault.{CommandFault}
use Rattle.mold_devices.proofs.WritingLemmas.{ends_front}
use Rattle.mold_repair.specs.Run.{delivers}
use Rattle.mold_repair.specs.declared.step.RepairStep.TheVariants.{Lost}
use Rattle.mold_receive.proofs.CallLemmas.{failed_one, failed_write, if_some_map, not_stopped, on_err_of, printed_batch}
use Rattle.mold_receive.proofs.CallLemmas.{received_one, received_yet, stopped_one, written_one}
use Rattle.mold_receive.proofs.feed_receiver.FeedReceiver.lose_one.Goals as goal

pub returns-in_default-clause-failed : goal.returns-in_default-clause-failed
returns-in_default-clause-failed g c = λ lines servers.
    failed_write lines servers _ _ _ _ _ _ c.args.self.now.outgoing.text (received_yet lines servers _ _ _) refl
    (subst (λ (t : List ℕ). AppendsPrefix (g.K.Sink.held c.args.sink.now) (g.K.Sink.held c.end_with.new.sink) t)
    (ap (λ (n : ℕ). take n c.lose.new.self.outgoing.text) c.unwritten-before.ensures ∙ c.in_default.ensures.kept)
    (ends_front c.end_with.ensures.ends))

pub returns-in_default-clause-cut : goal.returns-in_default-clause-cut
returns-in_default-clause-cut g c = not_stopped _ c.args.stopped.now c.requires.going

pub returns-in_err-print_batch-clause-failed : goal.returns-in_err-print_batch-clause-failed
returns-in_err-print_batch-clause-failed g c =
    let old = c.args.self.now in
    let new = c.lose.new.self in
    let made = printed_batch
    {T = Unit {0}} old.outgoing.format new.outgoing.format
    (Lost (g.D.PortSet.state old.ports).now) old.repairer new.repairer new.batch
    (delivers old.repairer new.repairer None c.in-Ok.lost) old.outgoing.text new.outgoing.text
    c.print_batch.new.outgoing.text (g.K.Sink.held c.args.sink.now) (g.K.Sink.held c.print_batch.new.sink)
    c.print_batch.new.stopped (Err c.in_err-print_batch.field-0.0) (inl c.in-Ok.ensures.lost) c.lose.ensures.options c.in-Ok.ensures.line
    c.lose.ensures.format tt tt c.in_err-print_batch.ensures.front
    c.in_err-print_batch.ensures.cut in
    on_err_of c.from_residual.result
    (λ lines servers.
    failed_one lines servers _ _ _ _
    (record { repairer = new.repairer; ports = g.D.PortSet.state new.ports; text = made.text }) _ _ made.called
    (λ is. ap (λ p. (g.D.PortSet.state p).given) c.lose.ensures.ports ∙ sym (append-nil _))
    (λ is. ap (λ p. (g.D.PortSet.state p).sent) c.lose.ensures.ports)
    made.front)

pub returns-in_err-print_batch-clause-cut : goal.returns-in_err-print_batch-clause-cut
returns-in_err-print_batch-clause-cut g c =
    let old = c.args.self.now in
    let new = c.lose.new.self in
    let made = printed_batch
    {T = Unit {0}} old.outgoing.format new.outgoing.format
    (Lost (g.D.PortSet.state old.ports).now) old.repairer new.repairer new.batch
    (delivers old.repairer new.repairer None c.in-Ok.lost) old.outgoing.text new.outgoing.text
    c.print_batch.new.outgoing.text (g.K.Sink.held c.args.sink.now) (g.K.Sink.held c.print_batch.new.sink)
    c.print_batch.new.stopped (Err c.in_err-print_batch.field-0.0) (inl c.in-Ok.ensures.lost) c.lose.ensures.options c.in-Ok.ensures.line
    c.lose.ensures.format tt tt c.in_err-print_batch.ensures.front
    c.in_err-print_batch.ensures.cut in
    on_err_of c.from_residual.result
    (if_some_map c.print_batch.new.stopped
    (λ number is. λ lines servers.
    stopped_one lines servers _ _ _ _
    (record { repairer = new.repairer; ports = g.D.PortSet.state new.ports; text = made.text }) _ _ number made.called
    (λ is. ap (λ p. (g.D.PortSet.state p).given) c.lose.ensures.ports ∙ sym (append-nil _))
    (λ is. ap (λ p. (g.D.PortSet.state p).sent) c.lose.ensures.ports)
    is)
    made.cut)

pub returns-clause-written : goal.returns-clause-written
returns-clause-written g c = λ lines servers.
    let old = c.args.self.now in
    let new = c.lose.new.self in
    let made = printed_batch
    {E = CommandFault} old.outgoing.format new.outgoing.format
    (Lost (g.D.PortSet.state old.ports).now) old.repairer new.repairer new.batch
    (delivers old.repairer new.repairer None c.in-Ok.lost) old.outgoing.text new.outgoing.text
    c.print_batch.new.outgoing.text (g.K.Sink.held c.args.sink.now) (g.K.Sink.held c.print_batch.new.sink)
    c.print_batch.new.stopped (Ok c.in_ok-print_batch.field-0) (inl c.in-Ok.ensures.lost) c.lose.ensures.options c.in-Ok.ensures.line
    c.lose.ensures.format c.in_ok-print_batch.ensures.moved c.in_ok-print_batch.ensures.full tt tt in
    written_one lines servers _ _ _ _ _ made.text _ _ _
    (received_one lines servers old.outgoing.format _ _ None false _ _ made.called
    (λ is. ap (λ p. (g.D.PortSet.state p).given) c.lose.ensures.ports ∙ sym (append-nil _))
    (λ is. ap (λ p. (g.D.PortSet.state p).sent) c.lose.ensures.ports ∙ sym (append-nil _))
    made.full)
    made.moved
