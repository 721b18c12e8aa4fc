use Rattle.std.proofs.Common.{ap, append-nil, sym, refl, ◌∙◌}
use Rattle.std.specs.Prelude.{None, false}
use Rattle.mold_receive.proofs.CallLemmas.{failed_one, gave_fault, gave_none, gave_some, if_some_map, on_err_of}
use Rattle.mold_receive.proofs.CallLemmas.{received_none, received_one, stopped_one, written_none, written_one}
use Rattle.mold_receive.proofs.feed_receiver.FeedReceiver.receive_one.Goals as goal

pub returns-in_ok-take-in-Ok-Some-clause-written : goal.returns-in_ok-take-in-Ok-Some-clause-written
returns-in_ok-take-in-Ok-Some-clause-written g c =
    let made = c.in_ok-take-in-Ok-Some.ensures.called in
    written_one _ _ _ _ _ _ _ _ _ _ _
    (received_one _ _ _ _ _ None false _ _ made.called
    (λ is.
    ap (λ p. (g.D.PortSet.state p).given) c.take.ensures.ports
    ∙ gave_some _ _ c.args.port _ c.receive.result c.in-Ok-Some.field-0 c.in-Ok-Some.count c.receive.new.buffer
    (c.receive.ensures.given is) c.in-Ok-Some.is c.in-Ok-Some.field-0-is c.origin_of-origin.ensures)
    (λ is.
    ap (λ p. (g.D.PortSet.state p).sent) c.take.ensures.ports
    ∙ c.receive.ensures.sent is ∙ sym (append-nil _))
    made.full)
    made.moved

pub returns-in_err-take-in-Ok-Some-clause-failed : goal.returns-in_err-take-in-Ok-Some-clause-failed
returns-in_err-take-in-Ok-Some-clause-failed g c =
    let made = c.in_err-take-in-Ok-Some.ensures.called in
    on_err_of c.from_residual.result
    (failed_one _ _ _ _ _ _
    (record {
      repairer = c.take.new.self.repairer;
      ports = g.D.PortSet.state c.take.new.self.ports;
      text = made.text;
    }) _ _ made.called
    (λ is.
    ap (λ p. (g.D.PortSet.state p).given) c.take.ensures.ports
    ∙ gave_some _ _ c.args.port _ c.receive.result c.in-Ok-Some.field-0 c.in-Ok-Some.count c.receive.new.buffer
    (c.receive.ensures.given is) c.in-Ok-Some.is c.in-Ok-Some.field-0-is c.origin_of-origin.ensures)
    (λ is. ap (λ p. (g.D.PortSet.state p).sent) c.take.ensures.ports ∙ c.receive.ensures.sent is)
    made.front)

pub returns-in_err-take-in-Ok-Some-clause-cut : goal.returns-in_err-take-in-Ok-Some-clause-cut
returns-in_err-take-in-Ok-Some-clause-cut g c =
    let made = c.in_err-take-in-Ok-Some.ensures.called in
    on_err_of c.from_residual.result
    (if_some_map c.take.new.stopped
    (λ number is.
    stopped_one _ _ _ _ _ _
    (record {
      repairer = c.take.new.self.repairer;
      ports = g.D.PortSet.state c.take.new.self.ports;
      text = made.text;
    }) _ _ number made.called
    (λ is.
    ap (λ p. (g.D.PortSet.state p).given) c.take.ensures.ports
    ∙ gave_some _ _ c.args.port _ c.receive.result c.in-Ok-Some.field-0 c.in-Ok-Some.count c.receive.new.buffer
    (c.receive.ensures.given is) c.in-Ok-Some.is c.in-Ok-Some.field-0-is c.origin_of-origin.ensures)
    (λ is. ap (λ p. (g.D.PortSet.state p).sent) c.take.ensures.ports ∙ c.receive.ensures.sent is)
    is)
    made.cut)

pub returns-in-Ok-None-clause-written : goal.returns-in-Ok-None-clause-written
returns-in-Ok-None-clause-written g c =
    written_none _ _ _ _ _ _ _
    (received_none _ _ _ _ _ _ refl
    (λ is. gave_none _ _ c.args.port c.receive.result c.in-Ok-None.field-0 c.receive.new.buffer (c.receive.ensures.given is)
    c.in-Ok-None.is c.in-Ok-None.field-0-is)
    c.receive.ensures.sent refl)

pub returns-in-Err-clause-written : goal.returns-in-Err-clause-written
returns-in-Err-clause-written g c =
    written_none _ _ _ _ _ _ _
    (received_none _ _ _ _ _ _ refl
    (λ is. gave_fault _ _ c.args.port c.receive.result c.in-Err.field-0 c.receive.new.buffer (c.receive.ensures.given is)
    c.in-Err.is)
    c.receive.ensures.sent refl)
