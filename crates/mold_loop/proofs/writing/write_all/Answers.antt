use Rattle.std.proofs.Common.{◌∙◌, ap, refl, subst}
use Rattle.std.specs.Io.KnownBytes.{Appends}
use Rattle.mold_devices.specs.Devices.{AppendsPrefix}
use Rattle.mold_loop.proofs.WritingLemmas.{write_fault}
use Rattle.mold_turns.proofs.FaultLemmas.{counts_write, two_said, two_write}
use Rattle.mold_turns.proofs.PrintingLemmas.{front_all, front_none}
use Rattle.mold_turns.specs.Outgoing.{OutgoingState}
use Rattle.mold_listen.proofs.TurnLemmas.{not_ok}
use Rattle.mold_loop.proofs.writing.write_all.Goals as goal

pub returns-in_err-send_side-clause-front : goal.returns-in_err-send_side-clause-front
returns-in_err-send_side-clause-front g c = front_none (g.K.Sink.held c.args.sink.now) _

pub returns-in_err-send_side-clause-fault : goal.returns-in_err-send_side-clause-fault
returns-in_err-send_side-clause-fault g c =
    write_fault c.from_residual.result c.in_err-send_side.field-0.0 c.from_residual.ensures.1
    c.in_err-send_side.ensures.fault

pub returns-in_err-send_side-clause-sinks : goal.returns-in_err-send_side-clause-sinks
returns-in_err-send_side-clause-sinks g c =
    two_said c.from_residual.result c.in_err-send_side.field-0.0 _ _ _ _ _ c.from_residual.ensures.1
    c.in_err-send_side.ensures.fault c.in_err-send_side.ensures.sink refl refl

pub returns-in_err-send_side-clause-quiet : goal.returns-in_err-send_side-clause-quiet
returns-in_err-send_side-clause-quiet g c = λ none. absurd (not_ok (c.in_err-send_side.ensures.none none).0)

pub returns-in_err-send-clause-front : goal.returns-in_err-send-clause-front
returns-in_err-send-clause-front g c =
    subst
    (λ (o : OutgoingState). AppendsPrefix (g.K.Sink.held c.args.sink.now) (g.K.Sink.held c.send.new.sink) o.text)
    c.in_ok-send_side.ensures.empty c.send.ensures.front

pub returns-in_err-send-clause-said_front : goal.returns-in_err-send-clause-said_front
returns-in_err-send-clause-said_front g c = front_all _ _ _ c.in_ok-send_side.ensures.whole

pub returns-in_err-send-clause-fault : goal.returns-in_err-send-clause-fault
returns-in_err-send-clause-fault g c =
    write_fault c.from_residual-in_err-send.result c.in_err-send.field-0.0 c.from_residual-in_err-send.ensures.1
    c.in_err-send.ensures.fault

pub returns-in_err-send-clause-sinks : goal.returns-in_err-send-clause-sinks
returns-in_err-send-clause-sinks g c =
    two_write c.from_residual-in_err-send.result c.in_err-send.field-0.0 _ _ _ _ _
    c.from_residual-in_err-send.ensures.1 c.in_err-send.ensures.fault c.in_err-send.ensures.sink refl
    c.in_ok-send_side.ensures.sink

pub returns-in_err-send-clause-quiet : goal.returns-in_err-send-clause-quiet
returns-in_err-send-clause-quiet g c = λ none. (
  (c.in_ok-send_side.ensures.none none).1,
  counts_write c.from_residual-in_err-send.result c.in_err-send.field-0.0 _ (g.K.Sink.failed c.args.sink.now) _
      c.from_residual-in_err-send.ensures.1 c.in_err-send.ensures.fault c.in_err-send.ensures.sink refl,
)

pub returns-clause-whole : goal.returns-clause-whole
returns-clause-whole g c =
    subst (λ (o : OutgoingState). Appends (g.K.Sink.held c.args.sink.now) (g.K.Sink.held c.send.new.sink) o.text)
    c.in_ok-send_side.ensures.empty c.in_ok-send.ensures.whole

pub returns-clause-front : goal.returns-clause-front
returns-clause-front g c =
    subst
    (λ (o : OutgoingState). AppendsPrefix (g.K.Sink.held c.args.sink.now) (g.K.Sink.held c.send.new.sink) o.text)
    c.in_ok-send_side.ensures.empty c.send.ensures.front

pub returns-clause-said_front : goal.returns-clause-said_front
returns-clause-said_front g c = front_all _ _ _ c.in_ok-send_side.ensures.whole

pub returns-clause-left : goal.returns-clause-left
returns-clause-left g c = record {
  text = c.in_ok-send.ensures.empty;
  side = c.in_ok-send.ensures.side ∙ ap (λ (o : OutgoingState). o.side) c.in_ok-send_side.ensures.empty;
  failures = c.in_ok-send.ensures.failures ∙ ap (λ (o : OutgoingState). o.failures) c.in_ok-send_side.ensures.empty;
}

pub returns-clause-sinks : goal.returns-clause-sinks
returns-clause-sinks g c = (c.in_ok-send.ensures.sink, c.in_ok-send_side.ensures.sink)

pub returns-clause-quiet : goal.returns-clause-quiet
returns-clause-quiet g c = λ none. ((c.in_ok-send_side.ensures.none none).1, c.in_ok-send.ensures.sink)
