use Rattle.std.proofs.Common.{[], ◌∙◌, ap, take}
use Rattle.mold_ports.specs.Ports.{Datagram, Failure, Port, Quiet}
use Rattle.mold_serve.specs.Serving.{service_of, state}
use Rattle.mold_serve.proofs.ServingLemmas.{reached, tally_is, turn_met}
use Rattle.mold_serve.proofs.responder.Responder.take_turn.Goals as goal

pub returns-in-Ok-Some-clause-turn : goal.returns-in-Ok-Some-clause-turn
returns-in-Ok-Some-clause-turn g c journal may modeled =
    let replied = c.answer_request.ensures.replied journal may modeled in
    let came = rw c.in-Ok-Some.field-0-is at (c.in-Ok-Some.ensures.came modeled) in (
      replied.0,
      turn_met _ (service_of journal c.args.self.now.server.now) replied.0 (state g.D.Datagrams.port c.args.self.now) _
          (Datagram c.in-Ok-Some.from (take c.in-Ok-Some.len c.receive.new.buffer)) _ _
          (c.receive.auto.buffer ∙ c.requires) came (c.receive.ensures.left modeled) replied.1,
    )

pub returns-in-Ok-None-clause-turn : goal.returns-in-Ok-None-clause-turn
returns-in-Ok-None-clause-turn g c journal may modeled = (
  [],
  turn_met _ (service_of journal c.args.self.now.server.now) [] (state g.D.Datagrams.port c.args.self.now) _ Quiet _ _
      (c.receive.auto.buffer ∙ c.requires)
      (rw c.in-Ok-None.field-0-is at (c.in-Ok-None.ensures.came modeled))
      (c.receive.ensures.left modeled)
      (reached (tally_is _ _ c.add_quiet.ensures)),
)

pub returns-in-Err-clause-turn : goal.returns-in-Err-clause-turn
returns-in-Err-clause-turn g c journal may modeled = (
  [],
  turn_met _ (service_of journal c.args.self.now.server.now) [] (state g.D.Datagrams.port c.args.self.now) _ Failure _ _
      (c.receive.auto.buffer ∙ c.requires)
      (c.in-Err.ensures.came modeled)
      (c.receive.ensures.left modeled)
      (reached (tally_is _ _ c.add_failed.ensures)),
)

pub returns-in-Ok-Some-clause-comes : goal.returns-in-Ok-Some-clause-comes
returns-in-Ok-Some-clause-comes g c t =
    c.answer_request.ensures.comes t ∙ ap (λ (p : Port _). p.comes) (c.receive.ensures.left t)

pub returns-in-Ok-None-clause-comes : goal.returns-in-Ok-None-clause-comes
returns-in-Ok-None-clause-comes g c t = ap (λ (p : Port _). p.comes) (c.receive.ensures.left t)

pub returns-in-Err-clause-comes : goal.returns-in-Err-clause-comes
returns-in-Err-clause-comes g c t = ap (λ (p : Port _). p.comes) (c.receive.ensures.left t)
