use Rattle.std.proofs.Common.{ap, ◌∙◌}
use Rattle.mold_receive.proofs.CallLemmas.{gave_some}
use Rattle.mold_receive.proofs.OpeningLemmas.{awaited_one, if_ok_map}
use Rattle.mold_receive.proofs.opening.Opening.receive.Goals as goal

pub returns-in-Ok-Some-clause-awaited : goal.returns-in-Ok-Some-clause-awaited
returns-in-Ok-Some-clause-awaited g c =
    if_ok_map c.look.result
    (λ came looked.
    awaited_one c.args.options.now.lines _ _ _ _ c.args.origin _ came looked
    (λ is.
    ap (λ p. (g.D.PortSet.state p).given) c.look.ensures.ports
    ∙ gave_some _ _ c.args.port _ c.receive.result c.in-Ok-Some.field-0 c.in-Ok-Some.count c.receive.new.buffer
    (c.receive.ensures.given is) c.in-Ok-Some.is c.in-Ok-Some.field-0-is c.requires)
    (λ is. ap (λ p. (g.D.PortSet.state p).sent) c.look.ensures.ports ∙ c.receive.ensures.sent is))
    c.look.ensures.looked
