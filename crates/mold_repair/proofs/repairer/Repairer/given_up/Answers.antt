use Rattle.std.proofs.Common.{◌∙◌, arith, subst, sym, ap}
use Rattle.mold_receiver.specs.View.{IsWellFormed, View}
use Rattle.mold_repair.proofs.GivingUpLemmas.{given_up_is}
use Rattle.mold_repair.proofs.repairer.Repairer.given_up.Goals as goal

pub returns-clause-some : goal.returns-clause-some
returns-clause-some c =
    let o = c.args.self.now in
    let view = c.receiver.ensures in
    let asks = c.wanted_law.ensures.asks c.receiver.result.now c.in_ok-next.field-0
    (sym c.wanted.ensures.wanted ∙ c.in_ok-next.was) in
    given_up_is o.options.give_up o.arbiter.view o.pacer c.in_ok-next.field-0.sequence c.min.result
    c.in_ok-request.request c.in_ok-gap.gap (omega (arith, c.if-give_up-eq0.false))
    (subst IsWellFormed view c.wanted.ensures.well_formed) (asks.1 ∙ ap (λ (v : View). v.next) view)
    (sym c.last_request.ensures ∙ c.in_ok-request.was) c.if-request-give_up.false c.in_ok-gap.ensures.some c.min.ensures
