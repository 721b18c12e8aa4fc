use Rattle.std.proofs.Common.{◌-◌, ◌∙◌, ap, arith, not, sym}
use Rattle.mold_repair.proofs.FrontLemmas.{none_spans}
use Rattle.mold_repair.proofs.came.is_spanned.Goals as goal

pub returns-then-number-eq0 : goal.returns-then-number-eq0
returns-then-number-eq0 c is i f there flies low high = omega (arith, c.if-number-eq0.true, low)

pub returns-then-is_none : goal.returns-then-is_none
returns-then-is_none c is =
    let p = c.args.pacer.now in
    none_spans p.flights.items p.state.now (c.args.number - 1) c.args.number c.request_for.result c.request_for.ensures
    (c.is_none.ensures ∙ ap not c.if-is_none.true)
    (λ f low high. (omega (arith, low), omega (arith, high)))

pub returns : goal.returns
returns c is =
    let p = c.args.pacer.now in
    none_spans p.flights.items p.state.now c.args.number c.args.number c.request_for-2.result c.request_for-2.ensures
    (sym c.is_some.ensures ∙ is) (λ f low high. (omega (arith, low), omega (arith, high)))
