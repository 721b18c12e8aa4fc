use Rattle.std.proofs.Common.{◌∙◌, ap, arith}
use Rattle.mold_pacing.specs.declared.state.PacerState.{PacerState}
use Rattle.mold_receiver.specs.View.{View}
use Rattle.mold_repair.proofs.GapLemmas.{limit_is}
use Rattle.mold_repair.proofs.gaps.limit_of.Goals as goal

pub returns : goal.returns
returns c =
    let v = c.args.arbiter.now.view in
    let view = c.receiver-receiver.ensures in
    let ripe = ap (λ (s : PacerState). s.ripe) c.state.ensures in
    limit_is v c.next.result c.window.result c.saturating_add-past.result c.known.result c.args.pacer.now.state.ripe
    c.min.result c.min-2.result (c.next.ensures ∙ ap (λ (w : View). w.next) view)
    (c.window.ensures.window ∙ ap (λ (w : View). w.window) view) (c.known.ensures ∙ ap (λ (w : View). w.known) view)
    c.known.type_inv (omega (arith, c.saturating_add-past.ensures, c.from.ensures)) c.min.ensures (omega (arith, c.min-2.ensures, ripe))
