use Rattle.std.proofs.Common.{◌≡◌, ◌<◌, ◌∙◌, Some, arith, ap, length, set, slice_get, sym}
use Rattle.std.proofs.lemmas.Option.{slice_get-get_or}
use Rattle.mold_pacing.specs.Delays.{greatest_stamp}
use Rattle.mold_pacing.specs.declared.delay.Delay.{Delay}
use Rattle.mold_pacing.proofs.DelayLemmas.{greatest_kept, greatest_new, patience_same}
use Rattle.mold_pacing.proofs.delays.Delays.push.Goals as goal

pub next_greatest-greatest-requires-clause-new : goal.next_greatest-greatest-requires-clause-new
next_greatest-greatest-requires-clause-new c =
    let old = c.args.self.now in
    let within : old.next < length old.recent.items = omega (arith, old.within, old.count) in
    λ above. ap greatest_stamp c.deref.ensures.value
    ∙ greatest_new old.recent.items old.next c.args.delay within (omega (arith, above, old.most))

pub next_greatest-greatest-requires-clause-kept : goal.next_greatest-greatest-requires-clause-kept
next_greatest-greatest-requires-clause-kept c =
    let old = c.args.self.now in
    let left = c.index-left.result.now in
    let within : old.next < length old.recent.items = omega (arith, old.within, old.count) in
    let there : slice_get old.recent.items old.next ≡ Some left =
    slice_get-get_or old.recent.items old.next left within ∙ ap (λ (d : Delay). Some d) (sym c.index-left.ensures) in
    λ below less. ap greatest_stamp c.deref.ensures.value
    ∙ greatest_kept old.recent.items old.next c.args.delay left there (omega (arith, below, old.most))
    (omega (arith, less, old.most)) ∙ sym old.most

pub invariant_of-self-clause-fits : goal.invariant_of-self-clause-fits
invariant_of-self-clause-fits c =
    let old = c.args.self.now in
    old.fits ∙ sym (patience_same old.recent.items (set old.recent.items old.next c.args.delay)
    (ap greatest_stamp (sym c.deref.ensures.value) ∙ sym c.next_greatest-greatest.ensures ∙ c.if-greatest-self.true ∙ old.most))
