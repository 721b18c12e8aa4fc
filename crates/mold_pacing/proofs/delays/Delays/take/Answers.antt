use Rattle.std.proofs.Common.{◌≡◌, ◌<◌, ◌∙◌, ◌-◌, ℕ, Some, arith, ap, get_or, refl, set, slice_get, sym}
use Rattle.std.proofs.lemmas.Option.{slice_get-get_or}
use Rattle.mold_pacing.specs.Delays.{delay_of}
use Rattle.mold_pacing.specs.declared.delays.Delays.{Delays}
use Rattle.mold_pacing.specs.declared.mark.Mark.{Mark}
use Rattle.mold_pacing.proofs.ArrivalLemmas.{taken_again, taken_more, taken_second}
use Rattle.mold_pacing.proofs.delays.Delays.take.Goals as goal

there : (old : Delays) (slot : ℕ) (before : Mark) → slot < 65536 → before ≡ get_or old.arrivals.items slot before →
    slice_get old.arrivals.items slot ≡ Some before
there old slot before within is =
    slice_get-get_or old.arrivals.items slot before (omega (arith, within, old.slots))
    ∙ ap (λ (m : Mark). Some m) (sym is)

pub returns-then-line-from : goal.returns-then-line-from
returns-then-line-from c =
    let old = c.args.self.now in
    let before = c.index-before.result.now in
    taken_again old c.args.arrival c.slot_of-slot.result before c.slot_of-slot.ensures.is
    (there old c.slot_of-slot.result before c.slot_of-slot.ensures.within c.index-before.ensures)
    (sym c.is_same.ensures ∙ c.if-not-is_same.false)
    (sym c.line.ensures ∙ c.if-line-from.true ∙ c.from.ensures)

pub returns-then-line-eq-BOTH : goal.returns-then-line-eq-BOTH
returns-then-line-eq-BOTH c =
    let old = c.args.self.now in
    let before = c.index-before.result.now in
    taken_more old _ c.args.arrival c.slot_of-slot.result before c.slot_of-slot.ensures.is
    (there old c.slot_of-slot.result before c.slot_of-slot.ensures.within c.index-before.ensures)
    (sym c.is_same.ensures ∙ c.if-not-is_same.false)
    (sym c.line-2.ensures ∙ c.if-line-eq-BOTH.true)
    (ap (set old.arrivals.items c.slot_of-slot.result) c.of_both.ensures) refl refl

pub returns : goal.returns
returns c =
    let old = c.args.self.now in
    let a = c.args.arrival in
    let slot = c.slot_of-slot.result in
    let before = c.index-before.result.now in
    let span = c.saturating_sub-span.ensures ∙ ap (λ t. a.time - t) c.time.ensures in
    let delay = c.new.ensures ∙ ap (λ s. delay_of s a.line) span in
    taken_second old c.push.new.self a slot before c.slot_of-slot.ensures.is
    (there old slot before c.slot_of-slot.ensures.within c.index-before.ensures)
    (sym c.is_same.ensures ∙ c.if-not-is_same.false)
    (λ is. c.if-line-from.false (c.line.ensures ∙ is ∙ sym c.from.ensures))
    (λ is. c.if-line-eq-BOTH.false (c.line-2.ensures ∙ is))
    (c.push.ensures.arrivals ∙ ap (set old.arrivals.items slot) c.of_both.ensures)
    (c.push.ensures.recent ∙ ap (set old.recent.items old.next) delay) c.push.ensures.next
