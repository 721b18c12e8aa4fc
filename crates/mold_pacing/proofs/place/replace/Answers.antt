use Rattle.std.proofs.Common.{◌≡◌, ◌∙◌, ◌+◌, ◌<◌, ◌≤◌, ℕ, IfSome, List, Option, Some, ap, arith, length, slice_get, subst, sym, vec_len}
use Rattle.mold_pacing.specs.Flight.{is_ascending}
use Rattle.mold_pacing.specs.Table.{AreBelow, placed, without}
use Rattle.mold_pacing.specs.declared.flight.Flight.{Flight}
use Rattle.mold_pacing.proofs.PlaceLemmas.{removed_ascending, replaced_is}
use Rattle.mold_pacing.proofs.place.replace.Goals as goal

pub put-requires-clause-sorted : goal.put-requires-clause-sorted
put-requires-clause-sorted c =
    ap (is_ascending 0) (c.remove.ensures.items)
    ∙ removed_ascending 0 c.args.flights.now.items c.in-Some.index c.requires.sorted

pub returns-then-stays_in_order-clause-items : goal.returns-then-stays_in_order-clause-items
returns-then-stays_in_order-clause-items c =
    let fs = c.args.flights.now.items in
    let index = c.in-Some.index in
    let sent = c.args.sent in
    let value = c.deref.ensures.value in
    let Below : List Flight → Type 0 = λ t. AreBelow t index sent.first in
    let Next : List Flight → Type 0 = λ t. (f : Flight) → slice_get t (index + 1) ≡ Some f → sent.first ≤ f.first in
    let Within : Option ℕ → Type 0 = λ leaves. IfSome leaves (λ index. index < vec_len c.args.flights.now) in
    let there : index < vec_len c.args.flights.now = subst Within c.in-Some.is c.requires.there in
    let within : index < length fs = omega (arith, there, c.args.flights.now.ok.0) in
    sym (replaced_is sent fs index within (subst Below value (c.stays_in_order.ensures.below c.if-stays_in_order.true))
    (subst Next value (c.stays_in_order.ensures.next c.if-stays_in_order.true)))
    ∙ ap (λ (leaves : Option ℕ). placed sent (without leaves fs)) (sym c.in-Some.is)
