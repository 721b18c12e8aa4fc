use Rattle.std.proofs.Common.{◌≡◌, ◌≤◌, Some, List, length, slice_get, ap, arith, cond, subst, sym, ◌∙◌, Bool}
use Rattle.std.specs.List.{insert}
use Rattle.mold_pacing.specs.Table.{AreBelow}
use Rattle.mold_pacing.specs.declared.flight.Flight.{Flight}
use Rattle.mold_pacing.proofs.PlaceLemmas.{placed_is}
use Rattle.mold_pacing.proofs.place.put.Goals as goal

pub returns-clause-items : goal.returns-clause-items
returns-clause-items c =
    let fs = c.args.flights.now.items in
    let index = c.count_below-index.result in
    let sent = c.args.sent in
    let value = c.deref.ensures.value in
    let Bound : List Flight → Type 0 = λ t. index ≤ length t in
    let Below : List Flight → Type 0 = λ t. AreBelow t index sent.first in
    let Next : List Flight → Type 0 = λ t. (f : Flight) → slice_get t index ≡ Some f → sent.first ≤ f.first in
    let is = placed_is sent fs index (subst Bound value c.count_below-index.ensures.bound)
    (subst Below value c.count_below-index.ensures.below) (subst Next value
    (λ (f : Flight) (there : slice_get c.deref.result.now index ≡ Some f). c.count_below-index.ensures.next index f (omega arith) there)) in
    c.insert.ensures.items
    ∙ ap (λ (b : Bool). cond b (insert fs index sent) fs) (c.insert.ensures.succeeds c.requires.room)
    ∙ sym is
