use Rattle.std.proofs.Common.{ℕ, List, get_or, sym, ap, ◌∙◌, arith}
use Rattle.std.specs.Prelude.{Option}
use Rattle.mold_receiver.specs.declared.place.Place.{Place}
use Rattle.mold_receiver.specs.Places.{place_at}
use Rattle.mold_receiver.specs.Ring.{index_of}
use Rattle.mold_receiver.proofs.RingLemmas.{ring_past, ring_place}
use Rattle.mold_receiver.proofs.ring.Ring.get.Goals as goal

pub returns-then-slot-count : goal.returns-then-slot-count
returns-then-slot-count c =
    let f = c.self.inside in
    sym (ring_past f.places.items f.head c.args.slot (omega (arith, c.if-slot-count.true, c.len-count.ensures, f.places.ok.0)))
    ∙ ap (λ (t : List (Option Place)). place_at t c.args.slot) c.self.view_is

pub returns : goal.returns
returns c =
    let f = c.self.inside in
    c.held.ensures
    ∙ sym (ring_place f.places.items f.head c.args.slot c.self.invariant.0
    (omega (arith, c.if-slot-count.false, c.len-count.ensures, f.places.ok.0)) c.index.result.now
    (c.index.ensures ∙ ap (λ (i : ℕ). get_or f.places.items i c.index.result.now) (c.ring_index.ensures
    ∙ ap (λ (n : ℕ). index_of f.head n c.args.slot)
    (c.len-count.ensures ∙ f.places.ok.0))))
    ∙ ap (λ (t : List (Option Place)). place_at t c.args.slot) c.self.view_is
