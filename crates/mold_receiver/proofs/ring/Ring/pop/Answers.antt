use Rattle.std.proofs.Common.{◌≡◌, ℕ, List, length, set, ap, sym, ◌∙◌}
use Rattle.std.specs.Prelude.{Option}
use Rattle.mold_receiver.specs.declared.place.Place.{Place}
use Rattle.mold_receiver.specs.Places.{place_at}
use Rattle.mold_receiver.specs.Ring.{index_of, ring_of}
use Rattle.mold_receiver.proofs.RingLemmas.{first_place, ring_popped}
use Rattle.mold_receiver.proofs.ring.Ring.pop.Goals as goal

pub returns-clause-place : goal.returns-clause-place
returns-clause-place c =
    let f = c.self.inside in
    c.held.ensures
    ∙ sym (first_place f.places.items f.head c.self.invariant.0 c.index-place.result.now c.index-place.ensures)
    ∙ ap (λ (t : List (Option Place)). place_at t 0) c.self.view_is

pub returns-clause-moved : goal.returns-clause-moved
returns-clause-moved c =
    let f = c.self.inside in
    let places = set f.places.items f.head c.none.result in
    let long : c.len.result ≡ length f.places.items = c.len.ensures ∙ f.places.ok.0 in
    ap (λ (i : ℕ). ring_of places i) (c.second_index-next.ensures ∙ ap (λ (n : ℕ). index_of f.head n 1) long)
    ∙ ring_popped f.places.items f.head c.self.invariant.0 c.args.self.now c.none.result c.self.view_is c.none.ensures
