use Rattle.std.proofs.Common.{◌<◌, ℕ, List, length, set, slice_set, ap, ◌∙◌, arith}
use Rattle.std.specs.Prelude.{Option, None, Some}
use Rattle.std.proofs.lemmas.Bool.{cond-true, lt-ltb}
use Rattle.mold_receiver.specs.declared.place.Place.{Place}
use Rattle.mold_receiver.specs.Ring.{index_of, ring_of}
use Rattle.mold_receiver.proofs.RingLemmas.{index_within, place_in, ring_long, ring_written}
use Rattle.mold_receiver.proofs.ring.Ring.write.Goals as goal

pub ring_index-index-requires : goal.ring_index-index-requires
ring_index-index-requires c =
    let f = c.self.inside in
    omega (
      arith,
      c.requires.there,
      c.self.invariant.0,
      c.self.invariant.1,
      ring_long None (place_in f.places.items) f.head (length f.places.items),
      ap (λ (t : List (Option Place)). length t) c.self.view_is,
    )

pub index_mut-requires : goal.index_mut-requires
index_mut-requires c =
    let f = c.self.inside in
    let inside : c.args.slot < length f.places.items =
    omega (
      arith,
      c.requires.there,
      ring_long None (place_in f.places.items) f.head (length f.places.items),
      ap (λ (t : List (Option Place)). length t) c.self.view_is,
    ) in
    omega (
      arith,
      index_within f.head (length f.places.items) c.args.slot c.self.invariant.0 inside,
      c.ring_index-index.ensures,
      ap (λ (n : ℕ). index_of f.head n c.args.slot) (c.len.ensures ∙ f.places.ok.0),
      f.places.ok.0,
    )

pub returns : goal.returns
returns c =
    let f = c.self.inside in
    let inside : c.args.slot < length f.places.items =
    omega (
      arith,
      c.requires.there,
      ring_long None (place_in f.places.items) f.head (length f.places.items),
      ap (λ (t : List (Option Place)). length t) c.self.view_is,
    ) in
    ap (λ (i : ℕ). ring_of (set f.places.items i c.args.place) f.head) (c.ring_index-index.ensures
    ∙ ap (λ (n : ℕ). index_of f.head n c.args.slot) (c.len.ensures ∙ f.places.ok.0))
    ∙ ring_written f.places.items f.head c.self.invariant.0 c.args.slot c.args.place (Some c.args.place) inside
    (cond-true _ (Some c.args.place) None (lt-ltb c.args.place.start 4294967295 c.requires.some))
    ∙ ap (λ (t : List (Option Place)). slice_set t c.args.slot (Some c.args.place)) c.self.view_is
