use Rattle.std.proofs.Common.{List, length, sym, ap, ◌∙◌}
use Rattle.std.specs.Prelude.{Option, None}
use Rattle.mold_receiver.specs.declared.place.Place.{Place}
use Rattle.mold_receiver.proofs.RingLemmas.{place_in, ring_long}
use Rattle.mold_receiver.proofs.ring.Ring.len.Goals as goal

pub returns : goal.returns
returns c =
    let f = c.self.inside in
    c.len.ensures
    ∙ f.places.ok.0
    ∙ sym (ring_long None (place_in f.places.items) f.head (length f.places.items))
    ∙ ap (λ (t : List (Option Place)). length t) c.self.view_is
