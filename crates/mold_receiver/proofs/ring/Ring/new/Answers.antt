use Rattle.mold_receiver.proofs.RingLemmas.{places_new}
use Rattle.mold_receiver.proofs.ring.Ring.new.Goals as goal

pub returns : goal.returns
returns c =
    places_new c.in_ok-places.places.items c.args.window c.none.result
    (c.in_ok-places.ensures.items_if_clones_equal (λ y h. h)) c.none.ensures
