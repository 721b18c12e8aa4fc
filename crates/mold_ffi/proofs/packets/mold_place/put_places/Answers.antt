use Rattle.std.proofs.Common.{List, ℕ, ◌∷◌, ◌∙◌, sym, subst, arith}
use Rattle.mold_wire.specs.declared.header.TheConstants.{HEADER_LENGTH}
use Rattle.mold_ffi.proofs.PlaceLemmas.{HasFilled, begun, filled_more, filled_all}
use Rattle.mold_ffi.proofs.packets.mold_place.put_places.Goals as goal

pub loop-message-init : goal.loop-message-init
loop-message-init c =
    subst (λ (t : List (List ℕ)). HasFilled HEADER_LENGTH 0 t c.args.places.now c.args.blocks.now c.args.places.now)
    (sym (c.into_iter-message-iterator.ensures.into_iter_gives ∙ c.iter-message-items.ensures))
    (begun c.args.blocks.now c.args.places.now)

pub loop-message-preserved : goal.loop-message-preserved
loop-message-preserved c =
    let old = c.loop-message in
    let has : HasFilled old.at old.filled (c.in-Some.message.now ∷ c.next.new.self) old.places c.args.blocks.now c.args.places.now =
    subst (λ (t : List (List ℕ)). HasFilled old.at old.filled t old.places c.args.blocks.now c.args.places.now)
    c.in-Some.ensures.steps old.invariant
    in
    filled_more old.at old.filled c.in-Some.message.now c.next.new.self old.places c.args.blocks.now c.args.places.now has
    (omega (arith, has.room, c.if-filled-places.false))

pub returns : goal.returns
returns c =
    let old = c.loop-message in
    filled_all old.at old.filled old.places c.args.blocks.now c.args.places.now
    (subst (λ (t : List (List ℕ)). HasFilled old.at old.filled t old.places c.args.blocks.now c.args.places.now)
    c.in-None.ensures.steps.0 old.invariant)
