use Rattle.std.proofs.Common.{◌≡◌, ◌+◌, ℕ, List, length, sym, ap, subst, ◌∙◌}
use Rattle.mold_wire.specs.Block.{blocks as packed}
use Rattle.mold_receiver.specs.Receive.{exceeds}
use Rattle.mold_receiver.specs.Slots.{store_of}
use Rattle.mold_receiver.specs.Store.{stored_bytes}
use Rattle.mold_receiver.specs.View.{IsWithinRoom, View}
use Rattle.mold_receiver.proofs.SizeLemmas.{bytes_slots}
use Rattle.mold_receiver.proofs.receiver.Receiver.lacks_room.Goals as goal

pub exceeds-requires : goal.exceeds-requires
exceeds-requires c =
    let a = c.self.inside in
    subst (IsWithinRoom a.room) (bytes_slots a.next a.slots ∙ sym c.bytes.ensures) c.self.invariant.bounded

pub returns : goal.returns
returns c =
    let a = c.self.inside in
    let used : c.bytes.result ≡ stored_bytes (store_of a.next a.slots) =
    c.bytes.ensures ∙ sym (bytes_slots a.next a.slots) in
    c.exceeds.ensures
    ∙ ap (λ (n : ℕ). exceeds a.room (n + length c.bytes-2.result.now)) used
    ∙ ap (λ (t : List ℕ). exceeds a.room (stored_bytes (store_of a.next a.slots) + length t)) c.bytes-2.ensures.blocks
    ∙ ap (λ (v : View). exceeds v.room (stored_bytes v.store + length (packed c.args.blocks.now))) c.self.view_is
