use Rattle.std.proofs.Common.{◌<◌, length, sym, ap, subst, ◌∙◌, arith}
use Rattle.std.specs.FinMap as finite
use Rattle.mold_receiver.specs.Slots.{count_held}
use Rattle.mold_receiver.specs.View.{View}
use Rattle.mold_receiver.proofs.SlotLemmas.{count_below, len-slots}
use Rattle.mold_receiver.proofs.ViewLemmas.{first_empty}
use Rattle.mold_receiver.proofs.receiver.Receiver.stored.Goals as goal

pub returns : goal.returns
returns c =
    let a = c.self.inside in
    record {
      count = c.held.ensures.count ∙ sym (len-slots a.next a.slots)
          ∙ ap (λ (v : View). finite.len v.store) c.self.view_is;
      bound = subst (λ (v : View). c.held.result < v.window) c.self.view_is
          (let below : count_held a.slots < length a.slots = count_below a.slots c.held.ensures.some
          (first_empty a.room a.session a.next a.known a.ended a.slots c.self.invariant) in
          omega (arith, c.held.ensures.count, below));
    }
