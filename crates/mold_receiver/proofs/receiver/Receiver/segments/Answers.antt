use Rattle.std.proofs.Common.{ap, arith}
use Rattle.std.specs.FinMap as finite
use Rattle.mold_receiver.specs.View.{View}
use Rattle.mold_receiver.proofs.SlotLemmas.{len-slots}
use Rattle.mold_receiver.proofs.receiver.Receiver.segments.Goals as goal

pub returns : goal.returns
returns c =
    let a = c.self.inside in
    omega (arith, c.segments.ensures, len-slots a.next a.slots, ap (λ (v : View). finite.len v.store) c.self.view_is)
