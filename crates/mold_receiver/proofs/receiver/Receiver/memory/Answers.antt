use Rattle.std.proofs.Common.{ap, arith}
use Rattle.mold_receiver.specs.Store.{stored_bytes}
use Rattle.mold_receiver.specs.View.{View}
use Rattle.mold_receiver.proofs.SizeLemmas.{bytes_slots}
use Rattle.mold_receiver.proofs.receiver.Receiver.memory.Goals as goal

pub returns-clause-most : goal.returns-clause-most
returns-clause-most c =
    let a = c.self.inside in
    omega (
      arith,
      c.memory.ensures.most,
      bytes_slots a.next a.slots,
      ap (λ (v : View). stored_bytes v.store) c.self.view_is,
    )

pub returns-clause-least : goal.returns-clause-least
returns-clause-least c =
    let a = c.self.inside in
    omega (
      arith,
      c.memory.ensures.least,
      bytes_slots a.next a.slots,
      ap (λ (v : View). stored_bytes v.store) c.self.view_is,
    )
