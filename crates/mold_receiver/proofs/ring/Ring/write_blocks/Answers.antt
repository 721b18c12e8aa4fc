use Rattle.std.proofs.Common.{List, length, ap, arith}
use Rattle.mold_receiver.specs.Store.{Message}
use Rattle.mold_receiver.proofs.ring.Ring.write_blocks.Goals as goal

pub overflow_add-slot : goal.overflow_add-slot
overflow_add-slot c =
    let i = c.loop-message.invariant in
    omega (
      arith,
      i.within,
      c.requires.within,
      c.requires.few,
      ap (λ (t : List Message). length t) c.in-Some.ensures.steps,
    )
