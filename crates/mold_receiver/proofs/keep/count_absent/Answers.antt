use Rattle.std.proofs.Common.{arith}
use Rattle.mold_receiver.specs.Shelf.{slots_on}
use Rattle.mold_receiver.proofs.KeepLemmas.{absent_few}
use Rattle.mold_receiver.proofs.keep.count_absent.Goals as goal

pub overflow_add-count : goal.overflow_add-count
overflow_add-count c =
    omega (
      arith,
      c.loop-message.invariant.count,
      absent_few (slots_on c.args.shelf.now) c.args.first c.args.blocks.now,
      c.requires.few,
    )
