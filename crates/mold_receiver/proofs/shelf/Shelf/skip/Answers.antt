use Rattle.std.proofs.Common.{◌≡◌, arith}
use Rattle.mold_receiver.specs.Shelf.{slots_on}
use Rattle.mold_receiver.specs.Slots.{count_held}
use Rattle.mold_receiver.proofs.SlotLemmas.{moved_none}
use Rattle.mold_receiver.proofs.shelf.Shelf.skip.Goals as goal

pub returns-else-self-gt0-clause-moved : goal.returns-else-self-gt0-clause-moved
returns-else-self-gt0-clause-moved c =
    let none : count_held (slots_on c.args.self.now) ≡ 0 =
    omega (arith, c.if-self-gt0.false, c.requires.kept.slots.counted) in
    moved_none c.args.count (slots_on c.args.self.now) c.requires.within none
