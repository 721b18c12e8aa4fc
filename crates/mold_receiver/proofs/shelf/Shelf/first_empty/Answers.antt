use Rattle.std.proofs.Common.{arith}
use Rattle.mold_receiver.specs.Shelf.{slots_on}
use Rattle.mold_receiver.proofs.SlotLemmas.{empty_found, empty_past}
use Rattle.mold_receiver.proofs.shelf.Shelf.first_empty.Goals as goal

pub returns-then-from-len : goal.returns-then-from-len
returns-then-from-len c =
    empty_past (slots_on c.args.self.now) c.args.self.now.occupied c.args.from c.requires.slots.flagged
    (omega (arith, c.if-from-len.true, c.len.ensures))

pub returns : goal.returns
returns c =
    empty_found (slots_on c.args.self.now) c.args.self.now.occupied c.args.from c.first_from.result
    c.requires.slots.flagged c.first_from.ensures
