use Rattle.std.proofs.Common.{arith}
use Rattle.mold_receiver.specs.Shelf.{slots_on}
use Rattle.mold_receiver.proofs.SlotLemmas.{next_found, next_none, next_past}
use Rattle.mold_receiver.proofs.shelf.Shelf.next_held.Goals as goal

pub returns-then-from-len : goal.returns-then-from-len
returns-then-from-len c =
    next_past (slots_on c.args.self.now) c.args.self.now.occupied c.args.from c.args.to c.requires.kept.slots.flagged
    c.requires.order (omega (arith, c.if-from-len.true, c.len.ensures))

pub returns-then-slot-len : goal.returns-then-slot-len
returns-then-slot-len c =
    next_found (slots_on c.args.self.now) c.args.self.now.occupied c.args.from c.args.to c.first_from-slot.result
    c.min.result c.requires.kept.slots.flagged c.requires.order c.first_from-slot.ensures
    (omega (arith, c.if-slot-len.true, c.len-2.ensures)) (omega (arith, c.min.ensures))

pub returns-else-slot-len : goal.returns-else-slot-len
returns-else-slot-len c =
    next_none (slots_on c.args.self.now) c.args.self.now.occupied c.args.from c.args.to c.first_from-slot.result
    c.requires.kept.slots.flagged c.requires.order c.first_from-slot.ensures
    (omega (arith, c.if-slot-len.false, c.len-2.ensures))
