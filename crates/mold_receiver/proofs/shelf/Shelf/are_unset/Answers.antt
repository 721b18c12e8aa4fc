use Rattle.mold_receiver.specs.Shelf.{slots_on}
use Rattle.mold_receiver.proofs.SlotLemmas.{clear_flags, clear_slots}
use Rattle.mold_receiver.proofs.shelf.Shelf.are_unset.Goals as goal

pub returns : goal.returns
returns c = (
  λ is. clear_slots (slots_on c.args.self.now) c.args.self.now.occupied c.args.from c.args.to c.requires.slots.flagged
      (c.is_clear.ensures.0 is),
  λ empty. c.is_clear.ensures.1
      (clear_flags (slots_on c.args.self.now) c.args.self.now.occupied c.args.from c.args.to c.requires.slots.flagged
      empty),
)
