use Rattle.std.proofs.Common.{length}
use Rattle.mold_messages.proofs.PartLemmas.{marked_none, within_none}
use Rattle.mold_messages.proofs.parts.PartList.clear.Goals as goal

pub invariant_of-self : goal.invariant_of-self
invariant_of-self c =
    within_none c.clear.new.self.items (length c.clear-2.new.self.items) c.clear.ensures.items

pub returns : goal.returns
returns c = marked_none c.clear.new.self.items c.clear-2.new.self.items c.clear.ensures.items c.clear-2.ensures.items
