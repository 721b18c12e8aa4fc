use Rattle.std.proofs.Common.{length}
use Rattle.mold_messages.proofs.PartLemmas.{marked_none, within_none}
use Rattle.mold_messages.proofs.parts.PartList.new.Goals as goal

pub invariant_of-result : goal.invariant_of-result
invariant_of-result c = within_none c.new.result.items (length c.new-2.result.items) c.new.ensures.items

pub returns : goal.returns
returns c = marked_none c.new.result.items c.new-2.result.items c.new.ensures.items c.new-2.ensures.items
