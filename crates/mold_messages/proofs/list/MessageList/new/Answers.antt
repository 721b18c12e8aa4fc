use Rattle.std.proofs.Common.{◌≡◌, [], refl, rules}
use Rattle.mold_messages.specs.Offsets.{pieces, IsRising}
use Rattle.mold_messages.proofs.list.MessageList.new.Goals as goal

pub invariant_of-result : goal.invariant_of-result
unfolding IsRising
invariant_of-result c = rw (c.new.ensures.items, c.new-2.ensures.items) refl

pub returns : goal.returns
returns c =
    let none : pieces 0 0 c.new.result.items c.new-2.result.items ≡ [] = unfold pieces in rw c.new.ensures.items refl in
    search (rules, none)
