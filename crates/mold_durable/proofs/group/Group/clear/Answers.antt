use Rattle.std.proofs.Common.{[], false, ◌∙◌, arith}
use Rattle.mold_durable.proofs.GroupLemmas.{first_three, group_long, made_none, state_of}
use Rattle.mold_durable.proofs.group.Group.clear.Goals as goal

pub invariant_of-self : goal.invariant_of-self
invariant_of-self c =
    let f = c.self.inside in
    let long = group_long f.count f.closes f.bytes.items c.self.invariant in
    (made_none c.truncate.new.self.items
    (c.truncate.ensures.items ∙ first_three f.bytes.items (omega (arith, long)))).group

pub returns : goal.returns
returns c =
    let f = c.self.inside in
    let long = group_long f.count f.closes f.bytes.items c.self.invariant in
    state_of 0 false c.truncate.new.self.items []
    (made_none c.truncate.new.self.items
    (c.truncate.ensures.items ∙ first_three f.bytes.items (omega (arith, long))))
