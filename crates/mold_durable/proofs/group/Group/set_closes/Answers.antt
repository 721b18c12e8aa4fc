use Rattle.std.proofs.Common.{List, ℕ, ap, ◌∙◌, arith}
use Rattle.mold_durable.specs.Group.{GroupState}
use Rattle.mold_durable.proofs.GroupLemmas.{made_set}
use Rattle.mold_durable.proofs.group.Group.set_closes.Goals as goal

pub invariant_of-self : goal.invariant_of-self
invariant_of-self c =
    let f = c.self.inside in
    (made_set f.count f.closes c.args.closes f.bytes.items _ _ c.self.invariant (omega arith) c.last_gate.ensures).group

pub returns : goal.returns
returns c =
    let f = c.self.inside in
    ap (λ (t : List (List ℕ)). record { messages = t; closes = c.args.closes })
    (made_set f.count f.closes c.args.closes f.bytes.items _ _ c.self.invariant (omega arith) c.last_gate.ensures).same
    ∙ ap (λ (t : GroupState). record t { closes = c.args.closes }) c.self.view_is
