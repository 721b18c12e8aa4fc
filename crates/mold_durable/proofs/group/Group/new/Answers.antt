use Rattle.std.proofs.Common.{[], ◌∷◌, ◌++◌, List, ℕ, false, ap, ◌∙◌}
use Rattle.mold_durable.proofs.GroupLemmas.{made_none, state_of}
use Rattle.mold_durable.proofs.group.Group.new.Goals as goal

pub invariant_of-result : goal.invariant_of-result
invariant_of-result c =
    (made_none c.extend_from_slice.new.self.items (c.in_ok-extend_from_slice.ensures.items
    ∙ ap (λ (t : List ℕ). t ++ 0 ∷ 1 ∷ 0 ∷ []) c.new-bytes.ensures.items)).group

pub returns : goal.returns
returns c =
    state_of 0 false c.extend_from_slice.new.self.items []
    (made_none c.extend_from_slice.new.self.items (c.in_ok-extend_from_slice.ensures.items
    ∙ ap (λ (t : List ℕ). t ++ 0 ∷ 1 ∷ 0 ∷ []) c.new-bytes.ensures.items))
