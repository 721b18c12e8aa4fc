use Rattle.std.proofs.Common.{◌≡◌, ◌<◌, ◌+◌, ◌-◌, List, ℕ, length, IsOk, refl, ap, subst, ◌∙◌, arith}
use Rattle.mold_messages.specs.Listed.{Listed, HasRoom, extended}
use Rattle.mold_messages.proofs.PlaceLemmas.{length-pieces, joined_all, extends}
use Rattle.mold_messages.proofs.list.MessageList.extend_last.Goals.{After-len-last}
use Rattle.mold_messages.proofs.list.MessageList.extend_last.Goals as goal

-- There are as many offsets as messages.
some_places : (list : Listed) (ends bytes : List ℕ) (messages : List (List ℕ)) → messages ≡ list.messages →
    0 < length list.messages → length messages ≡ length ends → 0 < length ends
some_places list ends bytes messages same some counted =
    omega (arith, ap (λ (t : List (List ℕ)). length t) same, some, counted)

pub returns-in_err-extend_from_slice-clause-succeeds : goal.returns-in_err-extend_from_slice-clause-succeeds
returns-in_err-extend_from_slice-clause-succeeds c =
    let f = c.self.inside in
    subst (λ (l : Listed). HasRoom l 0 (length c.args.bytes.now) → IsOk c.from_residual.result) c.self.view_is
    (λ room. absurd
    (omega (
      arith,
      room.bytes,
      c.in_err-extend_from_slice.ensures.full,
      joined_all f.ends.items f.bytes.items c.self.invariant,
    )))

-- There is a last offset.
some_last : (c : After-len-last) → 0 < length c.self.inside.ends.items
some_last c =
    let f = c.self.inside in
    some_places c.args.self.now f.ends.items f.bytes.items _ (ap (λ (l : Listed). l.messages) c.self.view_is)
    c.requires (length-pieces 0 0 f.ends.items f.bytes.items)

pub overflow_sub-last : goal.overflow_sub-last
overflow_sub-last c =
    omega (arith, some_last (goal.at.overflow_sub-last c).After-len-last, c.len-last.ensures)

pub index_mut-requires : goal.index_mut-requires
index_mut-requires c =
    omega (arith, some_last (goal.at.index_mut-requires c).After-len-last, c.len-last.ensures)

pub invariant_of-self-2 : goal.invariant_of-self-2
invariant_of-self-2 c =
    let f = c.self.inside in
    let some = some_last (goal.at.invariant_of-self-2 c).After-len-last in
    let last : length f.ends.items ≡ (c.len-last.result - 1) + 1 = omega (arith, some, c.len-last.ensures) in
    (extends f.ends.items f.bytes.items c.args.bytes.now _ c.extend_from_slice.new.self.items c.len.result
    (c.len-last.result - 1) c.self.invariant last refl c.in_ok-extend_from_slice.ensures.items
    (omega (arith, c.len.ensures))).rising

pub returns-clause-added : goal.returns-clause-added
returns-clause-added c =
    let f = c.self.inside in
    let some = some_last (goal.at.returns-clause-added c).After-len-last in
    let last : length f.ends.items ≡ (c.len-last.result - 1) + 1 = omega (arith, some, c.len-last.ensures) in
    (extends f.ends.items f.bytes.items c.args.bytes.now _ c.extend_from_slice.new.self.items c.len.result
    (c.len-last.result - 1) c.self.invariant last refl c.in_ok-extend_from_slice.ensures.items
    (omega (arith, c.len.ensures))).messages
    ∙ ap (λ (l : Listed). extended l.messages c.args.bytes.now) c.self.view_is
