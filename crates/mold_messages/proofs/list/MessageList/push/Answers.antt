use Rattle.std.proofs.Common.{ℕ, List, [], ◌∷◌, ◌++◌, length, IsOk, ap, subst, ◌∙◌}
use Rattle.std.proofs.Common.{arith}
use Rattle.mold_messages.specs.Listed.{Listed, HasRoom}
use Rattle.mold_messages.proofs.PlaceLemmas.{length-pieces, joined_all, pushed}
use Rattle.mold_messages.proofs.list.MessageList.push.Goals as goal

pub returns-in_err-reserve-clause-succeeds : goal.returns-in_err-reserve-clause-succeeds
returns-in_err-reserve-clause-succeeds c =
    let f = c.self.inside in
    subst (λ (l : Listed). HasRoom l 1 (length c.args.message.now) → IsOk c.from_residual.result) c.self.view_is
    (λ room. absurd
    (omega (arith, room.messages, c.in_err-reserve.ensures.full, length-pieces 0 0 f.ends.items f.bytes.items)))

pub returns-in_err-extend_from_slice-clause-succeeds : goal.returns-in_err-extend_from_slice-clause-succeeds
returns-in_err-extend_from_slice-clause-succeeds c =
    let f = c.self.inside in
    subst (λ (l : Listed). HasRoom l 1 (length c.args.message.now) → IsOk
    c.from_residual-in_err-extend_from_slice.result) c.self.view_is
    (λ room. absurd
    (omega (
      arith,
      room.bytes,
      c.in_err-extend_from_slice.ensures.full,
      joined_all f.ends.items f.bytes.items
          c.self.invariant,
    )))

pub invariant_of-self-2 : goal.invariant_of-self-2
invariant_of-self-2 c =
    let f = c.self.inside in
    let more = c.push_reserved.ensures.items in
    (pushed f.ends.items f.bytes.items c.args.message.now c.push_reserved.new.self.items c.extend_from_slice.new.self.items
    c.len-end.result c.self.invariant
    (more ∙ ap (λ (t : List ℕ). t ++ c.len-end.result ∷ []) c.in_ok-reserve.ensures.items)
    c.in_ok-extend_from_slice.ensures.items (omega arith)).rising

pub returns-clause-added : goal.returns-clause-added
returns-clause-added c =
    let f = c.self.inside in
    let more = c.push_reserved.ensures.items in
    (pushed f.ends.items f.bytes.items c.args.message.now c.push_reserved.new.self.items c.extend_from_slice.new.self.items
    c.len-end.result c.self.invariant
    (more ∙ ap (λ (t : List ℕ). t ++ c.len-end.result ∷ []) c.in_ok-reserve.ensures.items)
    c.in_ok-extend_from_slice.ensures.items (omega arith)).messages
    ∙ ap (λ (l : Listed). l.messages ++ c.args.message.now ∷ []) c.self.view_is
