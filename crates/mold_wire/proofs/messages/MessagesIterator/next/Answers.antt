use Rattle.std.proofs.Common.{◌≡◌, ℕ, suc, ◌-◌, ◌<◌, List, ◌∷◌, ◌∙◌, arith, sym, ap, length, rules}
use Rattle.mold_wire.specs.Block.{messages_at}
use Rattle.mold_wire.proofs.BlockLemmas.{first_block, block_begins}
use Rattle.mold_wire.proofs.messages.MessagesIterator.next.Goals as goal

-- A message remains, so the bytes start with a whole block.
pub returns-in_err-message-clause-steps : goal.returns-in_err-message-clause-steps
returns-in_err-message-clause-steps c =
    let more : 0 < c.self.inside.left = omega arith in
    absurd (block_begins c.self.inside.left c.self.inside.bytes.now more c.self.invariant c.in_err-message.ensures)

pub invariant_of-self : goal.invariant_of-self
invariant_of-self c =
    let more : c.self.inside.left ≡ suc (c.self.inside.left - 1) = omega arith in
    (first_block _ _ _ _ _ more c.self.invariant c.in_ok-message.ensures).others

pub returns-clause-steps : goal.returns-clause-steps
returns-clause-steps c =
    let more : c.self.inside.left ≡ suc (c.self.inside.left - 1) = omega arith in
    sym c.self.view_is ∙ (first_block _ _ _ _ _ more c.self.invariant c.in_ok-message.ensures).first

pub returns-clause-goes : goal.returns-clause-goes
returns-clause-goes c =
    let more : c.self.inside.left ≡ suc (c.self.inside.left - 1) = omega arith in
    let left = c.self.inside.left - 1 in
    let held : c.args.self.now ≡ c.in_ok-message.message.now ∷ messages_at left c.in_ok-message.rest.now =
    sym c.self.view_is ∙ (first_block _ _ _ _ _ more c.self.invariant c.in_ok-message.ensures).first
    in
    let count = ap (λ (t : List (List ℕ)). length t) held in
    search (rules, count)
