use Rattle.std.proofs.Common.{◌≡◌, ◌≤◌, ◌+◌, ℕ, List, [], ◌∷◌, length, sym, ap, ◌∙◌}
use Rattle.std.proofs.Common.{rules, arith}
use Rattle.mold_messages.specs.Offsets.{IsRising, pieces}
use Rattle.mold_messages.proofs.PlaceLemmas.{pieces_none, rising_first, rising_within, pieces_first}
use Rattle.mold_messages.proofs.iterator.MessageIteratorIterator.next.Goals.{In_ok-end}
use Rattle.mold_messages.proofs.iterator.MessageIteratorIterator.next.Goals as goal

pub returns-in_err-end-clause-steps : goal.returns-in_err-end-clause-steps
returns-in_err-end-clause-steps c =
    let f = c.self.inside in
    let none : c.args.self.now ≡ [] = sym c.self.view_is ∙ pieces_none f.spacing f.start f.ends.now f.bytes.now
    c.in_err-end.ensures.cases in
    rw c.from_residual.ensures (search (rules, none))

-- The first message ends at or after its start, and the offsets do not decrease from there on.
first_end : (c : In_ok-end) → (c.self.inside.start + c.self.inside.spacing ≤ c.in_ok-end.end.now)
    × IsRising c.self.inside.spacing c.in_ok-end.end.now c.in_ok-end.ends.now (length c.self.inside.bytes.now)
first_end c =
    let f = c.self.inside in
    rising_first f.spacing f.start f.ends.now c.in_ok-end.end.now c.in_ok-end.ends.now (length f.bytes.now)
    c.in_ok-end.ensures.cases.0 c.self.invariant

pub overflow_add-self-inside : goal.overflow_add-self-inside
overflow_add-self-inside c =
    let f = c.self.inside in
    let first = first_end (goal.at.overflow_add-self-inside c).In_ok-end in
    omega (
      arith,
      first.0,
      c.type_inv.self-inside,
      rising_within f.spacing c.in_ok-end.end.now c.in_ok-end.ends.now (length f.bytes.now) first.1,
    )

pub part-message-requires-clause-ordered : goal.part-message-requires-clause-ordered
part-message-requires-clause-ordered c = (first_end (goal.at.part-message-requires-clause-ordered c).In_ok-end).0

pub part-message-requires-clause-within : goal.part-message-requires-clause-within
part-message-requires-clause-within c =
    rising_within c.self.inside.spacing c.in_ok-end.end.now c.in_ok-end.ends.now (length c.self.inside.bytes.now)
    (first_end (goal.at.part-message-requires-clause-within c).In_ok-end).1

pub invariant_of-self : goal.invariant_of-self
invariant_of-self c = (first_end (goal.at.invariant_of-self c).In_ok-end).1

pub returns-clause-steps : goal.returns-clause-steps
returns-clause-steps c =
    let f = c.self.inside in
    sym c.self.view_is
    ∙ pieces_first f.spacing f.start f.ends.now c.in_ok-end.end.now c.in_ok-end.ends.now f.bytes.now
    c.in_ok-end.ensures.cases.0
    ∙ ap (λ (t : List ℕ). t ∷ pieces f.spacing c.in_ok-end.end.now c.in_ok-end.ends.now f.bytes.now)
    (sym c.part-message.ensures)

pub returns-clause-goes : goal.returns-clause-goes
returns-clause-goes c =
    let count = ap (λ (t : List (List ℕ)). length t) (returns-clause-steps c) in
    search (rules, count)
