use Rattle.std.proofs.Common.{◌≡◌, ℕ, ◌-◌, ◌<◌, List, length, length-append, take, sym, ap, subst, ◌∙◌, arith}
use Rattle.mold_messages.specs.Listed.{Listed}
use Rattle.mold_session.specs.Publisher.{PublisherState, retracted}
use Rattle.mold_unsent.specs.Unsent.{publisher_of}
use Rattle.mold_unsent.proofs.UnsentLemmas.{retracts, still_unsent}
use Rattle.mold_unsent.proofs.unsent_publisher.UnsentPublisher.retract.Goals.{After-truncate}
use Rattle.mold_unsent.proofs.unsent_publisher.UnsentPublisher.retract.Goals as goal

-- A message in memory was not packed.
one_unpacked : (c : After-truncate) → c.self.inside.packed < length c.self.inside.list.messages
one_unpacked c =
    let f = c.self.inside in
    let unsent = subst (λ (p : PublisherState). p.sent < length p.journal.messages) (sym c.self.view_is)
    c.requires.unsent
    in
    omega (arith, unsent, length-append f.earlier.messages f.list.messages)

-- The list lost its last message.
without_last : (c : After-truncate) → c.truncate.new.self.messages
    ≡ take (length c.self.inside.list.messages - 1) c.self.inside.list.messages
without_last c =
    ap (λ (l : Listed). l.messages) c.truncate.ensures
    ∙ ap (λ (n : ℕ). take n c.self.inside.list.messages)
    (c.saturating_sub.ensures ∙ ap (λ (n : ℕ). n - 1) c.len-count.ensures)

pub invariant_of-self : goal.invariant_of-self
invariant_of-self c =
    let f = c.self.inside in
    let at = (goal.at.invariant_of-self c).After-truncate in
    still_unsent f.earlier f.list.messages c.truncate.new.self.messages f.packed f.packer.limit (without_last at)
    (one_unpacked at) c.self.invariant

pub returns : goal.returns
returns c =
    let f = c.self.inside in
    let at = (goal.at.returns c).After-truncate in
    ap (λ (t : List (List ℕ)). publisher_of f.earlier t f.packed f.packer.limit) (without_last at)
    ∙ retracts f.earlier f.list.messages f.packed f.packer.limit (omega (arith, one_unpacked at))
    ∙ ap retracted c.self.view_is
