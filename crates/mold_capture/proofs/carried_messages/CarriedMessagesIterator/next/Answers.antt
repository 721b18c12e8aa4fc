use Rattle.std.proofs.Common.{ap, sym, ◌∙◌, arith}
use Rattle.std.specs.Option.{option_copied}
use Rattle.mold_capture.proofs.RunLemmas.{part_first}
use Rattle.mold_capture.proofs.carried_messages.CarriedMessagesIterator.next.Goals as goal

pub overflow_add-self : goal.overflow_add-self
overflow_add-self c = omega (arith, c.self.invariant.1, c.if-self-eq0.false)

pub returns-clause-steps : goal.returns-clause-steps
returns-clause-steps c =
    let f = c.self.inside in
    sym c.self.view_is
    ∙ part_first f.kept.now f.next f.left c.in_ok-message.message.now
    (sym c.get.ensures ∙ ap option_copied c.in_ok-message.was)
    (omega (arith, c.if-self-eq0.false))
