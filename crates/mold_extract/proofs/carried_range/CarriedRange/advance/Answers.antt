use Rattle.std.proofs.Common.{sym, ◌∙◌}
use Rattle.mold_extract.specs.Run.{left}
use Rattle.mold_extract.proofs.BetweenLemmas.{between_absent, between_none}
use Rattle.mold_extract.proofs.RunLemmas.{agrees_next, if_none, later_next, later_none, run_next}
use Rattle.mold_extract.proofs.carried_range.CarriedRange.advance.Goals as goal

pub returns-then-self-clause-none : goal.returns-then-self-clause-none
returns-then-self-clause-none c =
    let range = c.self.inside in
    sym c.self.view_is ∙ between_none range.checker.now.pairs range.next range.below c.if-self.true

pub invariant_of-self : goal.invariant_of-self
invariant_of-self c =
    let range = c.self.inside in
    agrees_next range.checker.now.pairs range.next (left range.messages) _ (left c.next_of.new.messages)
    c.self.invariant c.in-Some.ensures.next

pub returns-in-Some-clause-next : goal.returns-in-Some-clause-next
returns-in-Some-clause-next c =
    let range = c.self.inside in
    sym c.self.view_is
    ∙ run_next range.checker.now.pairs range.next range.below (left range.messages) _ (left c.next_of.new.messages)
    c.if-self.false c.self.invariant c.in-Some.ensures.next

pub returns-in_err-run-clause-none : goal.returns-in_err-run-clause-none
returns-in_err-run-clause-none c =
    let range = c.self.inside in
    if_none c.from_residual.result
    (sym c.self.view_is ∙ between_absent range.checker.now.pairs range.next range.below c.in_err-run.ensures.none)

pub returns-then-run-self-clause-none : goal.returns-then-run-self-clause-none
returns-then-run-self-clause-none c =
    let range = c.self.inside in
    let run = c.in_ok-run in
    sym c.self.view_is
    ∙ later_none range.checker.now.pairs range.next run.run'.first range.below run.ensures.first run.ensures.before
    c.if-run-self.true

pub invariant_of-self-2 : goal.invariant_of-self-2
invariant_of-self-2 c =
    let run = c.in_ok-run in
    agrees_next c.self.inside.checker.now.pairs run.run'.first run.run'.messages _ c.next.new.self run.ensures.carried
    c.in_ok-message.ensures.steps

pub returns-clause-next : goal.returns-clause-next
returns-clause-next c =
    let range = c.self.inside in
    let run = c.in_ok-run in
    sym c.self.view_is
    ∙ later_next range.checker.now.pairs range.next run.run'.first range.below run.run'.messages _ c.next.new.self
    run.ensures.first run.ensures.before c.if-run-self.false run.ensures.carried c.in_ok-message.ensures.steps
