use Rattle.std.proofs.Common.{◌-◌, arith, sym, ◌∙◌}
use Rattle.mold_frame.specs.Lent.{lent_tagged}
use Rattle.mold_frame.specs.Link.{untagged}
use Rattle.mold_frame.proofs.StepLemmas.{all_made, stepped, stopped}
use Rattle.mold_frame.proofs.tagged.Tagged.after_tags.Goals as goal

pub returns-in_default : goal.returns-in_default
returns-in_default c =
    sym (stopped untagged (2 - c.loop.counter) (lent_tagged c.loop.tagged) (sym c.in_default.ensures))
    ∙ c.loop.invariant

pub loop-preserved : goal.loop-preserved
loop-preserved c =
    sym (stepped untagged 2 c.loop.counter (lent_tagged c.loop.tagged) (lent_tagged c.in-Some.next)
    (omega (arith, c.loop-test.true)) (sym c.in-Some.ensures))
    ∙ c.loop.invariant

pub returns : goal.returns
returns c =
    sym (all_made untagged 2 c.loop.counter (lent_tagged c.loop.tagged) (omega (arith, c.loop-test.false)))
    ∙ c.loop.invariant
