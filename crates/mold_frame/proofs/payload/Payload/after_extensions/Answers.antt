use Rattle.std.proofs.Common.{◌-◌, arith, sym, ◌∙◌}
use Rattle.mold_frame.specs.Ipv6.{passed}
use Rattle.mold_frame.specs.Lent.{lent_payload}
use Rattle.mold_frame.proofs.StepLemmas.{all_made, stepped, stopped}
use Rattle.mold_frame.proofs.payload.Payload.after_extensions.Goals as goal

pub returns-in_default : goal.returns-in_default
returns-in_default c =
    sym (stopped passed (8 - c.loop.counter) (lent_payload c.loop.payload) (sym c.in_default.ensures))
    ∙ c.loop.invariant

pub loop-preserved : goal.loop-preserved
loop-preserved c =
    sym (stepped passed 8 c.loop.counter (lent_payload c.loop.payload) (lent_payload c.in-Some.next)
    (omega (arith, c.loop-test.true)) (sym c.in-Some.ensures))
    ∙ c.loop.invariant

pub returns : goal.returns
returns c =
    sym (all_made passed 8 c.loop.counter (lent_payload c.loop.payload) (omega (arith, c.loop-test.false)))
    ∙ c.loop.invariant
