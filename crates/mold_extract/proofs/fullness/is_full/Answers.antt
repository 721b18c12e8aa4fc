use Rattle.std.proofs.Common.{arith}
use Rattle.mold_extract.proofs.FullLemmas.{carried_more, hole_at}
use Rattle.mold_extract.proofs.fullness.is_full.Goals as goal

pub returns-in_default-clause-holes : goal.returns-in_default-clause-holes
returns-in_default-clause-holes c = λ same.
    hole_at c.args.checker.now c.args.first c.args.below c.loop-next.next c.loop-next.invariant.from
    (omega (arith, c.loop-next-test.true, c.end_before-end.ensures))
    (c.in_default.ensures.none c.loop-next.next (omega arith))

pub returns-then-run-next-clause-holes : goal.returns-then-run-next-clause-holes
returns-then-run-next-clause-holes c = λ same.
    hole_at c.args.checker.now c.args.first c.args.below c.loop-next.next c.loop-next.invariant.from
    (omega (arith, c.loop-next-test.true, c.end_before-end.ensures))
    (c.in-Some.ensures.before c.loop-next.next (omega arith)
    (omega (arith, c.in-Some.ensures.first, c.if-run-next.true)))

pub loop-next-preserved : goal.loop-next-preserved
loop-next-preserved c =
    let run = c.in-Some in
    carried_more c.args.checker.now.pairs c.args.first c.loop-next.next run.run'.first c.len.result run.run'.messages
    c.loop-next.invariant (omega (arith, c.if-run-next.false)) c.len.ensures run.ensures.carried
