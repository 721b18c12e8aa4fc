use Rattle.std.proofs.Common.{refl, ◌∙◌}
use Rattle.mold_check.proofs.ContentLemmas.{start_all, start_more}
use Rattle.mold_check.proofs.LineLemmas.{taken_none}
use Rattle.mold_check.proofs.lines.read_lines_over.Goals as goal

pub lines-init : goal.lines-init
lines-init g c = record {
  taken = taken_none g.J.Judge.judging _ _ _ _ c.in_ok-lines.ensures c.over-check.ensures;
  failed = refl;
}

pub returns-then-not-branch-clause-taken : goal.returns-then-not-branch-clause-taken
returns-then-not-branch-clause-taken g c =
    start_all g.J.Judge.judging _ _ _ _ _ _ c.lines.invariant.taken (rw c.if-not-branch.true at c.in_ok-advance.ensures.line)

pub lines-preserved : goal.lines-preserved
lines-preserved g c = record {
  taken =
      start_more g.J.Judge.judging c.fault_law.ensures _ _ _ _ _ _ c.line.result.now c.lines.invariant.taken
      (rw (c.if-not-branch.false, ← c.line.ensures) at c.in_ok-advance.ensures.line) c.in_ok-take.ensures;
  failed = c.in_ok-advance.ensures.failures ∙ c.lines.invariant.failed;
}
