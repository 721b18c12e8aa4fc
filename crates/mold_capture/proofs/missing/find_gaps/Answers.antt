use Rattle.std.proofs.Common.{◌+◌, ◌++◌, ℕ, List, ◌∷◌, ap, sym, subst, ◌∙◌, arith, append_assoc}
use Rattle.std.specs.List.{All}
use Rattle.mold_rule.specs.Ranges as lacking
use Rattle.mold_capture.specs.declared.run.Run.{Run}
use Rattle.mold_capture.specs.declared.verdict.Range.{Range}
use Rattle.mold_capture.specs.Runs.{HasRun}
use Rattle.mold_capture.specs.Verdict.{gap, gaps, ranges_of}
use Rattle.std.proofs.lemmas.List.Elements.{All-head, All-tail}
use Rattle.mold_capture.proofs.missing.find_gaps.Goals as goal

pub loop-first-init : goal.loop-first-init
loop-first-init c =
    let gives = c.into_iter-first-iterator.ensures.into_iter_gives in
    record {
      same =
          ap (λ (t : List Range). ranges_of t ++ gaps 1 c.into_iter-first-iterator.result c.args.known) c.new-missing.ensures.items
          ∙ ap (λ (es : List (ℕ × Run)). gaps 1 es c.args.known) gives.0;
      there = subst (All (λ (e : ℕ × Run). HasRun c.args.runs.now e.0 e.1)) (sym gives.0) gives.6;
    }

-- The current run and the runs after it are in the map.
there : (c : goal.In_ok-push_gap) →
    All (λ (e : ℕ × Run). HasRun c.args.runs.now e.0 e.1) ((c.in-Some.first.now, c.in-Some.run'.now) ∷ c.next.new.self)
there c =
    subst (All (λ (e : ℕ × Run). HasRun c.args.runs.now e.0 e.1)) c.in-Some.ensures.steps c.loop-first.invariant.there

pub overflow_add-next : goal.overflow_add-next
overflow_add-next c =
    let has = All-head (λ (e : ℕ × Run). HasRun c.args.runs.now e.0 e.1) (c.in-Some.first.now, c.in-Some.run'.now)
    c.next.new.self (there c)
    in
    omega (arith, c.requires.few c.in-Some.first.now c.in-Some.run'.now has)

pub loop-first-preserved : goal.loop-first-preserved
loop-first-preserved c =
    let rest = gaps (c.in-Some.first.now + c.in-Some.run'.now.count) c.next.new.self c.args.known in
    record {
      same =
          ap (λ (t : List lacking.Range). t ++ rest) c.in_ok-push_gap.ensures
          ∙ append_assoc (ranges_of c.loop-first.missing.items) (gap c.loop-first.next c.in-Some.first.now) rest
          ∙ ap (λ (es : List (ℕ × Run)). ranges_of c.loop-first.missing.items ++ gaps c.loop-first.next es c.args.known)
          (sym c.in-Some.ensures.steps)
          ∙ c.loop-first.invariant.same;
      there =
          All-tail (λ (e : ℕ × Run). HasRun c.args.runs.now e.0 e.1) (c.in-Some.first.now, c.in-Some.run'.now)
          c.next.new.self (there c);
    }
