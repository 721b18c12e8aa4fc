use Rattle.std.proofs.Common.{◌≡◌, ◌<◌, ◌^◌, ℕ, List, length, ap, subst, sym, ◌∙◌, arith}
use Rattle.mold_capture.specs.Runs.{pairs_of, AreRuns, IsGrown}
use Rattle.mold_capture.proofs.GrowLemmas.{Growth, are_grown, carried_grown}
use Rattle.mold_capture.proofs.keep.add_all.Goals as goal

growth : (c : goal.In-Ok) →
    Growth c.args.runs.now c.put_run.new.runs c.args.kept.now c.args.blocks.now c.args.first
    c.grown_run-begin.result.0 c.grown_run-begin.result.1
growth c =
    let count : c.from.result ≡ length c.args.blocks.now = omega (arith, c.from.ensures, c.len.ensures.length) in
    record {
      are = c.requires.are;
      some = c.len.ensures.range.0;
      few = c.requires.few;
      fits =
          subst (λ (t : List (List ℕ)). length t < 2 ^ 64) c.in_default.ensures.ok
          (omega (arith, c.len-len.ensures, c.len-len.type_inv));
      free = c.requires.free;
      grown =
          subst (λ (n : ℕ). IsGrown c.args.runs.now (length c.args.kept.now) c.args.first n c.grown_run-begin.result.0
          c.grown_run-begin.result.1) count
          (subst (λ (len : ℕ). IsGrown c.args.runs.now len c.args.first c.from.result c.grown_run-begin.result.0
          c.grown_run-begin.result.1) c.len-start.ensures c.grown_run-begin.ensures.grown);
      put = c.in-Ok.ensures.put;
      ordered = c.put_run.ensures.ordered;
    }

pub returns-in-Ok-clause-are : goal.returns-in-Ok-clause-are
returns-in-Ok-clause-are c =
    subst (λ (t : List (List ℕ)). AreRuns c.put_run.new.runs (length t)) (sym c.in_default.ensures.ok)
    (are_grown _ _ _ _ _ _ _ (growth c))

pub returns-in-Ok-clause-ok : goal.returns-in-Ok-clause-ok
returns-in-Ok-clause-ok c =
    ap (pairs_of c.put_run.new.runs.entries) c.in_default.ensures.ok ∙ carried_grown _ _ _ _ _ _ _ (growth c)
