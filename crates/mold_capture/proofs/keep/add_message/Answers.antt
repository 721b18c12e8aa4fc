use Rattle.std.proofs.Common.{◌<◌, ◌^◌, ℕ, List, [], ◌∷◌, length, ap, subst, sym, ◌∙◌, arith}
use Rattle.mold_capture.specs.Runs.{pairs_of, AreRuns, IsGrown}
use Rattle.mold_capture.proofs.GrowLemmas.{Growth, are_grown, carried_grown, since_grown}
use Rattle.mold_capture.proofs.keep.add_message.Goals as goal

growth : (c : goal.In-Ok) →
    Growth c.args.runs.now c.put_run.new.runs c.args.kept.now (c.args.message.now ∷ []) c.args.number
    c.grown_run-first.result.0 c.grown_run-first.result.1
growth c = record {
  are = c.requires.are;
  some = omega arith;
  few = c.requires.few;
  fits =
      subst (λ (t : List (List ℕ)). length t < 2 ^ 64) c.in_ok-push.ensures.added
      (omega (arith, c.len-len-2.ensures, c.len-len-2.type_inv));
  free = c.requires.free;
  grown =
      subst (λ (len : ℕ). IsGrown c.args.runs.now len c.args.number 1 c.grown_run-first.result.0 c.grown_run-first.result.1)
      c.len-len.ensures c.grown_run-first.ensures.grown;
  put = c.in-Ok.ensures.put;
  ordered = c.put_run.ensures.ordered;
}

pub returns-in-Ok-clause-are : goal.returns-in-Ok-clause-are
returns-in-Ok-clause-are c =
    subst (λ (t : List (List ℕ)). AreRuns c.put_run.new.runs (length t)) (sym c.in_ok-push.ensures.added)
    (are_grown _ _ _ _ _ _ _ (growth c))

pub returns-in-Ok-clause-ok : goal.returns-in-Ok-clause-ok
returns-in-Ok-clause-ok c =
    ap (pairs_of c.put_run.new.runs.entries) c.in_ok-push.ensures.added ∙ carried_grown _ _ _ _ _ _ _ (growth c)

pub returns-in-Ok-clause-since : goal.returns-in-Ok-clause-since
returns-in-Ok-clause-since c = λ before are since.
    since_grown before _ _ _ _ _ _ _ c.args.since (growth c) are c.grown_run-first.ensures.since since
