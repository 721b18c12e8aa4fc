use Rattle.std.proofs.Common.{◌≡◌, ℕ, ◌-◌, ◌<◌, ◌≤◌, List, subst, sym, ◌∙◌, ap}
use Rattle.std.specs.FinMap as finite
use Rattle.std.specs.Prelude.{Some}
use Rattle.mold_rule.specs.Ranges as lacking
use Rattle.mold_capture.specs.Runs.{carried}
use Rattle.mold_capture.specs.Seen.{Pairs}
use Rattle.mold_capture.specs.Verdict.{lacks}
use Rattle.mold_capture.proofs.CheckerLemmas.{ok_then}
use Rattle.mold_capture.proofs.GapLemmas.{Walks, gaps_are}
use Rattle.mold_capture.proofs.carried.Carried.missing.Goals as goal

pub returns : goal.returns
returns c =
    let f = c.self.inside in
    let pairs = carried f.runs f.kept in
    let law = c.ranges_walk_law.ensures in
    let walks : Walks (lacks pairs) = record {
      none = law.none (lacks pairs);
      skip = law.skip (lacks pairs);
      run = law.run (lacks pairs);
    }
    in
    let within = subst
    (λ (p : Pairs). (q : ℕ) (m : List ℕ) → finite.get p q ≡ Some m → (1 ≤ q) × (q < c.args.known))
    (sym c.self.view_is) c.requires.within
    in
    let same = gaps_are f.runs f.kept c.self.invariant c.args.known c.requires.some walks within
    ∙ ap (λ (p : Pairs). lacking.ranges (lacks p) 1 (c.args.known - 1)) c.self.view_is
    in
    ok_then c.find_gaps.result _ _ (λ missing is. is ∙ same) c.find_gaps.ensures
