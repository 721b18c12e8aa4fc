use Rattle.std.proofs.Common.{ℕ, List, length, ap, arith}
use Rattle.mold_capture.proofs.EndLemmas.{length-ends}
use Rattle.mold_capture.proofs.ends.Ends.len.Goals as goal

pub returns : goal.returns
returns c =
    let f = c.self.inside in
    omega (arith, length-ends f.same f.width f.later, ap (λ (t : List ℕ). length t) c.self.view_is)
