use Rattle.std.proofs.Common.{ℕ, List, length, ap, arith}
use Rattle.mold_capture.proofs.KeptLemmas.{length-pieces}
use Rattle.mold_capture.proofs.kept.Kept.len.Goals as goal

pub returns : goal.returns
returns c =
    let f = c.self.inside in
    omega (arith, length-pieces f.ends f.bytes.items, ap (λ (t : List (List ℕ)). length t) c.self.view_is)
