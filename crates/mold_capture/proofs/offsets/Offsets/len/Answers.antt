use Rattle.std.proofs.Common.{ℕ, List, length, ap, arith}
use Rattle.mold_capture.proofs.OffsetLemmas.{length-offsets}
use Rattle.mold_capture.proofs.offsets.Offsets.len.Goals as goal

pub returns : goal.returns
returns c =
    let f = c.self.inside in
    omega (arith, length-offsets f.bases.items f.parts.items, ap (λ (t : List ℕ). length t) c.self.view_is)
