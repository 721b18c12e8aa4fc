use Rattle.std.proofs.Common.{ℕ, bit_and}
use Rattle.std.proofs.lemmas.Simd.{zip2_splat}
use Rattle.mold_digits.proofs.lanes.masked.Goals as goal

pub returns : goal.returns
returns c = zip2_splat (λ (x : ℕ) (y : ℕ). bit_and x y) c.args.lanes 16 c.args.mask c.fits-lanes.0
