use Rattle.std.proofs.Common.{ℕ, ◌/◌, ◌^◌}
use Rattle.std.proofs.lemmas.Simd.{zip2_splat}
use Rattle.mold_digits.proofs.lanes.high_halves.Goals as goal

pub returns : goal.returns
returns c = zip2_splat (λ (x : ℕ) (y : ℕ). x / 2 ^ y) c.args.lanes 16 4 c.fits-lanes.0
