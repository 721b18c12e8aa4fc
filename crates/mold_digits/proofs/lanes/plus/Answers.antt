use Rattle.std.proofs.Common.{ℕ, ◌+◌, ◌%◌}
use Rattle.std.proofs.lemmas.Simd.{zip2_splat}
use Rattle.mold_digits.proofs.lanes.plus.Goals as goal

pub returns : goal.returns
returns c = zip2_splat (λ (x : ℕ) (y : ℕ). (x + y) % 256) c.args.lanes 16 c.args.amount c.fits-lanes.0
