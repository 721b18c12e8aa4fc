use Rattle.mold_digits.proofs.LaneLemmas.{large_lanes}
use Rattle.mold_digits.proofs.decoding.block.has_large.Goals as goal

pub returns : goal.returns
returns c = large_lanes c.args.high c.args.low c.fits-high.0 c.fits-low.0
