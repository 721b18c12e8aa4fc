use Rattle.std.proofs.Common.{arith}
use Rattle.mold_digits.proofs.LaneLemmas.{picked_woven}
use Rattle.mold_digits.proofs.lanes.woven_front.Goals as goal

pub returns : goal.returns
returns c = picked_woven 0 8 c.args.high c.args.low c.fits-high.0 c.fits-low.0 (omega arith)
