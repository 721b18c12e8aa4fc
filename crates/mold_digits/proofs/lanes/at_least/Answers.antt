use Rattle.mold_digits.proofs.LaneLemmas.{raised_lanes}
use Rattle.mold_digits.proofs.lanes.at_least.Goals as goal

pub returns : goal.returns
returns c = raised_lanes c.args.lanes c.args.floor c.fits-lanes.0
