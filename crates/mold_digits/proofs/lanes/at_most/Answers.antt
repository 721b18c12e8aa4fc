use Rattle.mold_digits.proofs.LaneLemmas.{capped_lanes}
use Rattle.mold_digits.proofs.lanes.at_most.Goals as goal

pub returns : goal.returns
returns c = capped_lanes c.args.lanes c.args.cap c.fits-lanes.0
