use Rattle.mold_digits.proofs.LaneLemmas.{smaller_lanes}
use Rattle.mold_digits.proofs.lanes.smaller.Goals as goal

pub returns : goal.returns
returns c = smaller_lanes c.args.first c.args.second
