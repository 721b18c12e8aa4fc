use Rattle.std.proofs.Common.{◌++◌, arith, length-append}
use Rattle.mold_digits.proofs.LaneLemmas.{picked_odds}
use Rattle.mold_digits.proofs.lanes.at_odd_places.Goals as goal

pub returns : goal.returns
returns c =
    picked_odds 16 (c.args.first ++ c.args.second)
    (omega (arith, length-append c.args.first c.args.second, c.fits-first.0, c.fits-second.0))
