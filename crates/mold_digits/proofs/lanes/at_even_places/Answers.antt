use Rattle.std.proofs.Common.{◌++◌, arith, length-append}
use Rattle.mold_digits.proofs.LaneLemmas.{picked_evens}
use Rattle.mold_digits.proofs.lanes.at_even_places.Goals as goal

pub returns : goal.returns
returns c =
    picked_evens 16 (c.args.first ++ c.args.second)
    (omega (arith, length-append c.args.first c.args.second, c.fits-first.0, c.fits-second.0))
