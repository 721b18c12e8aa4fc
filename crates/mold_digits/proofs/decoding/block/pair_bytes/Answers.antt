use Rattle.std.proofs.Common.{length, ap, sym, ◌∙◌}
use Rattle.std.proofs.lemmas.Simd.{length-zip2}
use Rattle.mold_digits.specs.Lanes.{pair_byte}
use Rattle.mold_digits.proofs.LaneLemmas.{paired_lanes}
use Rattle.mold_digits.proofs.decoding.block.pair_bytes.Goals as goal

pub returns-clause-value : goal.returns-clause-value
returns-clause-value c = paired_lanes c.args.high c.args.low c.fits-high.0

pub returns-clause-len : goal.returns-clause-len
returns-clause-len c =
    ap length (paired_lanes c.args.high c.args.low c.fits-high.0)
    ∙ length-zip2 pair_byte c.args.high c.args.low (c.fits-high.0 ∙ sym c.fits-low.0)
    ∙ c.fits-high.0
