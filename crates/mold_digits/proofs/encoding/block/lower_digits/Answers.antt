use Rattle.std.proofs.Common.{arith}
use Rattle.std.proofs.lemmas.Simd.{SwzOk-from_below}
use mir.Syntax.{w8}
use Rattle.mold_digits.proofs.LaneLemmas.{looked_up}
use Rattle.mold_digits.proofs.encoding.block.lower_digits.Goals as goal

pub swizzle : goal.swizzle
swizzle c = SwzOk-from_below w8 16 1 16 0 c.args.values (omega arith) (omega (arith, c.fits-values.0)) c.requires

pub returns : goal.returns
returns c = looked_up c.args.values c.fits-values.0 c.requires
