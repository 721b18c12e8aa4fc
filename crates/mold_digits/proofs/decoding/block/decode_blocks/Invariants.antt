use Rattle.std.proofs.Common.{◌*◌}
use Rattle.mold_digits.specs.Digits.{IsDecodedTo}
use Rattle.mold_digits.proofs.decoding.block.decode_blocks.Given as goal

abbrev pub invariant-whole : goal.invariant-whole
invariant-whole l = IsDecodedTo (l.block * 16) l.digits l.out
