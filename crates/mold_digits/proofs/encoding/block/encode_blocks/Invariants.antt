use Rattle.std.proofs.Common.{◌*◌}
use Rattle.mold_digits.specs.Digits.{IsEncodedTo}
use Rattle.mold_digits.proofs.encoding.block.encode_blocks.Given as goal

abbrev pub invariant-whole : goal.invariant-whole
invariant-whole l = IsEncodedTo (l.block * 16) l.bytes l.out
