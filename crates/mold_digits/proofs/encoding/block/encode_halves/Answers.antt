use Rattle.std.proofs.Common.{◌-◌, length, arith}
use Rattle.mold_digits.proofs.EncodingLemmas.{halves_written}
use Rattle.mold_digits.proofs.encoding.block.encode_halves.Goals as goal

pub returns : goal.returns
returns c =
    halves_written c.args.bytes.now c.args.out.now _ _ (length c.args.bytes.now - 8) c.requires.sized c.requires.few
    (omega (arith, c.requires.enough)) c.half_digits.ensures.front c.half_digits.ensures.back
