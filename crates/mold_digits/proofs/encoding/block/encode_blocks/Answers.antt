use Rattle.std.proofs.Common.{◌≡◌, ◌+◌, ◌-◌, ◌*◌, length, arith, refl}
use Rattle.hex.specs.Hex.{encode_with}
use Rattle.mold_digits.proofs.EncodingLemmas.{encoded_all, encoded_front, encoded_more}
use Rattle.mold_digits.proofs.encoding.block.encode_blocks.Goals as goal

pub whole-init : goal.whole-init
unfolding encode_with
whole-init c = refl

pub whole-preserved : goal.whole-preserved
whole-preserved c =
    let next : c.whole.block * 16 + 16 ≡ (c.whole.block + 1) * 16 = omega arith in
    let written =
    encoded_more c.args.bytes.now c.whole.out c.encode_block.new.out (c.whole.block * 16) (omega arith)
    c.whole.invariant c.encode_block.ensures in
    rw next at written

pub returns : goal.returns
returns c =
    let front =
    encoded_front c.args.bytes.now c.whole.out (length c.args.bytes.now - 16) (c.whole.block * 16) (omega arith)
    c.whole.invariant in
    let whole =
    encoded_more c.args.bytes.now c.whole.out c.encode_block-2.new.out (length c.args.bytes.now - 16) (omega arith)
    front c.encode_block-2.ensures in
    encoded_all c.args.bytes.now c.encode_block-2.new.out (length c.args.bytes.now - 16 + 16) (omega arith)
    (omega arith) whole
