use Rattle.std.proofs.Common.{◌≡◌, ◌+◌, ◌-◌, ◌*◌, length, arith, refl}
use Rattle.hex.proofs.HexLemmas.{decode_of-even}
use Rattle.hex.specs.Hex.{decode_pairs}
use Rattle.mold_digits.proofs.BlockLemmas.{blocks_all, blocks_more, blocks_refused, decoded_front}
use Rattle.mold_digits.proofs.DecodingLemmas.{match_err}
use Rattle.mold_digits.proofs.decoding.block.decode_blocks.Goals as goal

pub whole-init : goal.whole-init
unfolding decode_pairs
whole-init c = refl

pub whole-preserved : goal.whole-preserved
whole-preserved c =
    let next : c.whole.block * 16 + 16 ≡ (c.whole.block + 1) * 16 = omega arith in
    let read =
    blocks_more c.args.digits.now c.whole.out c.decode_block.new.out (c.whole.block * 16) _ (omega arith)
    c.whole.invariant c.decode_block.ensures c.if-not-decode_block.false in
    rw next at read

pub returns-then-not-decode_block : goal.returns-then-not-decode_block
returns-then-not-decode_block c =
    rw (decode_of-even c.args.digits.now (omega arith))
    (match_err (decode_pairs 0 c.args.digits.now) _ _
    (blocks_refused c.args.digits.now c.whole.out c.decode_block.new.out (c.whole.block * 16) _ (omega arith)
    c.whole.invariant c.decode_block.ensures c.if-not-decode_block.true) refl)

pub returns : goal.returns
returns c =
    let front =
    decoded_front c.args.digits.now c.whole.out (length c.whole.out - 16) (c.whole.block * 16) (omega arith)
    (omega arith) c.whole.invariant in
    blocks_all c.args.digits.now c.whole.out c.decode_block-2.new.out (length c.whole.out - 16) _ (omega arith)
    (omega arith) front c.decode_block-2.ensures
