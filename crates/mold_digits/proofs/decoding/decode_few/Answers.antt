use Rattle.std.proofs.Common.{arith, refl}
use Rattle.hex.specs.Hex.{decode_pairs}
use Rattle.mold_digits.proofs.DecodingLemmas.{read_all, read_more, read_none}
use Rattle.mold_digits.proofs.decoding.decode_few.Goals as goal

pub bytes-init : goal.bytes-init
unfolding decode_pairs
bytes-init c = read_none _ _ _ refl

pub bytes-preserved : goal.bytes-preserved
bytes-preserved c =
    read_more _ c.bytes.out c.bytes.i _ _ _ (omega arith) (omega arith) c.digit_value-high.ensures
    c.digit_value-low.ensures c.bytes.invariant

pub returns : goal.returns
returns c = read_all _ c.bytes.out c.bytes.i _ (omega arith) (omega arith) c.bytes.invariant
