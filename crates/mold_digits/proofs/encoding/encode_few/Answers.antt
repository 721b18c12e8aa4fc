use Rattle.std.proofs.Common.{ℕ, slice_index, ap, arith, ◌∙◌}
use Rattle.std.proofs.lemmas.Nat.{and_mask}
use Rattle.hex.proofs.Pairs.{encode_done, encode_step}
use Rattle.hex.specs.Hex.{lower_digits}
use Rattle.mold_digits.proofs.encoding.encode_few.Goals as goal

pub bytes-preserved : goal.bytes-preserved
bytes-preserved c =
    let byte : ℕ = slice_index c.args.bytes.now c.bytes.i in
    let low = c.lower_digit-in-bytes.ensures ∙ ap (λ (k : ℕ). slice_index lower_digits k) (and_mask byte 4) in
    encode_step lower_digits c.args.bytes.now c.bytes.out c.bytes.i _ _ (omega arith) (omega arith)
    c.lower_digit.ensures low c.bytes.invariant

pub returns : goal.returns
returns c = encode_done _ _ _ c.bytes.i (omega arith) (omega arith) c.bytes.invariant
