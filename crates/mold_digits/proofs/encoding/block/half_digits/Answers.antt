use Rattle.std.proofs.Common.{List, ℕ, ap, length, refl, ◌∙◌}
use Rattle.std.specs.Simd.Lanes.{chunk}
use Rattle.hex.specs.Hex.{encode_lower}
use Rattle.mold_digits.proofs.EncodingLemmas.{first_half, paired, second_half}
use Rattle.mold_digits.proofs.encoding.block.half_digits.Goals as goal

pub returns-clause-front : goal.returns-clause-front
returns-clause-front c =
    let both =
    paired c.copy_from_slice.new.self _ c.copy_from_slice-2.new.self c.copy_from_slice.ensures.len refl
    (ap (λ (t : List ℕ). length t) c.copy_from_slice-2.ensures.after ∙ c.requires.second) in
    c.digits.ensures.front
    ∙ ap (λ (t : List ℕ). encode_lower (chunk 0 8 t)) both
    ∙ ap encode_lower (first_half c.copy_from_slice.new.self _ c.copy_from_slice.ensures.len ∙ c.copy_from_slice.ensures.after)

pub returns-clause-back : goal.returns-clause-back
returns-clause-back c =
    let second = ap (λ (t : List ℕ). length t) c.copy_from_slice-2.ensures.after ∙ c.requires.second in
    let both =
    paired c.copy_from_slice.new.self _ c.copy_from_slice-2.new.self c.copy_from_slice.ensures.len refl second in
    c.digits.ensures.back
    ∙ ap (λ (t : List ℕ). encode_lower (chunk 8 8 t)) both
    ∙ ap encode_lower
    (second_half c.copy_from_slice.new.self _ c.copy_from_slice.ensures.len second ∙ c.copy_from_slice-2.ensures.after)
