-- Two ten-byte names are equal exactly when the numbers in their first eight and in their last two bytes are
-- equal.
use Rattle.std.proofs.Common.{◌≡◌, ℕ, List, ◌++◌, length, length-drop, drop, sym, ap, ◌∙◌, arith}
use Rattle.std.proofs.lemmas.List.{take_all, take-append-drop}
use Rattle.byteorder.specs.Endian.{big_number}
use Rattle.mold_wire.specs.Block.{IsBytes, be16, be64}
use Rattle.mold_wire.proofs.ReadingLemmas.{IsBytes-drop, be16-read, be64-read}

-- Ten bytes are the encodings of the numbers that their first eight and last two bytes read as.
in_numbers : (name : List ℕ) → IsBytes name → length name ≡ 10 →
    name ≡ be64 (big_number 8 name) ++ be16 (big_number 2 (drop 8 name))
in_numbers name fits ten =
    let behind : length (drop 8 name) ≡ 2 = omega (arith, length-drop 8 name) in
    sym (take-append-drop 8 name)
    ∙ ap (λ (t : List ℕ). t ++ drop 8 name) (sym (be64-read name fits (omega arith)))
    ∙ ap (λ (t : List ℕ). be64 (big_number 8 name) ++ t)
    (sym (take_all 2 (drop 8 name) (omega arith))
    ∙ sym (be16-read (drop 8 name) (IsBytes-drop 8 name fits) (omega arith)))

pub same_numbers : (name other : List ℕ) → IsBytes name → IsBytes other → length name ≡ 10 → length other ≡ 10 →
    big_number 8 name ≡ big_number 8 other → big_number 2 (drop 8 name) ≡ big_number 2 (drop 8 other) → name ≡ other
same_numbers name other fits other_fits ten other_ten front back =
    in_numbers name fits ten
    ∙ (λ i. be64 (front i) ++ be16 (back i))
    ∙ sym (in_numbers other other_fits other_ten)
