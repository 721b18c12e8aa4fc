-- The test of digits by their values.
use Rattle.std.proofs.Common.{◌≡◌, ◌∙◌, ℕ, ◌+◌, ◌<◌, ◌&&◌, ltb, Bool, true, false, inl, inr, List, length, take, get_or, slice_index, bit_or}
use Rattle.std.proofs.Common.{Option, Some, None, unwrap_or, is_some, ap, refl, sym, arith}
use Rattle.std.proofs.lemmas.Bool.{cases_lt, le-ltb, lt-ltb}
use Rattle.std.proofs.lemmas.List.Folds.{list_all_more}
use Rattle.std.proofs.lemmas.Nat.{le_or_l, le_or_r, or_lt}
use Rattle.std.specs.List.{list_all}
use Rattle.hex.specs.Hex.{hex_digit_value, is_hex_digit}
use Rattle.mold_digits.specs.Digits.{value_of}

small_value : (c v : ℕ) → hex_digit_value c ≡ Some v → v < 16
small_value c v is = grind (arith)

below : (o : Option ℕ) → ((v : ℕ) → o ≡ Some v → v < 16) → ltb (unwrap_or o 255) 16 ≡ is_some o
below (Some v) small = lt-ltb v 16 (small v refl)
below None small = refl

-- A byte is a digit exactly if its value is below 16.
digit_below : (c v : ℕ) → v ≡ value_of c → ltb v 16 ≡ is_hex_digit c
digit_below c v is = ap (λ (n : ℕ). ltb n 16) is ∙ below (hex_digit_value c) (small_value c)

-- Both values are below 16 exactly if the bits of both are.
both_below : (seen v : ℕ) → ltb (bit_or seen v) 16 ≡ (ltb seen 16 && ltb v 16)
both_below seen v = elim (cases_lt seen 16) [
  | inr large ↦
      let left = le_or_l seen v in
      le-ltb (bit_or seen v) 16 (omega arith) ∙ sym (ap (λ (b : Bool). b && ltb v 16) (le-ltb seen 16 large))
  | inl small ↦
      elim (cases_lt v 16) [
        | inl also ↦
            lt-ltb (bit_or seen v) 16 (or_lt 4 seen v small also)
            ∙ sym (ap (λ (b : Bool). b && ltb v 16) (lt-ltb seen 16 small) ∙ lt-ltb v 16 also)
        | inr large ↦
            let right = le_or_r seen v in
            le-ltb (bit_or seen v) 16 (omega arith)
            ∙ sym (ap (λ (b : Bool). b && ltb v 16) (lt-ltb seen 16 small) ∙ le-ltb v 16 large)
      ]
]

-- One more byte.
pub tested_more : (bytes : List ℕ) (i seen v : ℕ) → i < length bytes → v ≡ value_of (slice_index bytes i) →
    ltb seen 16 ≡ list_all is_hex_digit (take i bytes) →
    ltb (bit_or seen v) 16 ≡ list_all is_hex_digit (take (i + 1) bytes)
tested_more bytes i seen v within value before =
    both_below seen v
    ∙ ap (λ (b : Bool). b && ltb v 16) before
    ∙ ap (λ (b : Bool). list_all is_hex_digit (take i bytes) && b) (digit_below (slice_index bytes i) v value)
    ∙ sym (list_all_more is_hex_digit bytes i 0 within)
