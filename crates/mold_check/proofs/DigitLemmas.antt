-- Decoded hexadecimal digits are bytes.
use Rattle.std.proofs.Common.{◌≡◌, ℕ, zero, suc, ◌+◌, ◌*◌, ◌-◌, ◌%◌, ◌<◌, Bool, true, false, cond, ◌&&◌, List, [], ◌∷◌, length, get_or}
use Rattle.std.proofs.Common.{refl, subst, arith, inl, inr, ◌⊎◌}
use Rattle.std.specs.Prelude.{Option, None, Some, Result, Ok, Err, ◌==◌, nat_le}
use Rattle.std.specs.List.{All}
use Rattle.std.proofs.lemmas.Bool.{and_parts, leb-true}
use Rattle.std.proofs.lemmas.List.Elements.{All-cons, All-nil}
use Rattle.hex.specs.Hex.{decode_of, decode_pairs, digit_or_error, hex_digit_value, pair_value, value_at, ◌>>=◌}
use Rattle.hex.specs.declared.error.FromHexError.{FromHexError}
use Rattle.hex.specs.declared.error.FromHexError.TheVariants.{OddLength}
use Rattle.mold_wire.specs.Block.{IsBytes}
use Rattle.mold_check.specs.CheckLines.{datagrams_of, spelled_before}

same_ok : {A : Type 0} (x y : A) → ◌≡◌ {A = Result A FromHexError} (Ok x) (Ok y) → x ≡ y
same_ok x y is = cc

err_ok : {A P : Type 0} (e : FromHexError) (x : A) → ◌≡◌ {A = Result A FromHexError} (Err e) (Ok x) → P
err_ok e x is = absurd (cc)

-- The value of a digit that is in one of the ranges.
in_range : (test : Bool) (value found : ℕ) (other : Option ℕ) → cond test (Some value) other ≡ Some found →
    ((test ≡ true) × (value ≡ found)) ⊎ (other ≡ Some found)
in_range true value found other is = inl (refl, cc)
in_range false value found other is = inr is

small_between : (low high base c found : ℕ) → (nat_le low c && nat_le c high) ≡ true → c - base ≡ found →
    high < base + 16 → found < 16
small_between low high base c found within is few =
    let parts = and_parts (nat_le low c) (nat_le c high) within in
    omega (arith, leb-true c high parts.1)

digit_small : (c found : ℕ) → hex_digit_value c ≡ Some found → found < 16
digit_small c found is = elim (in_range (nat_le 65 c && nat_le c 70) (c - 55) found _ is) [
  | inl upper ↦ small_between 65 70 55 c found upper.0 upper.1 (omega arith)
  | inr others ↦ elim (in_range (nat_le 97 c && nat_le c 102) (c - 87) found _ others) [
    | inl lower ↦ small_between 97 102 87 c found lower.0 lower.1 (omega arith)
    | inr last ↦ elim (in_range (nat_le 48 c && nat_le c 57) (c - 48) found None last) [
      | inl decimal ↦ small_between 48 57 48 c found decimal.0 decimal.1 (omega arith)
      | inr none ↦ absurd (cc)
    ]
  ]
]

value_small : (c i found : ℕ) → value_at c i ≡ Ok found → found < 16
value_small c i found is = by_value (hex_digit_value c) refl is
  where
    by_value : (value : Option ℕ) → hex_digit_value c ≡ value → digit_or_error c i value ≡ Ok found → found < 16
    by_value None same so = err_ok _ _ so
    by_value (Some v) same so = subst (λ (n : ℕ). n < 16) (same_ok v found so) (digit_small c v same)

-- The result of two steps that both succeed.
two_steps : {A B C : Type 0} (one : Result A FromHexError) (two : Result B FromHexError) (join : A → B → C) (found : C) →
    (one >>= (λ a. two >>= (λ b. Ok (join a b)))) ≡ Ok found →
    (a : A) × (b : B) × (one ≡ Ok a) × (two ≡ Ok b) × (join a b ≡ found)
two_steps (Ok a) (Ok b) join found is = (a, b, refl, refl, same_ok _ _ is)
two_steps (Ok a) (Err e) join found is = err_ok _ _ is
two_steps (Err e) two join found is = err_ok _ _ is

pair_byte : (high low i byte : ℕ) → pair_value high low i ≡ Ok byte → byte < 256
pair_byte high low i byte is =
    let steps = two_steps (value_at high i) (value_at low (i + 1)) (λ h l. h * 16 + l) byte is in
    let first = value_small high i steps.0 steps.2 in
    let second = value_small low (i + 1) steps.1 steps.3 in
    omega (arith, first, second, steps.4)

bytes_more : (byte : ℕ) (bytes : List ℕ) → byte < 256 → IsBytes bytes → IsBytes (byte ∷ bytes)
bytes_more byte bytes small are = λ i. at i
  where
    at : (i : ℕ) → get_or (byte ∷ bytes) i 0 < 256
    at zero = small
    at (suc i) = are i

pairs_bytes : (i : ℕ) (digits bytes : List ℕ) → decode_pairs i digits ≡ Ok bytes → IsBytes bytes
unfolding decode_pairs
pairs_bytes i [] bytes is = subst IsBytes (same_ok [] bytes is) (λ k. omega arith)
pairs_bytes i (digit ∷ []) bytes is = err_ok _ _ is
pairs_bytes i (high ∷ low ∷ rest) bytes is =
    let steps = two_steps (pair_value high low i) (decode_pairs (i + 2) rest) (λ byte more. byte ∷ more) bytes is in
    subst IsBytes steps.4
    (bytes_more steps.0 steps.1 (pair_byte high low i steps.0 steps.2) (pairs_bytes (i + 2) rest steps.1 steps.3))

decoded_bytes : (digits bytes : List ℕ) → decode_of digits ≡ Ok bytes → IsBytes bytes
decoded_bytes digits bytes is = by_length (length digits % 2 == 1) is
  where
    by_length : (odd : Bool) → cond odd (Err OddLength) (decode_pairs 0 digits) ≡ Ok bytes → IsBytes bytes
    by_length true so = err_ok _ _ so
    by_length false so = pairs_bytes 0 digits bytes so

bytes_before : (r : Result (List ℕ) FromHexError) (list : List (List ℕ)) → ((bytes : List ℕ) → r ≡ Ok bytes → IsBytes bytes) →
    All IsBytes list → All IsBytes (spelled_before r list)
bytes_before (Ok bytes) list first others = All-cons IsBytes bytes list (first bytes refl) others
bytes_before (Err e) list first others = All-nil IsBytes

pub spelled_bytes : (lines : List (ℕ × List ℕ)) → All IsBytes (datagrams_of lines)
unfolding datagrams_of
spelled_bytes [] = All-nil IsBytes
spelled_bytes (line ∷ lines) =
    bytes_before (decode_of line.1) (datagrams_of lines) (decoded_bytes line.1) (spelled_bytes lines)
