-- What the lanes compute for a digit and for pairs of digits.
use Rattle.std.proofs.Common.{◌≡◌, ℕ, ◌+◌, ◌*◌, ◌%◌, ◌<◌, ◌≤◌, true, false, inl, inr, if◌then◌else◌, nat_lt, List, []}
use Rattle.std.proofs.Common.{◌∷◌, length, map, bit_and, bit_or, Result, Ok, Err, is_err, refl, sym, ap, ◌∙◌, arith}
use Rattle.std.proofs.lemmas.Bool.{cases_Bool, cases_lt, le-ltb, lt-ltb, ltb-false, ltb-true, or_parts}
use Rattle.std.proofs.lemmas.Nat.{le_or_l, le_or_r, or_lt}
use Rattle.std.proofs.lemmas.Simd.{map-map, zip2_of_maps}
use Rattle.std.specs.Simd.Lanes.{Each1, zip2}
use Rattle.hex.proofs.Pairs.{cons_byte, decode_pairs-err_pair, decode_pairs-ok_pair}
use Rattle.hex.specs.Hex.{decode_pairs, pair_value}
use Rattle.hex.specs.declared.error.FromHexError.{FromHexError}
use Rattle.mold_digits.specs.Digits.{value_of}
use Rattle.mold_digits.specs.Lanes.{any_large, evens, larger_of, letter_reading, numeral_reading, odds, pair_byte, reading, smaller_of}
use Rattle.mold_digits.proofs.TableLemmas.{agree_at, agree_below}
use Rattle.mold_digits.proofs.DecodingLemmas.{pair_bad, pair_good}

-- Only this lemma checks all digits one by one.
reading_is : (c : ℕ) → c < 256 → value_of c ≡ (if nat_lt (reading c) 16 then reading c else 255)
unfolding agree_below reading
reading_is c byte = agree_at value_of (λ (k : ℕ). if nat_lt (reading k) 16 then reading k else 255) 256 refl c byte

small_reading : (c : ℕ) → c < 256 → reading c < 16 → reading c ≡ value_of c
small_reading c byte small = let test = lt-ltb (reading c) 16 small in sym (reading_is c byte ∙ rw test refl)

large_reading : (c : ℕ) → c < 256 → 16 ≤ reading c → value_of c ≡ 255
large_reading c byte large = let test = le-ltb (reading c) 16 large in reading_is c byte ∙ rw test refl

-- The lanes of a load, operation by operation.
pub numerals_are : (c a b d : List ℕ) → a ≡ map (λ x. (x + 198) % 256) c → b ≡ map (λ x. larger_of x 6) a
    → d ≡ map (λ x. (x + 10) % 256) b → d ≡ map numeral_reading c
numerals_are c a b d first second third =
    let raised : b ≡ map (λ x. larger_of ((x + 198) % 256) 6) c =
    second
    ∙ ap (map (λ (x : ℕ). larger_of x 6)) first
    ∙ map-map (λ (x : ℕ). larger_of x 6) (λ (x : ℕ). (x + 198) % 256) c in
    third
    ∙ ap (map (λ (x : ℕ). (x + 10) % 256)) raised
    ∙ map-map (λ (x : ℕ). (x + 10) % 256) (λ (x : ℕ). larger_of ((x + 198) % 256) 6) c

pub letters_are : (c z a b d : List ℕ) → z ≡ map (λ x. bit_and x 223) c → a ≡ map (λ x. (x + 191) % 256) z
    → b ≡ map (λ x. smaller_of x 245) a → d ≡ map (λ x. (x + 10) % 256) b → d ≡ map letter_reading c
letters_are c z a b d mask first second third =
    let upper : a ≡ map (λ x. (bit_and x 223 + 191) % 256) c =
    first
    ∙ ap (map (λ (x : ℕ). (x + 191) % 256)) mask
    ∙ map-map (λ (x : ℕ). (x + 191) % 256) (λ (x : ℕ). bit_and x 223) c in
    let capped : b ≡ map (λ x. smaller_of ((bit_and x 223 + 191) % 256) 245) c =
    second
    ∙ ap (map (λ (x : ℕ). smaller_of x 245)) upper
    ∙ map-map (λ (x : ℕ). smaller_of x 245) (λ (x : ℕ). (bit_and x 223 + 191) % 256) c in
    third
    ∙ ap (map (λ (x : ℕ). (x + 10) % 256)) capped
    ∙ map-map (λ (x : ℕ). (x + 10) % 256) (λ (x : ℕ). smaller_of ((bit_and x 223 + 191) % 256) 245) c

pub readings_are : (c numerals letters lanes : List ℕ) → numerals ≡ map numeral_reading c
    → letters ≡ map letter_reading c → lanes ≡ zip2 smaller_of numerals letters → lanes ≡ map reading c
unfolding reading
readings_are c numerals letters lanes n l both = both ∙ zip2_of_maps smaller_of numeral_reading letter_reading c n l

-- ---- Pairs of readings.

good_reading_pair : (a b i : ℕ) → a < 256 → b < 256 → nat_lt 15 (bit_or (reading a) (reading b)) ≡ false
    → pair_value a b i ≡ Ok (pair_byte (reading a) (reading b))
good_reading_pair a b i first second test =
    let small = ltb-false 15 (bit_or (reading a) (reading b)) test in
    let high = le_or_l (reading a) (reading b) in
    let low = le_or_r (reading a) (reading b) in
    let byte : reading a * 16 + reading b ≡ pair_byte (reading a) (reading b) = omega arith in
    pair_good a b i (reading a) (reading b) (small_reading a first (omega arith))
    (small_reading b second (omega arith)) (omega arith) (omega arith)
    ∙ ap Ok byte

bad_reading_pair : (a b i : ℕ) → a < 256 → b < 256 → nat_lt 15 (bit_or (reading a) (reading b)) ≡ true
    → (e : FromHexError) × (pair_value a b i ≡ Err e)
bad_reading_pair a b i first second test =
    let large = ltb-true 15 (bit_or (reading a) (reading b)) test in
    let high = le_or_l (value_of a) (value_of b) in
    let low = le_or_r (value_of a) (value_of b) in
    elim (cases_lt (reading a) 16) [
      | inr high_large ↦
          let none = large_reading a first high_large in
          pair_bad a b i (value_of a) (value_of b) refl refl (omega (arith, none, high))
      | inl high_small ↦
          elim (cases_lt (reading b) 16) [
            | inr low_large ↦
                let none = large_reading b second low_large in
                pair_bad a b i (value_of a) (value_of b) refl refl (omega (arith, none, low))
            | inl low_small ↦
                let small = or_lt 4 (reading a) (reading b) high_small low_small in
                absurd (omega arith)
          ]
    ]

pub good_readings : (i : ℕ) (c : List ℕ) → Each1 (λ x. x < 256) c → length c % 2 ≡ 0
    → any_large (evens (map reading c)) (odds (map reading c)) ≡ false
    → decode_pairs i c ≡ Ok (zip2 pair_byte (evens (map reading c)) (odds (map reading c)))
unfolding decode_pairs
good_readings i [] bytes even test = refl
good_readings i (a ∷ []) bytes even test = absurd (omega arith)
good_readings i (a ∷ b ∷ rest) bytes even test =
    let tests =
    or_parts (nat_lt 15 (bit_or (reading a) (reading b)))
    (any_large (evens (map reading rest)) (odds (map reading rest))) test in
    let pair = good_reading_pair a b i bytes.0 bytes.1.0 tests.0 in
    let more = good_readings (i + 2) rest bytes.1.1 (omega arith) tests.1 in
    decode_pairs-ok_pair i a b _ rest pair ∙ ap (cons_byte (pair_byte (reading a) (reading b))) more

refused_behind : (v : ℕ) (r : Result (List ℕ) FromHexError) → is_err r ≡ true → is_err (cons_byte v r) ≡ true
refused_behind v (Ok bytes) refused = cc refused
refused_behind v (Err e) refused = refl

pub bad_readings : (i : ℕ) (c : List ℕ) → Each1 (λ x. x < 256) c → length c % 2 ≡ 0
    → any_large (evens (map reading c)) (odds (map reading c)) ≡ true → is_err (decode_pairs i c) ≡ true
unfolding decode_pairs
bad_readings i [] bytes even test = cc test
bad_readings i (a ∷ []) bytes even test = absurd (omega arith)
bad_readings i (a ∷ b ∷ rest) bytes even test =
    elim (cases_Bool (nat_lt 15 (bit_or (reading a) (reading b)))) [
      | inl large ↦
          let pair = bad_reading_pair a b i bytes.0 bytes.1.0 large in
          ap is_err (decode_pairs-err_pair i a b pair.0 rest pair.1)
      | inr small ↦
          let pair = good_reading_pair a b i bytes.0 bytes.1.0 small in
          let behind : any_large (evens (map reading rest)) (odds (map reading rest)) ≡ true = rw small at test in
          let more = bad_readings (i + 2) rest bytes.1.1 (omega arith) behind in
          ap is_err (decode_pairs-ok_pair i a b _ rest pair)
          ∙ refused_behind (pair_byte (reading a) (reading b)) (decode_pairs (i + 2) rest) more
    ]
