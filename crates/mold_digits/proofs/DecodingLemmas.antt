-- The loop over pairs of digits.
use Rattle.std.proofs.Common.{◌≡◌, ℕ, ◌+◌, ◌*◌, ◌%◌, ◌<◌, ◌≤◌, true, false, inl, inr, List, [], ◌∷◌, length, take}
use Rattle.std.proofs.Common.{slice_index, slice_set, bit_or, Option, Some, None, unwrap_or, Result, Ok, Err, is_err}
use Rattle.std.proofs.Common.{refl, sym, ap, ◌∙◌, arith}
use Rattle.std.specs.Prelude.{MatchResult}
use Rattle.std.proofs.Math.Dec.{ltb}
use Rattle.std.proofs.lemmas.Bool.{cases_lt, le-ltb, lt-ltb}
use Rattle.std.proofs.lemmas.List.{drop_more, take_all, take_more_set}
use Rattle.std.proofs.lemmas.Nat.{le_or_l, le_or_r, or_lt}
use Rattle.std.specs.Simd.Lanes.{chunk}
use Rattle.hex.proofs.HexLemmas.{decode_of-even}
use Rattle.hex.proofs.Pairs.{decode_pairs-err_pair}
use Rattle.hex.specs.Hex.{decode_of, decode_pairs, digit_or_error, hex_digit_value, pair_value}
use Rattle.hex.specs.declared.error.FromHexError.{FromHexError}
use Rattle.hex.specs.declared.error.FromHexError.TheVariants.{InvalidHexCharacter}
use Rattle.mold_digits.specs.Digits.{IsDecodedTo, value_of}
use Rattle.mold_digits.proofs.JoiningLemmas.{chunk_read, chunk_refused}

-- A value below 16 is the value of a digit.
digit_good : (c i v : ℕ) (o : Option ℕ) → v ≡ unwrap_or o 255 → v < 16 → digit_or_error c i o ≡ Ok v
digit_good c i v (Some w) same small = ap Ok (sym same)
digit_good c i v None same small = absurd (omega arith)

small_value : (c v : ℕ) → hex_digit_value c ≡ Some v → v < 16
small_value c v is = grind (arith)

digit_bad : (c i v : ℕ) (o : Option ℕ) → ((w : ℕ) → o ≡ Some w → w < 16) → v ≡ unwrap_or o 255 → 16 ≤ v
    → digit_or_error c i o ≡ Err (InvalidHexCharacter c i)
digit_bad c i v (Some w) small same large = let below = small w refl in absurd (omega arith)
digit_bad c i v None small same large = refl

pub pair_good : (a b i high low : ℕ) → high ≡ value_of a → low ≡ value_of b → high < 16 → low < 16
    → pair_value a b i ≡ Ok (high * 16 + low)
pair_good a b i high low first second high_small low_small =
    let ha = digit_good a i high (hex_digit_value a) first high_small in
    let hb = digit_good b (i + 1) low (hex_digit_value b) second low_small in
    rw (ha, hb) refl

pub pair_bad : (a b i high low : ℕ) → high ≡ value_of a → low ≡ value_of b → 16 ≤ bit_or high low
    → (e : FromHexError) × (pair_value a b i ≡ Err e)
pair_bad a b i high low first second large =
    elim (cases_lt high 16) [
      | inr high_large ↦
          let ha = digit_bad a i high (hex_digit_value a) (small_value a) first high_large in
          (InvalidHexCharacter a i, rw ha refl)
      | inl high_small ↦
          elim (cases_lt low 16) [
            | inr low_large ↦
                let ha = digit_good a i high (hex_digit_value a) first high_small in
                let hb = digit_bad b (i + 1) low (hex_digit_value b) (small_value b) second low_large in
                (InvalidHexCharacter b (i + 1), rw (ha, hb) refl)
            | inl low_small ↦
                let small = or_lt 4 high low high_small low_small in
                absurd (omega arith)
          ]
    ]

-- A single pair.
pair_read : (a b i v : ℕ) → pair_value a b i ≡ Ok v → decode_pairs i (a ∷ b ∷ []) ≡ Ok (v ∷ [])
unfolding decode_pairs
pair_read a b i v good = rw good refl

pair_chunk : (s : List ℕ) (i : ℕ) → i + 1 < length s → chunk i 2 s ≡ slice_index s i ∷ slice_index s (i + 1) ∷ []
pair_chunk s i fits =
    let a = drop_more s i 0 (omega arith) in
    let b = drop_more s (i + 1) 0 (omega arith) in
    rw (a, b) refl

-- The loop's invariant: `seen` has every bit of the values so far.
pub record IsReadTo (s out : List ℕ) (i seen : ℕ) : Type 0 where
  pub good : seen < 16 → IsDecodedTo i s out
  pub bad : 16 ≤ seen → is_err (decode_pairs 0 s) ≡ true

pub read_none : (s out : List ℕ) (i : ℕ) → IsDecodedTo i s out → IsReadTo s out i 0
read_none s out i front = record { good = λ _. front; bad = λ large. absurd (omega arith) }

more_good : (s out : List ℕ) (i high low : ℕ) → 2 * i + 1 < length s → i < length out
    → high ≡ value_of (slice_index s (2 * i)) → low ≡ value_of (slice_index s (2 * i + 1)) → high < 16 → low < 16
    → IsDecodedTo i s out → IsDecodedTo (i + 1) s (slice_set out i (high * 16 + low))
more_good s out i high low fits room first second high_small low_small front =
    let two : 2 * i + 2 ≡ 2 * (i + 1) = omega arith in
    let pair =
    pair_good (slice_index s (2 * i)) (slice_index s (2 * i + 1)) (2 * i) high low first second high_small low_small in
    let read : decode_pairs (2 * i) (chunk (2 * i) 2 s) ≡ Ok ((high * 16 + low) ∷ []) =
    ap (decode_pairs (2 * i)) (pair_chunk s (2 * i) fits) ∙ pair_read _ _ (2 * i) (high * 16 + low) pair in
    let both = chunk_read s (take i out) ((high * 16 + low) ∷ []) (2 * i) 2 (omega arith) (omega arith) front read in
    rw two at both ∙ ap Ok (sym (take_more_set out i (high * 16 + low) room))

more_bad : (s out : List ℕ) (i high low : ℕ) → 2 * i + 1 < length s → high ≡ value_of (slice_index s (2 * i))
    → low ≡ value_of (slice_index s (2 * i + 1)) → 16 ≤ bit_or high low → IsDecodedTo i s out
    → is_err (decode_pairs 0 s) ≡ true
more_bad s out i high low fits first second large front =
    let pair = pair_bad (slice_index s (2 * i)) (slice_index s (2 * i + 1)) (2 * i) high low first second large in
    let refused : is_err (decode_pairs (2 * i) (chunk (2 * i) 2 s)) ≡ true =
    ap is_err
    (ap (decode_pairs (2 * i)) (pair_chunk s (2 * i) fits) ∙ decode_pairs-err_pair (2 * i) _ _ pair.0 [] pair.1) in
    chunk_refused s (take i out) (2 * i) 2 (omega arith) refl (omega arith) front refused

-- One more pair.
pub read_more : (s out : List ℕ) (i seen high low : ℕ) → 2 * i + 1 < length s → i < length out
    → high ≡ value_of (slice_index s (2 * i)) → low ≡ value_of (slice_index s (2 * i + 1)) → IsReadTo s out i seen
    → IsReadTo s (slice_set out i ((high * 16 % 256 + low) % 256)) (i + 1) (bit_or seen (bit_or high low))
read_more s out i seen high low fits room first second before =
    let left = le_or_l seen (bit_or high low) in
    let right = le_or_r seen (bit_or high low) in
    let of_high = le_or_l high low in
    let of_low = le_or_r high low in
    record {
      good = λ small.
          let byte : (high * 16 % 256 + low) % 256 ≡ high * 16 + low = omega arith in
          rw byte
          (more_good s out i high low fits room first second (omega arith) (omega arith) (before.good (omega arith)));
      bad = λ large.
          elim (cases_lt seen 16) [
            | inr seen_large ↦ before.bad seen_large
            | inl seen_small ↦
                elim (cases_lt (bit_or high low) 16) [
                  | inl pair_small ↦ let small = or_lt 4 seen (bit_or high low) seen_small pair_small in absurd
                      (omega arith)
                  | inr pair_large ↦ more_bad s out i high low fits first second pair_large (before.good seen_small)
                ]
          ];
    }

pub match_err : (r : Result (List ℕ) FromHexError) (P : List ℕ → Type 0) (Q : Type 0) → is_err r ≡ true → Q
    → MatchResult r P (λ _. Q)
match_err (Ok bytes) P Q refused q = cc refused
match_err (Err e) P Q refused q = q

-- Every pair was decoded.
pub read_all : (s out : List ℕ) (i seen : ℕ) → length s ≡ 2 * length out → length out ≤ i → IsReadTo s out i seen
    → MatchResult (decode_of s) (λ bytes. (ltb seen 16 ≡ true) × (out ≡ bytes)) (λ _. ltb seen 16 ≡ false)
read_all s out i seen sized all read =
    let pairs = decode_of-even s (omega arith) in
    elim (cases_lt seen 16) [
      | inl small ↦
          let whole = read.good small in
          let digits = take_all (2 * i) s (omega arith) in
          let bytes = take_all i out all in
          let is : decode_of s ≡ Ok out = pairs ∙ rw (digits, bytes) at whole in
          rw is (lt-ltb seen 16 small, refl)
      | inr large ↦ rw pairs (match_err (decode_pairs 0 s) _ _ (read.bad large) (le-ltb seen 16 large))
    ]
