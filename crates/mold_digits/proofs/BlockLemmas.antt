-- The loop over whole vectors of digits.
use Rattle.std.proofs.Common.{◌≡◌, ℕ, ◌+◌, ◌-◌, ◌*◌, ◌%◌, ◌<◌, ◌≤◌, Bool, true, false, List, ◌++◌, length, map, take, Result}
use Rattle.std.proofs.Common.{Ok, Err, is_err, refl, sym, ap, ◌∙◌, arith}
use Rattle.std.specs.Prelude.{MatchResult}
use Rattle.std.proofs.lemmas.List.{length-take-le, map-append, take-append-le, take-take, take_all}
use Rattle.std.proofs.lemmas.Simd.{length-chunk}
use Rattle.std.specs.Simd.Lanes.{Each1, chunk, zip2}
use Rattle.hex.proofs.HexLemmas.{decode_of-even, decode_pairs-ok}
use Rattle.hex.specs.Hex.{decode_of, decode_pairs}
use Rattle.hex.specs.declared.error.FromHexError.{FromHexError}
use Rattle.mold_digits.specs.Digits.{IsDecodedTo}
use Rattle.mold_digits.specs.Lanes.{any_large, evens, odds, pair_byte, reading}
use Rattle.mold_digits.proofs.DecodingLemmas.{match_err}
use Rattle.mold_digits.proofs.JoiningLemmas.{chunk-append, chunk_read, chunk_refused, decode_pairs-append, joined}
use Rattle.mold_digits.proofs.JoiningLemmas.{take-chunk}
use Rattle.mold_digits.proofs.ReadingLemmas.{bad_readings, good_readings}

-- The readings of a block at even and at odd indices.
pub record IsBlockRead (c evens_of odds_of : List ℕ) : Type 0 where
  pub high : evens_of ≡ evens (map reading c)
  pub low : odds_of ≡ odds (map reading c)
  pub bytes : Each1 (λ x. x < 256) c
  pub even : length c % 2 ≡ 0

pub block_read : (d first second high low : List ℕ) (at : ℕ) → at + 32 ≤ length d
    → Each1 (λ x. x < 256) (chunk at 32 d) → first ≡ map reading (chunk at 16 d)
    → second ≡ map reading (chunk (at + 16) 16 d) → high ≡ evens (first ++ second) → low ≡ odds (first ++ second)
    → IsBlockRead (chunk at 32 d) high low
block_read d first second high low at fits bytes f s h l =
    let parts = chunk-append at 16 16 d in
    let both : first ++ second ≡ map reading (chunk at 32 d) =
    rw (f, s) (sym (map-append reading (chunk at 16 d) (chunk (at + 16) 16 d)) ∙ ap (map reading) parts) in
    let long = length-chunk at 32 d fits in
    record { high = h ∙ ap evens both; low = l ∙ ap odds both; bytes = bytes; even = ap (λ (n : ℕ). n % 2) long }

pub block_good : (i : ℕ) (c high low : List ℕ) → IsBlockRead c high low → any_large high low ≡ false
    → decode_pairs i c ≡ Ok (zip2 pair_byte high low)
block_good i c high low read test =
    let none : any_large (evens (map reading c)) (odds (map reading c)) ≡ false = rw (read.high, read.low) at test in
    rw (read.high, read.low) (good_readings i c read.bytes read.even none)

pub block_bad : (i : ℕ) (c high low : List ℕ) → IsBlockRead c high low → any_large high low ≡ true
    → is_err (decode_pairs i c) ≡ true
block_bad i c high low read test =
    bad_readings i c read.bytes read.even (rw (read.high, read.low) at test)

-- The result of a block.
pub read_from_match : (r : Result (List ℕ) FromHexError) (P : List ℕ → Type 0) (answer : Bool)
    → MatchResult r (λ bytes. (answer ≡ true) × P bytes) (λ _. answer ≡ false) → answer ≡ true
    → (bytes : List ℕ) × (r ≡ Ok bytes) × P bytes
read_from_match (Ok bytes) P answer match accepted = (bytes, refl, match.1)
read_from_match (Err e) P answer match accepted = cc (sym match ∙ accepted)

pub refused_from_match : (r : Result (List ℕ) FromHexError) (P : List ℕ → Type 0) (answer : Bool)
    → MatchResult r (λ bytes. (answer ≡ true) × P bytes) (λ _. answer ≡ false) → answer ≡ false → is_err r ≡ true
refused_from_match (Ok bytes) P answer match denied = cc (sym match.0 ∙ denied)
refused_from_match (Err e) P answer match denied = refl

-- The result of a block of digits that changes `out` into `more`.
abbrev BlockAnswers : ℕ → List ℕ → List ℕ → List ℕ → Bool → Type 0
BlockAnswers at s out more answer =
    MatchResult (decode_pairs (2 * at) (chunk (2 * at) 32 s))
    (λ bytes. (answer ≡ true) × (take (at + 16) more ≡ take at out ++ bytes))
    (λ _. answer ≡ false)

-- One more block.
pub blocks_more : (s out more : List ℕ) (at : ℕ) (answer : Bool) → 2 * at + 32 ≤ length s → IsDecodedTo at s out
    → BlockAnswers at s out more answer → answer ≡ true → IsDecodedTo (at + 16) s more
blocks_more s out more at answer fits before match accepted =
    let next =
    read_from_match (decode_pairs (2 * at) (chunk (2 * at) 32 s))
    (λ bytes. take (at + 16) more ≡ take at out ++ bytes) answer match accepted in
    let read = chunk_read s (take at out) next.0 (2 * at) 32 (omega arith) fits before next.1 in
    let two : 2 * at + 32 ≡ 2 * (at + 16) = omega arith in
    rw two at read ∙ ap Ok (sym next.2)

pub blocks_refused : (s out more : List ℕ) (at : ℕ) (answer : Bool) → 2 * at + 32 ≤ length s → IsDecodedTo at s out
    → BlockAnswers at s out more answer → answer ≡ false → is_err (decode_pairs 0 s) ≡ true
blocks_refused s out more at answer fits before match denied =
    let bad =
    refused_from_match (decode_pairs (2 * at) (chunk (2 * at) 32 s))
    (λ bytes. take (at + 16) more ≡ take at out ++ bytes) answer match denied in
    chunk_refused s (take at out) (2 * at) 32 (omega arith) refl fits before bad

joined_parts : (a b : Result (List ℕ) FromHexError) (whole : List ℕ) → joined a b ≡ Ok whole
    → (front : List ℕ) × (a ≡ Ok front) × (back : List ℕ) × (whole ≡ front ++ back)
joined_parts (Ok front) (Ok back) whole is = (front, refl, back, cc (sym is))
joined_parts (Ok front) (Err e) whole is = absurd (cc is)
joined_parts (Err e) b whole is = absurd (cc is)

-- Fewer digits are decoded to fewer bytes.
pub decoded_front : (s out : List ℕ) (less at : ℕ) → less ≤ at → 2 * at ≤ length s → IsDecodedTo at s out
    → IsDecodedTo less s out
decoded_front s out less at below fits whole =
    let two : 2 * less + 2 * (at - less) ≡ 2 * at = omega arith in
    let short : length (take (2 * less) s) ≡ 2 * less = length-take-le (2 * less) s (omega arith) in
    let split : take (2 * at) s ≡ take (2 * less) s ++ chunk (2 * less) (2 * (at - less)) s =
    ap (λ (n : ℕ). take n s) (sym two) ∙ take-chunk (2 * less) (2 * (at - less)) s in
    let parts =
    joined_parts (decode_pairs 0 (take (2 * less) s)) _ (take at out)
    (sym (decode_pairs-append 0 (take (2 * less) s) (chunk (2 * less) (2 * (at - less)) s) (omega (arith, short)))
    ∙ ap (decode_pairs 0) (sym split)
    ∙ whole) in
    let front = parts.0 in
    let long = (decode_pairs-ok 0 (take (2 * less) s) front parts.1).1 in
    let size : length front ≡ less = omega (arith, long, short) in
    let same : take less out ≡ front =
    sym (take-take less at out below)
    ∙ ap (take less) parts.3
    ∙ take-append-le less front parts.2 (omega (arith, size))
    ∙ take_all less front (omega (arith, size)) in
    parts.1 ∙ ap Ok (sym same)

-- The result is that of the last block.
pub blocks_all : (s out more : List ℕ) (at : ℕ) (answer : Bool) → length s ≡ 2 * length more → at + 16 ≡ length more
    → IsDecodedTo at s out → BlockAnswers at s out more answer
    → MatchResult (decode_of s) (λ bytes. (answer ≡ true) × (more ≡ bytes)) (λ _. answer ≡ false)
blocks_all s out more at true sized last before match =
    let read = blocks_more s out more at true (omega arith) before match refl in
    let digits = take_all (2 * (at + 16)) s (omega arith) in
    let bytes = take_all (at + 16) more (omega arith) in
    let is : decode_of s ≡ Ok more = decode_of-even s (omega arith) ∙ rw (digits, bytes) at read in
    rw is (refl, refl)
blocks_all s out more at false sized last before match =
    rw (decode_of-even s (omega arith))
    (match_err (decode_pairs 0 s) _ _ (blocks_refused s out more at false (omega arith) before match refl) refl)
