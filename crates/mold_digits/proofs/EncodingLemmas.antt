-- Digits that are written one vector at a time.
use Rattle.std.proofs.Common.{◌≡◌, ℕ, zero, suc, ◌+◌, ◌*◌, ◌/◌, ◌%◌, ◌<◌, ◌≤◌, List, [], ◌∷◌, ◌++◌, length, map, take}
use Rattle.std.proofs.Common.{◌-◌, slice_index, bit_and, drop, refl, sym, ap, ◌∙◌, append_assoc, arith}
use Rattle.std.proofs.lemmas.List.{append-nil, drop-drop, drop-map, drop_all, length-append, length-drop, length-take-le}
use Rattle.std.proofs.lemmas.List.{take-append-drop, take-append-le, take-map, take-take, take_all}
use Rattle.std.proofs.lemmas.Nat.{and_mask}
use Rattle.std.proofs.lemmas.Simd.{Each1-chunk, length-chunk, length-put_chunk, take_more_put_chunk}
use Rattle.std.proofs.Math.Seq.{drop-append_seam}
use Rattle.std.specs.Simd.Lanes.{Each1, chunk, put_chunk}
use borrow.Rule.Slice.PartMut.{put_mid}
use Rattle.hex.specs.Hex.{encode_lower, encode_with, lower_digits}
use Rattle.mold_digits.specs.Digits.{IsEncodedTo}
use Rattle.mold_digits.specs.Lanes.{digit_of, woven}
use Rattle.mold_digits.proofs.JoiningLemmas.{chunk-append, take-chunk}
use Rattle.mold_digits.proofs.TableLemmas.{agree_at, agree_below}

-- A byte has two digits.
pub length_digits : (bytes : List ℕ) → length (encode_lower bytes) ≡ 2 * length bytes
unfolding encode_with
length_digits [] = refl
length_digits (byte ∷ bytes) = omega (arith, length_digits bytes)

-- ---- One block.

digit_is : (v : ℕ) → v < 16 → digit_of v ≡ slice_index lower_digits v
unfolding agree_below digit_of
digit_is v small = agree_at digit_of (λ (k : ℕ). slice_index lower_digits k) 16 refl v small

woven_digits : (c : List ℕ) → Each1 (λ x. x < 256) c
    → woven (map digit_of (map (λ x. x / 16) c)) (map digit_of (map (λ x. bit_and x 15) c)) ≡ encode_lower c
unfolding encode_with
woven_digits [] bytes = refl
woven_digits (b ∷ rest) bytes =
    let byte : b < 256 = bytes.0 in
    let high = digit_is (b / 16) (omega arith) in
    let low = ap digit_of (and_mask b 4) ∙ digit_is (b % 16) (omega arith) in
    let more = woven_digits rest bytes.1 in
    rw (high, low, more) refl

chunk-map : (f : ℕ → ℕ) (i n : ℕ) (xs : List ℕ) → chunk i n (map f xs) ≡ map f (chunk i n xs)
chunk-map f i n xs = ap (take n) (drop-map f i xs) ∙ take-map f n (drop i xs)

-- The digits of eight of the lanes.
pub half_written : (lanes high low : List ℕ) (i : ℕ) → Each1 (λ x. x < 256) lanes
    → high ≡ map digit_of (map (λ x. x / 16) lanes) → low ≡ map digit_of (map (λ x. bit_and x 15) lanes)
    → woven (chunk i 8 high) (chunk i 8 low) ≡ encode_lower (chunk i 8 lanes)
half_written lanes high low i bytes h l =
    let high_half = ap (chunk i 8) h ∙ chunk-map digit_of i 8 _ ∙ ap (map digit_of) (chunk-map (λ x. x / 16) i 8 lanes) in
    let low_half = ap (chunk i 8) l ∙ chunk-map digit_of i 8 _ ∙ ap (map digit_of) (chunk-map (λ x. bit_and x 15) i 8 lanes) in
    rw (high_half, low_half) (woven_digits (chunk i 8 lanes) (Each1-chunk (λ x. x < 256) i 8 lanes bytes))

-- ---- The loop.

encode_with-append : (t a b : List ℕ) → encode_with t (a ++ b) ≡ encode_with t a ++ encode_with t b
unfolding encode_with
encode_with-append t [] b = refl
encode_with-append t (x ∷ a) b =
    ap (λ (r : List ℕ). slice_index t (x / 16) ∷ slice_index t (x % 16) ∷ r) (encode_with-append t a b)

take-encode_with : (t : List ℕ) (n : ℕ) (bytes : List ℕ)
    → take (2 * n) (encode_with t bytes) ≡ encode_with t (take n bytes)
unfolding encode_with
take-encode_with t zero bytes = refl
take-encode_with t (suc n) [] = let two : 2 * suc n ≡ suc (suc (2 * n)) = omega arith in rw two refl
take-encode_with t (suc n) (x ∷ bytes) =
    let two : 2 * suc n ≡ suc (suc (2 * n)) = omega arith in
    rw two (ap (λ (r : List ℕ). slice_index t (x / 16) ∷ slice_index t (x % 16) ∷ r) (take-encode_with t n bytes))

-- The digits of sixteen lanes, written as two halves.
pub block_written : (out lanes front back : List ℕ) (at : ℕ) → length lanes ≡ 16 → 2 * at + 32 ≤ length out
    → front ≡ encode_lower (chunk 0 8 lanes) → back ≡ encode_lower (chunk 8 8 lanes)
    → take (2 * at + 32) (put_chunk (2 * at + 16) (put_chunk (2 * at) out front) back)
    ≡ take (2 * at) out ++ encode_lower lanes
block_written out lanes front back at len room f b =
    let front_long : length front ≡ 16 =
    ap length f ∙ length_digits (chunk 0 8 lanes) ∙ ap (λ (n : ℕ). 2 * n) (length-chunk 0 8 lanes (omega (arith, len))) in
    let back_long : length back ≡ 16 =
    ap length b ∙ length_digits (chunk 8 8 lanes) ∙ ap (λ (n : ℕ). 2 * n) (length-chunk 8 8 lanes (omega (arith, len))) in
    let room_front : length (put_chunk (2 * at) out front) ≡ length out = length-put_chunk (2 * at) out front in
    let second =
    take_more_put_chunk (2 * at + 16) (put_chunk (2 * at) out front) back (2 * at + 32) (omega (arith, back_long))
    (omega (arith, room_front)) in
    let first = take_more_put_chunk (2 * at) out front (2 * at + 16) (omega (arith, front_long)) (omega arith) in
    let halves : chunk 0 8 lanes ++ chunk 8 8 lanes ≡ lanes =
    chunk-append 0 8 8 lanes ∙ take_all 16 lanes (omega (arith, len)) in
    let both : front ++ back ≡ encode_lower lanes =
    ap (λ (t : List ℕ). t ++ back) f
    ∙ ap (λ (t : List ℕ). encode_lower (chunk 0 8 lanes) ++ t) b
    ∙ sym (encode_with-append lower_digits (chunk 0 8 lanes) (chunk 8 8 lanes))
    ∙ ap encode_lower halves in
    second
    ∙ ap (λ (t : List ℕ). t ++ back) first
    ∙ append_assoc (take (2 * at) out) front back
    ∙ ap (λ (t : List ℕ). take (2 * at) out ++ t) both

-- Eight bytes and eight others in one vector.
pub paired : (first zeros second : List ℕ) → length first ≡ 8 → length zeros ≡ 8 → length second ≡ 8
    → put_mid 8 8 (first ++ zeros) second ≡ first ++ second
paired first zeros second f z s =
    let front : take 8 (first ++ zeros) ≡ first =
    take-append-le 8 first zeros (omega (arith, f)) ∙ take_all 8 first (omega (arith, f)) in
    let behind : drop 8 (drop 8 (first ++ zeros)) ≡ [] =
    drop-drop 8 8 (first ++ zeros)
    ∙ drop_all 16 (first ++ zeros) (omega (arith, length-append first zeros, f, z)) in
    rw (front, behind, append-nil second) refl

-- The first half of two, and the second.
pub first_half : (first second : List ℕ) → length first ≡ 8 → chunk 0 8 (first ++ second) ≡ first
first_half first second f = take-append-le 8 first second (omega (arith, f)) ∙ take_all 8 first (omega (arith, f))

pub second_half : (first second : List ℕ) → length first ≡ 8 → length second ≡ 8 → chunk 8 8 (first ++ second) ≡ second
second_half first second f s =
    let behind : drop 8 (first ++ second) ≡ second = rw (← f) (drop-append_seam first second) in
    ap (take 8) behind ∙ take_all 8 second (omega (arith, s))

-- The digits of the first eight bytes, and then those of the last eight.
pub halves_written : (d out front back : List ℕ) (last : ℕ) → length out ≡ 2 * length d → length d < 16
    → length d ≡ last + 8 → front ≡ encode_lower (take 8 d)
    → back ≡ encode_lower (take (length d - last) (drop last d))
    → put_chunk (2 * last) (put_chunk 0 out front) back ≡ encode_lower d
halves_written d out front back last sized few long f b =
    let rest = b ∙ ap encode_lower (take_all (length d - last) (drop last d) (omega (arith, length-drop last d))) in
    let front_long : length front ≡ 16 =
    ap length f ∙ length_digits (take 8 d) ∙ ap (λ (n : ℕ). 2 * n) (length-take-le 8 d (omega arith)) in
    let back_long : length back ≡ 16 =
    ap length rest ∙ length_digits (drop last d) ∙ omega (arith, length-drop last d) in
    let begun = put_chunk 0 out front in
    let begun_long = length-put_chunk 0 out front in
    let whole = put_chunk (2 * last) begun back in
    let whole_long = length-put_chunk (2 * last) begun back in
    let written : take 16 begun ≡ front = take_more_put_chunk 0 out front 16 (omega (arith, front_long)) (omega arith) in
    let start : take (2 * last) begun ≡ encode_lower (take last d) =
    sym (take-take (2 * last) 16 begun (omega arith))
    ∙ ap (take (2 * last)) (written ∙ f)
    ∙ take-encode_with lower_digits last (take 8 d)
    ∙ ap encode_lower (take-take last 8 d (omega arith)) in
    sym (take_all (2 * last + 16) whole (omega (arith, whole_long, begun_long)))
    ∙ take_more_put_chunk (2 * last) begun back (2 * last + 16) (omega (arith, back_long)) (omega (arith, begun_long))
    ∙ ap (λ (t : List ℕ). t ++ back) start
    ∙ ap (λ (t : List ℕ). encode_lower (take last d) ++ t) rest
    ∙ sym (encode_with-append lower_digits (take last d) (drop last d))
    ∙ ap encode_lower (take-append-drop last d)

-- One more block.
pub encoded_more : (d out more : List ℕ) (at : ℕ) → at + 16 ≤ length d → IsEncodedTo at d out
    → take (2 * at + 32) more ≡ take (2 * at) out ++ encode_lower (chunk at 16 d) → IsEncodedTo (at + 16) d more
encoded_more d out more at fits before written =
    let two : 2 * (at + 16) ≡ 2 * at + 32 = omega arith in
    let whole = take-chunk at 16 d in
    ap (λ (n : ℕ). take n more) two
    ∙ written
    ∙ ap (λ (t : List ℕ). t ++ encode_lower (chunk at 16 d)) before
    ∙ sym (encode_with-append lower_digits (take at d) (chunk at 16 d))
    ∙ ap encode_lower (sym whole)

-- The digits of fewer bytes are a prefix of the digits written so far.
pub encoded_front : (d out : List ℕ) (less at : ℕ) → less ≤ at → IsEncodedTo at d out → IsEncodedTo less d out
encoded_front d out less at below written =
    sym (take-take (2 * less) (2 * at) out (omega arith))
    ∙ ap (take (2 * less)) written
    ∙ take-encode_with lower_digits less (take at d)
    ∙ ap encode_lower (take-take less at d below)

pub encoded_all : (d out : List ℕ) (at : ℕ) → length out ≡ 2 * length d → length d ≤ at → IsEncodedTo at d out
    → out ≡ encode_lower d
encoded_all d out at sized all written =
    sym (take_all (2 * at) out (omega arith)) ∙ written ∙ ap encode_lower (take_all at d all)
