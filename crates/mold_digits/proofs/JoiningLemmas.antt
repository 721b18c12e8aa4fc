-- Digits that are decoded in two parts.
use Rattle.std.proofs.Common.{add-zero, ◌≡◌, ℕ, suc, ◌+◌, ◌%◌, ◌≤◌, true, List, [], ◌∷◌, ◌++◌, length, take, drop}
use Rattle.std.proofs.Common.{Result, Ok, Err, is_err, refl, sym, ap, ◌∙◌, arith}
use Rattle.std.proofs.lemmas.List.{drop-drop, drop-take, length-take-le, take-append-drop, take-take}
use Rattle.std.proofs.lemmas.Simd.{chunk-drop, length-chunk}
use Rattle.std.specs.Simd.Lanes.{chunk}
use Rattle.hex.proofs.Pairs.{cons_byte}
use Rattle.hex.specs.Hex.{decode_pairs, pair_value, ◌>>=◌}
use Rattle.hex.specs.declared.error.FromHexError.{FromHexError}

-- The bytes of two parts.
abbrev pub joined : Result (List ℕ) FromHexError → Result (List ℕ) FromHexError → Result (List ℕ) FromHexError
joined (Ok front) (Ok back) = Ok (front ++ back)
joined (Ok front) (Err e) = Err e
joined (Err e) back = Err e

joined-nil : (back : Result (List ℕ) FromHexError) → back ≡ joined (Ok []) back
joined-nil (Ok bytes) = refl
joined-nil (Err e) = refl

joined-cons_byte : (v : ℕ) (front back : Result (List ℕ) FromHexError)
    → cons_byte v (joined front back) ≡ joined (cons_byte v front) back
joined-cons_byte v (Ok bytes) (Ok more) = refl
joined-cons_byte v (Ok bytes) (Err e) = refl
joined-cons_byte v (Err e) back = refl

bind-joined : (pair : Result ℕ FromHexError) (front back : Result (List ℕ) FromHexError)
    → (pair >>= (λ v. cons_byte v (joined front back))) ≡ joined (pair >>= (λ v. cons_byte v front)) back
bind-joined (Ok v) front back = joined-cons_byte v front back
bind-joined (Err e) front back = refl

-- Digits after whole pairs are decoded independently.
pub decode_pairs-append : (i : ℕ) (a b : List ℕ) → length a % 2 ≡ 0
    → decode_pairs i (a ++ b) ≡ joined (decode_pairs i a) (decode_pairs (i + length a) b)
unfolding decode_pairs
decode_pairs-append i [] b even = rw add-zero (joined-nil (decode_pairs i b))
decode_pairs-append i (x ∷ []) b even = absurd (omega arith)
decode_pairs-append i (x ∷ y ∷ a) b even =
    let at : i + 2 + length a ≡ i + suc (suc (length a)) = omega arith in
    let rest = decode_pairs-append (i + 2) a b (omega arith) in
    ap (λ (r : Result (List ℕ) FromHexError). pair_value x y i >>= (λ v. cons_byte v r)) (rw at at rest)
    ∙ bind-joined (pair_value x y i) (decode_pairs (i + 2) a) (decode_pairs (i + suc (suc (length a))) b)

pub take-chunk : (i n : ℕ) (s : List ℕ) → take (i + n) s ≡ take i s ++ chunk i n s
take-chunk i n s =
    let front = take-take i (i + n) s (omega arith) in
    sym (take-append-drop i (take (i + n) s)) ∙ rw (front, drop-take i n s) refl

-- Two consecutive chunks.
pub chunk-append : (i m n : ℕ) (s : List ℕ) → chunk i m s ++ chunk (i + m) n s ≡ chunk i (m + n) s
chunk-append i m n s = rw (← drop-drop m i s) (sym (take-chunk m n (drop i s)))

-- One more part is decoded.
pub chunk_read : (s front bytes : List ℕ) (i n : ℕ) → i % 2 ≡ 0 → i + n ≤ length s
    → decode_pairs 0 (take i s) ≡ Ok front → decode_pairs i (chunk i n s) ≡ Ok bytes
    → decode_pairs 0 (take (i + n) s) ≡ Ok (front ++ bytes)
chunk_read s front bytes i n even fits read next =
    let long = length-take-le i s (omega arith) in
    let start : 0 + i ≡ i = omega arith in
    ap (decode_pairs 0) (take-chunk i n s)
    ∙ decode_pairs-append 0 (take i s) (chunk i n s) (omega (arith, long))
    ∙ rw (read, long, start, next) refl

joined-refused : (front : List ℕ) (bad back : Result (List ℕ) FromHexError) → is_err bad ≡ true
    → is_err (joined (Ok front) (joined bad back)) ≡ true
joined-refused front (Ok bytes) back refused = cc refused
joined-refused front (Err e) back refused = refl

-- If one part is refused, so is the whole.
pub chunk_refused : (s front : List ℕ) (i n : ℕ) → i % 2 ≡ 0 → n % 2 ≡ 0 → i + n ≤ length s
    → decode_pairs 0 (take i s) ≡ Ok front → is_err (decode_pairs i (chunk i n s)) ≡ true
    → is_err (decode_pairs 0 s) ≡ true
chunk_refused s front i n even pairs fits read refused =
    let long = length-take-le i s (omega arith) in
    let start : 0 + i ≡ i = omega arith in
    let size = length-chunk i n s fits in
    let parts : take i s ++ (chunk i n s ++ drop (i + n) s) ≡ s =
    ap (λ (t : List ℕ). take i s ++ t) (sym (chunk-drop i n s)) ∙ take-append-drop i s in
    let front_read : decode_pairs 0 (take i s ++ (chunk i n s ++ drop (i + n) s)) ≡ joined (Ok front)
    (decode_pairs i (chunk i n s ++ drop (i + n) s)) =
    decode_pairs-append 0 (take i s) (chunk i n s ++ drop (i + n) s) (omega (arith, long))
    ∙ rw (read, long, start) refl in
    let next_read = decode_pairs-append i (chunk i n s) (drop (i + n) s) (omega (arith, size)) in
    rw (← parts, front_read, next_read) (joined-refused front _ _ refused)
