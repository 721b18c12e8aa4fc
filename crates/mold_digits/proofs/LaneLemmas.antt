-- The results of selects and shuffles, lane by lane.
use Rattle.std.proofs.Common.{◌≡◌, ℕ, zero, suc, ◌+◌, ◌*◌, ◌-◌, ◌%◌, ◌^◌, ◌<◌, ◌≤◌, Bool, true, false, not, cond}
use Rattle.std.proofs.Common.{◌/◌, bit_and, nat_eq, ◌||◌, inl, inr, List, [], ◌∷◌, ◌++◌, length, map, replicate, get_or, bit_or, refl}
use Rattle.std.proofs.Common.{sym, ap, ◌∙◌, arith}
use Rattle.std.proofs.Math.Dec.{ltb}
use Rattle.std.proofs.lemmas.Bool.{cases_eq, ne_eqb}
use Rattle.std.proofs.lemmas.List.{drop_more, ext_get_or, get_or-append_right, get_or-map, get_or_append_left, length-map}
use Rattle.std.proofs.lemmas.Nat.{and_mask}
use Rattle.std.proofs.lemmas.Simd.{Each1-get_or, get_or-swz_l_below, length-swz_l, length-zip2, map-map, mask_l-mod}
use Rattle.std.proofs.lemmas.Simd.{swz_l, tops_compared, zip2_splat, zip2_splat_left}
use Rattle.std.specs.Simd.Lanes.{Each1, chunk, mask_l, sel_l, top, zip2}
use mir.Syntax.{w8}
use Rattle.mold_digits.specs.Lanes.{any_large, digit_of, evens, larger_of, odds, pair_byte, smaller_of, woven}
use Rattle.mold_digits.proofs.TableLemmas.{agree_at, agree_below}

-- The mask of a comparison.
abbrev mask_of : List ℕ → List ℕ → List Bool
mask_of xs ys = map (top 7) (zip2 (λ a b. cond (ltb a b) 255 0) xs ys)

-- ---- Select.

sel_l-smaller : (t : ℕ → ℕ → Bool) (xs ys : List ℕ) → sel_l (zip2 t xs ys) xs ys ≡ zip2 (λ a b. cond (t a b) a b) xs ys
sel_l-smaller t [] ys = refl
sel_l-smaller t (x ∷ xs) [] = refl
sel_l-smaller t (x ∷ xs) (y ∷ ys) = ap (λ (l : List ℕ). cond (t x y) x y ∷ l) (sel_l-smaller t xs ys)

sel_l-larger : (t : ℕ → ℕ → Bool) (xs ys : List ℕ) → sel_l (zip2 t xs ys) ys xs ≡ zip2 (λ a b. cond (t a b) b a) xs ys
sel_l-larger t [] ys = refl
sel_l-larger t (x ∷ xs) [] = refl
sel_l-larger t (x ∷ xs) (y ∷ ys) = ap (λ (l : List ℕ). cond (t x y) y x ∷ l) (sel_l-larger t xs ys)

pub smaller_lanes : (xs ys : List ℕ) → sel_l (mask_of xs ys) xs ys ≡ zip2 smaller_of xs ys
smaller_lanes xs ys = ap (λ (m : List Bool). sel_l m xs ys) (tops_compared w8 ltb xs ys) ∙ sel_l-smaller ltb xs ys

pub capped_lanes : (xs : List ℕ) (cap : ℕ) → length xs ≡ 16
    → sel_l (mask_of xs (replicate 16 cap)) xs (replicate 16 cap) ≡ map (λ x. smaller_of x cap) xs
capped_lanes xs cap len = smaller_lanes xs (replicate 16 cap) ∙ zip2_splat smaller_of xs 16 cap len

pub raised_lanes : (xs : List ℕ) (floor : ℕ) → length xs ≡ 16
    → sel_l (mask_of xs (replicate 16 floor)) (replicate 16 floor) xs ≡ map (λ x. larger_of x floor) xs
raised_lanes xs floor len =
    ap (λ (m : List Bool). sel_l m (replicate 16 floor) xs) (tops_compared w8 ltb xs (replicate 16 floor))
    ∙ sel_l-larger ltb xs (replicate 16 floor)
    ∙ zip2_splat larger_of xs 16 floor len

-- ---- Shuffles.

abbrev even_places : ℕ → List ℕ
even_places zero = []
even_places (suc n) = 0 ∷ map (λ k. suc (suc k)) (even_places n)

abbrev odd_places : ℕ → List ℕ
odd_places zero = []
odd_places (suc n) = 1 ∷ map (λ k. suc (suc k)) (odd_places n)

pub picked_evens : (n : ℕ) (xs : List ℕ) → length xs ≡ 2 * n → map (λ k. get_or xs k 0) (even_places n) ≡ evens xs
picked_evens zero [] len = refl
picked_evens zero (x ∷ xs) len = absurd (omega arith)
picked_evens (suc n) [] len = absurd (omega arith)
picked_evens (suc n) (x ∷ []) len = absurd (omega arith)
picked_evens (suc n) (x ∷ y ∷ xs) len =
    ap (λ (l : List ℕ). x ∷ l)
    (map-map (λ k. get_or (x ∷ y ∷ xs) k 0) (λ k. suc (suc k)) (even_places n) ∙ picked_evens n xs (omega arith))

pub picked_odds : (n : ℕ) (xs : List ℕ) → length xs ≡ 2 * n → map (λ k. get_or xs k 0) (odd_places n) ≡ odds xs
picked_odds zero [] len = refl
picked_odds zero (x ∷ xs) len = absurd (omega arith)
picked_odds (suc n) [] len = absurd (omega arith)
picked_odds (suc n) (x ∷ []) len = absurd (omega arith)
picked_odds (suc n) (x ∷ y ∷ xs) len =
    ap (λ (l : List ℕ). y ∷ l)
    (map-map (λ k. get_or (x ∷ y ∷ xs) k 0) (λ k. suc (suc k)) (odd_places n) ∙ picked_odds n xs (omega arith))

abbrev woven_places : ℕ → ℕ → List ℕ
woven_places at zero = []
woven_places at (suc n) = at ∷ (16 + at) ∷ woven_places (at + 1) n

chunk_more : (at n : ℕ) (xs : List ℕ) → at < length xs → chunk at (suc n) xs ≡ get_or xs at 0 ∷ chunk (at + 1) n xs
chunk_more at n xs below = rw (drop_more xs at 0 below) refl

pub picked_woven : (at n : ℕ) (high low : List ℕ) → length high ≡ 16 → length low ≡ 16 → at + n ≤ 16
    → map (λ k. get_or (high ++ low) k 0) (woven_places at n) ≡ woven (chunk at n high) (chunk at n low)
picked_woven at zero high low h l fits = refl
picked_woven at (suc n) high low h l fits =
    let first = get_or_append_left high low 0 at (omega arith) in
    let second = get_or-append_right high low 16 (16 + at) 0 h (omega arith) in
    let offset : 16 + at - 16 ≡ at = omega arith in
    let rest = picked_woven (at + 1) n high low h l (omega arith) in
    let high_more = chunk_more at n high (omega arith) in
    let low_more = chunk_more at n low (omega arith) in
    rw (first, second, offset, rest, high_more, low_more) refl

-- ---- The test of two vectors, and the bytes of pairs.

lowest_bit : (b : Bool) (m : ℕ) → not (nat_eq (cond b 1 0 + 2 * m) 0) ≡ (b || not (nat_eq m 0))
lowest_bit true m = ap not (ne_eqb (1 + 2 * m) 0 (omega arith))
lowest_bit false m =
    elim (cases_eq m 0) [
      | inl none ↦ rw none refl
      | inr some ↦ ap not (ne_eqb (0 + 2 * m) 0 (omega arith)) ∙ sym (ap not (ne_eqb m 0 some))
    ]

mask_any : (high low : List ℕ)
    → not (nat_eq (mask_l (map (λ x. ltb 15 x) (zip2 (λ a b. bit_or a b) high low))) 0) ≡ any_large high low
mask_any [] low = refl
mask_any (h ∷ high) [] = refl
mask_any (h ∷ high) (l ∷ low) =
    lowest_bit (ltb 15 (bit_or h l)) (mask_l (map (λ x. ltb 15 x) (zip2 (λ a b. bit_or a b) high low)))
    ∙ ap (λ (b : Bool). ltb 15 (bit_or h l) || b) (mask_any high low)

pub large_lanes : (high low : List ℕ) → length high ≡ 16 → length low ≡ 16
    → not (nat_eq (mask_l (mask_of (replicate 16 15) (zip2 (λ a b. bit_or a b) high low)) % 2 ^ 64) 0)
    ≡ any_large high low
large_lanes high low h l =
    let both : List ℕ = zip2 (λ a b. bit_or a b) high low in
    let len : length both ≡ 16 = length-zip2 (λ (a : ℕ) (b : ℕ). bit_or a b) high low (omega arith) ∙ h in
    let tests : mask_of (replicate 16 15) both ≡ map (λ x. ltb 15 x) both =
    tops_compared w8 ltb (replicate 16 15) both ∙ zip2_splat_left ltb 15 16 both len in
    let short = mask_l-mod (map (λ x. ltb 15 x) both) 64 (omega (arith, length-map both (λ (x : ℕ). ltb 15 x), len)) in
    rw (tests, short) (mask_any high low)

zip2-map_left : (f : ℕ → ℕ → ℕ) (g : ℕ → ℕ) (xs ys : List ℕ) → zip2 f (map g xs) ys ≡ zip2 (λ x y. f (g x) y) xs ys
zip2-map_left f g [] ys = refl
zip2-map_left f g (x ∷ xs) [] = refl
zip2-map_left f g (x ∷ xs) (y ∷ ys) = ap (λ (l : List ℕ). f (g x) y ∷ l) (zip2-map_left f g xs ys)

pub paired_lanes : (high low : List ℕ) → length high ≡ 16
    → zip2 (λ a b. (a + b) % 256) (zip2 (λ a b. a * b % 256) high (replicate 16 16)) low ≡ zip2 pair_byte high low
paired_lanes high low h =
    ap (λ (t : List ℕ). zip2 (λ a b. (a + b) % 256) t low) (zip2_splat (λ (a : ℕ) (b : ℕ). a * b % 256) high 16 16 h)
    ∙ zip2-map_left (λ a b. (a + b) % 256) (λ a. a * 16 % 256) high low

-- ---- Digits in a table.

abbrev pub digit_table : List ℕ
digit_table = 48 ∷ 49 ∷ 50 ∷ 51 ∷ 52 ∷ 53 ∷ 54 ∷ 55 ∷ 56 ∷ 57 ∷ 97 ∷ 98 ∷ 99 ∷ 100 ∷ 101 ∷ 102 ∷ []

pub looked_up : (values : List ℕ) → length values ≡ 16 → Each1 (λ x. x < 16) values
    → swz_l w8 16 digit_table 0 values ≡ map digit_of values
unfolding agree_below digit_of
looked_up values len small =
    ext_get_or 0 (swz_l w8 16 digit_table 0 values) (map digit_of values)
    (length-swz_l w8 16 digit_table 0 values ∙ sym (length-map values digit_of))
    (λ i below.
    let within : i < length values = omega (arith, below, length-swz_l w8 16 digit_table 0 values) in
    let value : get_or values i 0 < 16 = Each1-get_or (λ x. x < 16) values i 0 within small in
    let first : 16 * ((0 + i) / 16) + get_or values i 0 ≡ get_or values i 0 = omega (arith, within, len) in
    get_or-swz_l_below w8 16 digit_table 0 values i within value
    ∙ ap (λ (k : ℕ). get_or digit_table k 0) first
    ∙ agree_at (λ (k : ℕ). get_or digit_table k 0) digit_of 16 refl (get_or values i 0) value
    ∙ sym (get_or-map digit_of values i 0 0 within))

pub halves_small : (bytes : List ℕ) → Each1 (λ x. x < 256) bytes → Each1 (λ x. x < 16) (map (λ x. x / 16) bytes)
halves_small [] small = tt
halves_small (b ∷ bytes) small = (omega (arith, small.0), halves_small bytes small.1)

pub rests_small : (bytes : List ℕ) → Each1 (λ x. x < 16) (map (λ x. bit_and x 15) bytes)
rests_small [] = tt
rests_small (b ∷ bytes) = (omega (arith, and_mask b 4), rests_small bytes)
