-- An array whose elements are written one by one, from the first on, with slices of the elements of a list.
use Rattle.std.proofs.Common.{◌≡◌, ℕ, suc, zero, ◌+◌, ◌<◌, List, [], ◌∷◌, ◌++◌, map, length, take, drop, set}
use Rattle.std.proofs.Common.{refl, sym, ap, ◌∙◌, subst, arith, lt-suc_self, take-suc, get_or, slice_get, Some}
use Rattle.std.proofs.lemmas.List.{map-append, take_more_set, drop-set-lt, length-map, get_or-map}
use Rattle.std.proofs.lemmas.Option.{none-some, same_Some}

-- A prefix of a list, and the rest of the list.
front_more : {X : Type 0} (all rest : List X) (x : X) (n : ℕ) → drop n all ≡ x ∷ rest → take (suc n) all ≡ take n all ++ x ∷ []
front_more [] rest x zero left = absurd (omega (arith, ap length left))
front_more (y ∷ all) rest x zero left = ap (λ l. take 1 l) left
front_more [] rest x (suc n) left = absurd (omega (arith, ap length left))
front_more (y ∷ all) rest x (suc n) left = ap (λ l. y ∷ l) (front_more all rest x n left)

front_less : {X : Type 0} (all rest : List X) (x : X) (n : ℕ) → drop n all ≡ x ∷ rest → drop (suc n) all ≡ rest
front_less [] rest x zero left = absurd (omega (arith, ap length left))
front_less (y ∷ all) rest x zero left = ap (drop 1) left
front_less [] rest x (suc n) left = absurd (omega (arith, ap length left))
front_less (y ∷ all) rest x (suc n) left = front_less all rest x n left

-- The rest after one more element.
drop_one : {X : Type 0} (n : ℕ) (list : List X) → drop (suc n) list ≡ drop 1 (drop n list)
drop_one zero list = refl
drop_one (suc n) [] = refl
drop_one (suc n) (x ∷ list) = drop_one n list

drop_one_more : {X : Type 0} (n : ℕ) (one other : List X) → drop n one ≡ drop n other → drop (suc n) one ≡ drop (suc n) other
drop_one_more n one other same = drop_one n one ∙ ap (drop 1) same ∙ sym (drop_one n other)

-- An element that is written extends the written prefix.
told_one : {X Y : Type 0} (f : X → Y) (places : List X) (all : List Y) (x : X) (n : ℕ)
    → map f (take n places) ≡ take n all → take (suc n) all ≡ take n all ++ f x ∷ [] → n < length places
    → map f (take (n + 1) (set places n x)) ≡ take (n + 1) all
told_one f places all x n told more room =
    let one : suc n ≡ n + 1 = omega arith in
    ap (map f) (take_more_set places n x room) ∙ map-append f (take n places) (x ∷ []) ∙ ap (λ l. l ++ f x ∷ []) told ∙ sym more ∙ ap (λ k. take k all) one

-- The first of the remaining elements.
pub told_more : {X Y : Type 0} (f : X → Y) (places : List X) (all rest : List Y) (x : X) (n : ℕ)
    → map f (take n places) ≡ take n all → drop n all ≡ f x ∷ rest → n < length places
    → map f (take (n + 1) (set places n x)) ≡ take (n + 1) all
told_more f places all rest x n told left room = told_one f places all x n told (front_more all rest (f x) n left) room

-- Only the first element.
pub told_first : {X Y : Type 0} (f : X → Y) (places : List X) (all : List Y) (x : X) → slice_get all 0 ≡ Some (f x) → 0 < length places
    → map f (take 1 (set places 0 x)) ≡ take 1 all
told_first f places [] x is room = absurd (none-some (f x) is)
told_first f [] (y ∷ all) x is room = absurd (omega (arith, room))
told_first f (place ∷ places) (y ∷ all) x is room = ap (λ t. t ∷ []) (sym (same_Some y (f x) is))

-- The element at the index of the array element.
pub told_at : {X Y Z : Type 0} (f : X → Y) (g : Z → Y) (places : List X) (all : List Z) (x : X) (d : Z) (n : ℕ)
    → map f (take n places) ≡ take n (map g all) → f x ≡ g (get_or all n d) → n < length all → n < length places
    → map f (take (n + 1) (set places n x)) ≡ take (n + 1) (map g all)
told_at f g places all x d n told same there room =
    let more = take-suc (map g all) n (g d) (subst (λ k. n < k) (sym (length-map all g)) there) in
    told_one f places (map g all) x n told (more ∙ ap (λ y. take n (map g all) ++ y ∷ []) (get_or-map g all n d (g d) there ∙ sym same)) room

-- The elements after it stay.
pub behind_less : {X : Type 0} (places old : List X) (x : X) (n : ℕ) → drop n places ≡ drop n old → drop (n + 1) (set places n x) ≡ drop (n + 1) old
behind_less places old x n same =
    let one : suc n ≡ n + 1 = omega arith in
    subst (λ k. drop k (set places n x) ≡ drop k old) one (drop-set-lt (suc n) places n x (lt-suc_self n) ∙ drop_one_more n places old same)

-- One element less remains.
pub left_less : {X : Type 0} (all rest : List X) (x : X) (n : ℕ) → drop n all ≡ x ∷ rest → drop (n + 1) all ≡ rest
left_less all rest x n left = let one : suc n ≡ n + 1 = omega arith in subst (λ k. drop k all ≡ rest) one (front_less all rest x n left)
