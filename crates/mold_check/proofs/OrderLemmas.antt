-- The datagrams have an order. If the names differ, it is the only one.
use Rattle.std.proofs.Common.{◌≡◌, ℕ, zero, suc, ◌+◌, ◌<◌, ◌≤◌, Bool, true, false, List, [], ◌∷◌, length, get_or, map}
use Rattle.std.proofs.Common.{Bor, inl, inr, refl, sym, ap, subst, ◌∙◌, arith, if◌then◌else◌}
use Rattle.std.specs.List.{Contains, filter, sum_by}
use Rattle.std.specs.Cmp.{IsStrictWeakOrder}
use Rattle.std.specs.Cmp.Lexicographic.{slice_cmp}
use Rattle.std.specs.FinMap.{nat_cmp-IsAntisymmetric, slice_cmp-IsAntisymmetric}
use Rattle.std.specs.List.Sorted.{IsPermutation, IsSortedBy}
use Rattle.std.proofs.Common.{Ordering, Less, Equal, Greater}
use Rattle.std.specs.Ordering.{is_lt, nat_cmp, ordering_reverse}
use Rattle.std.proofs.lemmas.Bool.{cases_order, true≢false}
use Rattle.std.proofs.lemmas.Cmp.{nat_list_cmp_total}
use Rattle.std.proofs.lemmas.List.Sums.{sum_by-cons}
use Rattle.std.proofs.lemmas.List.Sorted.{Contains-permutation, IsPermutation-map, IsPermutation-sym}
use Rattle.std.proofs.lemmas.List.Sorted.{length_permutation, ranks_by, sorted_far, sum_by-IsPermutation}
use Rattle.mold_check.specs.Entries.{IsOrder, NamesDiffer, is_below, is_datagram, name_of}
use Rattle.mold_check.specs.declared.entry.Entry.{Entry}

-- The borrowed entries.
abbrev pub lent : List (Bor Entry) → List Entry
lent list = map (λ e. e.now) list

length-lent : (list : List (Bor Entry)) → length (lent list) ≡ length list
length-lent [] = refl
length-lent (e ∷ list) = ap suc (length-lent list)

lent_at : (list : List (Bor Entry)) (k : ℕ) (d : Entry) (e : Bor Entry) → k < length list →
    get_or (lent list) k d ≡ (get_or list k e).now
lent_at [] k d e within = absurd (omega arith)
lent_at (x ∷ list) zero d e within = refl
lent_at (x ∷ list) (suc k) d e within = lent_at list k d e (omega arith)

-- The order of borrowed entries is that of the entries.
abbrev pub is_lent_below : Bor Entry → Bor Entry → Bool
is_lent_below one other = is_below one.now other.now

lent_ascending : (list : List (Bor Entry)) → IsSortedBy is_lent_below list → IsSortedBy is_below (lent list)
lent_ascending [] up = λ k d low high. absurd (omega arith)
lent_ascending (x ∷ list) up = λ k d low high.
    let within : k + 1 < length (x ∷ list) = omega (arith, length-lent list) in
    let next = lent_at (x ∷ list) (k + 1) d x within in
    let this = lent_at (x ∷ list) k d x (omega arith) in
    ap (λ (e : Entry). is_below e (get_or (lent (x ∷ list)) k d)) next
    ∙ ap (is_below (get_or (x ∷ list) (k + 1) x).now) this
    ∙ up k x (omega arith) within

pub order_is : (entries : List Entry) (found order : List (Bor Entry)) → lent found ≡ filter is_datagram entries →
    IsPermutation found order → IsSortedBy is_lent_below order → IsOrder entries (lent order)
order_is entries found order is moved up = record {
  moved = subst (λ (l : List Entry). IsPermutation l (lent order)) is (IsPermutation-map (λ e. e.now) found order moved);
  ascending = lent_ascending order up;
}

length-found : (entries : List Entry) → length (filter is_datagram entries) ≤ length entries
length-found [] = omega arith
length-found (e ∷ entries) =
    elim (is_datagram e) as (λ b. length (if b then e ∷ filter is_datagram entries else filter is_datagram entries) ≤ suc (length entries)) [
      | true ↦ omega (arith, length-found entries)
      | false ↦ omega (arith, length-found entries)
    ]

-- There are at most as many datagrams as entries.
pub order_few : (entries order : List Entry) → IsOrder entries order → length order ≤ length entries
order_few entries order is =
    omega (arith, length_permutation (filter is_datagram entries) order is.moved, length-found entries)

-- Names are ordered by their bytes.
ranked : IsStrictWeakOrder is_below
ranked = ranks_by nat_list_cmp_total name_of

-- If neither of two names is below the other, they are equal.
same_name : (x y : Entry) → is_below x y ≡ false → is_below y x ≡ false → name_of x ≡ name_of y
same_name x y this other =
    slice_cmp-IsAntisymmetric nat_cmp-IsAntisymmetric (name_of x) (name_of y)
    (tied (slice_cmp nat_cmp (name_of x) (name_of y)) (slice_cmp nat_cmp (name_of y) (name_of x))
    (nat_list_cmp_total.antisymm (name_of y) (name_of x)) this other)
  where
    tied : (r s : Ordering) → s ≡ ordering_reverse r → is_lt r ≡ false → is_lt s ≡ false → r ≡ Equal
    tied Less s is this other = absurd (true≢false this)
    tied Equal s is this other = refl
    tied Greater s is this other = absurd (true≢false (sym (ap is_lt is) ∙ other))

-- The lists have equally many entries of each kind, whatever the kinds are.
abbrev SameSums : List Entry → List Entry → Type 0
SameSums xs ys = (f : Entry → ℕ) → sum_by f xs ≡ sum_by f ys

sum_none : (f : Entry → ℕ) (xs : List Entry) → ((k : ℕ) (d : Entry) → k < length xs → f (get_or xs k d) ≡ 0) →
    sum_by f xs ≡ 0
sum_none f [] none = refl
sum_none f (x ∷ xs) none =
    let rest = sum_none f xs (λ k d within. none (suc k) d (omega arith)) in
    omega (arith, sum_by-cons f x xs, rest, none 0 x (omega arith))

-- Counts whether one entry is below another.
abbrev one_below : Entry → Entry → ℕ
one_below y e = if is_below e y then 1 else 0

-- The first entry of a list is not below the first entry of an ascending list with the same entries.
not_below : (x y : Entry) (xs ys : List Entry) → SameSums (x ∷ xs) (y ∷ ys) → IsSortedBy is_below (y ∷ ys) →
    (b : Bool) → is_below x y ≡ b → is_below x y ≡ false
not_below x y xs ys same up false is = is
not_below x y xs ys same up true is =
    let none = sum_none (one_below y) (y ∷ ys)
    (λ k d within. ap (λ (b : Bool). if b then 1 else 0) (sorted_far is_below ranked (y ∷ ys) up 0 k d (omega arith) within))
    in
    let one : one_below y x ≡ 1 = ap (λ (b : Bool). if b then 1 else 0) is in
    absurd (omega (arith, same (one_below y), none, sum_by-cons (one_below y) x xs, one))

abbrev Agree : List Entry → List Entry → Type 0
Agree xs ys = (x y : Entry) → Contains xs x → Contains ys y → name_of x ≡ name_of y → x ≡ y

first_of : (x : Entry) (xs : List Entry) → Contains (x ∷ xs) x
first_of x xs = (0, omega arith, refl)

behind : (x y : Entry) (xs : List Entry) → Contains xs y → Contains (x ∷ xs) y
behind x y xs has = (suc has.0, omega (arith, has.1), has.2)

-- Two ascending lists with the same entries are equal.
same_order : (xs ys : List Entry) → SameSums xs ys → IsSortedBy is_below xs → IsSortedBy is_below ys → Agree xs ys →
    xs ≡ ys
same_order [] [] same up rises agree = refl
same_order [] (y ∷ ys) same up rises agree =
    absurd (omega (arith, same (λ e. 1), sum_by-cons (λ e. 1) y ys))
same_order (x ∷ xs) [] same up rises agree =
    absurd (omega (arith, same (λ e. 1), sum_by-cons (λ e. 1) x xs))
same_order (x ∷ xs) (y ∷ ys) same up rises agree =
    let name = same_name x y (not_below x y xs ys same rises _ refl)
    (not_below y x ys xs (λ f. sym (same f)) up _ refl)
    in
    let head : x ≡ y = agree x y (first_of x xs) (first_of y ys) name in
    let rest : SameSums xs ys = λ f.
    omega (arith, same f, sum_by-cons f x xs, sum_by-cons f y ys, ap f head)
    in
    let tail : xs ≡ ys = same_order xs ys rest
    (λ k d low high. sorted_far is_below ranked (x ∷ xs) up (suc k) (suc (k + 1)) d (omega arith) (omega arith))
    (λ k d low high. sorted_far is_below ranked (y ∷ ys) rises (suc k) (suc (k + 1)) d (omega arith) (omega arith))
    (λ p q in_xs in_ys. agree p q (behind x p xs in_xs) (behind y q ys in_ys))
    in
    (λ i. head i ∷ tail i)

kept_from : (b : Bool) (e : Entry) (kept entries : List Entry) → ((x : Entry) → Contains kept x → Contains entries x) →
    (x : Entry) → Contains (if b then e ∷ kept else kept) x → Contains (e ∷ entries) x
kept_from false e kept entries from x has = behind e x entries (from x has)
kept_from true e kept entries from x (zero, within, is) = (zero, omega arith, is)
kept_from true e kept entries from x (suc k, within, is) = behind e x entries (from x (k, omega arith, is))

found_from : (entries : List Entry) (x : Entry) → Contains (filter is_datagram entries) x → Contains entries x
found_from [] x has = has
found_from (e ∷ entries) x has =
    kept_from (is_datagram e) e (filter is_datagram entries) entries (found_from entries) x has

order_from : (entries order : List Entry) → IsOrder entries order → (x : Entry) → Contains order x → Contains entries x
order_from entries order is x has =
    let found = filter is_datagram entries in
    found_from entries x (Contains-permutation order found x (IsPermutation-sym found order is.moved) has)

-- Entries with the same name are the same entry.
same_entry : (entries : List Entry) → NamesDiffer entries → (x y : Entry) → Contains entries x → Contains entries y →
    name_of x ≡ name_of y → x ≡ y
same_entry entries differ x y (i, in_i, at_i) (j, in_j, at_j) name =
    elim (cases_order i j) [
      | inl same ↦ sym at_i ∙ ap (λ (k : ℕ). get_or entries k x) same ∙ at_any entries j x y in_j ∙ at_j
      | inr rest ↦ elim rest [
        | inl below ↦ absurd (differ i j x below in_j
            (ap name_of at_i ∙ name ∙ sym (ap name_of (at_any entries j x y in_j ∙ at_j))))
        | inr above ↦ absurd (differ j i y above in_i
            (ap name_of at_j ∙ sym name ∙ sym (ap name_of (at_any entries i y x in_i ∙ at_i))))
      ]
    ]
  where
    at_any : (list : List Entry) (k : ℕ) (d e : Entry) → k < length list → get_or list k d ≡ get_or list k e
    at_any [] k d e within = absurd (omega arith)
    at_any (z ∷ list) zero d e within = refl
    at_any (z ∷ list) (suc k) d e within = at_any list k d e (omega arith)

-- If the names differ, there is only one order.
pub one_order : (entries one other : List Entry) → NamesDiffer entries → IsOrder entries one → IsOrder entries other →
    one ≡ other
one_order entries one other differ is so =
    let found = filter is_datagram entries in
    same_order one other
    (λ f. sum_by-IsPermutation f found one is.moved ∙ sym (sum_by-IsPermutation f found other so.moved))
    is.ascending so.ascending
    (λ x y in_one in_other. same_entry entries differ x y (order_from entries one is x in_one)
    (order_from entries other so y in_other))
