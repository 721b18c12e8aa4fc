-- Rings: the indices of their slots, and their items.
use Rattle.std.proofs.Common.{◌≡◌, ◌≢◌, ℕ, zero, suc, ◌+◌, ◌-◌, ◌<◌, ◌≤◌, List, [], ◌∷◌, ◌++◌, length, get_or, take, drop, replicate}
use Rattle.std.proofs.Common.{set, refl, sym, ap, ◌∙◌, inl, inr, arith, ltb, length-set, get_or-set_same}
use Rattle.std.proofs.Common.{get_or-set_other}
use Rattle.std.proofs.lemmas.List.{get_or-replicate, get_or_past, get_or-drop, get_or_append_left}
use Rattle.std.proofs.lemmas.List.{get_or-append_right, get_or-take, length-append, length-drop, length-replicate, length-take-le}
use Rattle.std.proofs.lemmas.Bool.{cases_eq, cases_lt, lt-ltb, le-ltb, cond-true, cond-false}
use Rattle.std.proofs.lemmas.List.FromFn.{fill_by_all, get_or-map-range_with_len, length-map-range_with_len}
use Rattle.std.proofs.lemmas.List.{get_or-map, length-map, map-set}
use Rattle.std.specs.Prelude.{Option, None, slice_get}
use Rattle.std.specs.Option.{option_flatten}
use Rattle.mold_receiver.specs.declared.place.Place.{Place}
use Rattle.mold_receiver.specs.Places.{place_at, place_of, places_of}
use Rattle.mold_receiver.specs.Ring.{index_of, ring_in, ring_of}

-- The indices of the slots of a ring.
module _ (head count slot : ℕ) (within : head < count) where
  pub index_first : head + slot < count → index_of head count slot ≡ head + slot
  index_first below = cond-true (ltb (head + slot) count) (head + slot) (head + slot - count)
      (lt-ltb (head + slot) count below)

  pub index_wrapped : count ≤ head + slot → index_of head count slot ≡ head + slot - count
  index_wrapped past = cond-false (ltb (head + slot) count) (head + slot) (head + slot - count)
      (le-ltb (head + slot) count past)

  pub index_within : slot < count → index_of head count slot < count
  index_within inside =
      elim (cases_lt (head + slot) count) [
        | inl below ↦ omega (arith, index_first below)
        | inr past ↦ omega (arith, index_wrapped past)
      ]

pub index_starts : (head count slot : ℕ) → head < count → slot ≤ count → index_of head count slot < count
index_starts head count slot within most =
    elim (cases_lt (head + slot) count) [
      | inl below ↦ omega (arith, index_first head count slot within below)
      | inr past ↦ omega (arith, index_wrapped head count slot within past)
    ]

pub index_same : (head count i j : ℕ) → head < count → i < count → j < count →
    index_of head count i ≡ index_of head count j → i ≡ j
index_same head count i j within first second same =
    elim (cases_lt (head + i) count) [
      | inl below ↦
          elim (cases_lt (head + j) count) [
            | inl below_too ↦ omega (
              arith,
              same,
              index_first head count i within below,
              index_first head count j
                  within below_too,
            )
            | inr past ↦ absurd (omega (
              arith,
              same,
              index_first head count i within below,
              index_wrapped head count j
                  within past,
            ))
          ]
      | inr past ↦
          elim (cases_lt (head + j) count) [
            | inl below ↦ absurd (omega (
              arith,
              same,
              index_wrapped head count i within past,
              index_first head count j
                  within below,
            ))
            | inr past_too ↦ omega (
              arith,
              same,
              index_wrapped head count i within past,
              index_wrapped head count j
                  within past_too,
            )
          ]
    ]

-- The index of the slot `k` after slot `from`, before and after the end of the items.
module _ (head count from k : ℕ) (within : head < count) (inside : from + k < count) where
  pub index_along : index_of head count from + k < count → index_of head count (from + k) ≡ index_of head count from + k
  index_along before =
      elim (cases_lt (head + from) count) [
        | inl below ↦
            omega (
              arith,
              before,
              index_first head count from within below,
              index_first head count (from + k) within (omega (arith, index_first head count from within below)),
            )
        | inr past ↦
            omega (
              arith,
              index_wrapped head count from within past,
              index_wrapped head count (from + k) within (omega arith),
            )
      ]

  pub index_over :
      count ≤ index_of head count from + k → index_of head count (from + k) ≡ index_of head count from + k - count
  index_over after =
      elim (cases_lt (head + from) count) [
        | inl below ↦
            omega (
              arith,
              index_first head count from within below,
              index_wrapped head count (from + k) within (omega (arith, index_first head count from within below)),
            )
        | inr past ↦ absurd (omega (arith, index_wrapped head count from within past))
      ]

-- The index of slot `k` after the head has moved by `n` slots.
module _ (head count n k : ℕ) (within : head < count) (few : n ≤ count) (inside : k < count) where
  pub index_turned : n + k < count → index_of (index_of head count n) count k ≡ index_of head count (n + k)
  index_turned below =
      let low : index_of head count n < count = index_within head count n within (omega arith) in
      elim (cases_lt (index_of head count n + k) count) [
        | inl before ↦
            index_first (index_of head count n) count k low before ∙ sym (index_along head count n k within below before)
        | inr after ↦
            index_wrapped (index_of head count n) count k low after ∙ sym (index_over head count n k within below after)
      ]

  pub index_around :
      count ≤ n + k → index_of (index_of head count n) count k ≡ index_of head count (n + k - count)
  index_around past =
      elim (cases_lt (head + n) count) [
        | inl below ↦
            rw (index_first head count n within below)
            (index_wrapped (head + n) count k below (omega arith)
            ∙ omega (arith, index_first head count (n + k - count) within (omega arith)))
        | inr wraps ↦
            rw (index_wrapped head count n within wraps)
            (elim (cases_lt (head + n - count + k) count) [
              | inl before ↦ index_first (head + n - count) count k (omega arith) before
                  ∙ omega (arith, index_first head count (n + k - count) within (omega arith))
              | inr after ↦ index_wrapped (head + n - count) count k (omega arith) after
                  ∙ omega (arith, index_wrapped head count (n + k - count) within (omega arith))
            ])
      ]

-- The index after that of slot `k` is that of the next slot.
pub index_next : (head count k : ℕ) → head < count → k < count →
    index_of (index_of head count k) count 1 ≡ index_of head count (k + 1)
index_next head count k within inside =
    elim (cases_lt (k + 1) count) [
      | inl more ↦ index_turned head count k 1 within (omega arith) (omega arith) more
      | inr last ↦
          let around : index_of head count (k + 1) ≡ head =
          omega (arith, index_wrapped head count (k + 1) within (omega arith)) in
          elim (cases_lt (head + k) count) [
            | inl below ↦
                rw (index_first head count k within below)
                (index_wrapped (head + k) count 1 below (omega arith) ∙ omega (arith, around))
            | inr past ↦
                rw (index_wrapped head count k within past)
                (index_first (head + k - count) count 1 (omega arith) (omega arith) ∙ omega (arith, around))
          ]
    ]

-- The first `n` items of a list, and the rest.
skip_all : {A : Type 0} (n : ℕ) (x : A) (rest : List A) → drop n (replicate n x ++ rest) ≡ rest
skip_all zero x rest = refl
skip_all (suc n) x rest = skip_all n x rest

take_all : {A : Type 0} (n : ℕ) (x : A) (rest : List A) → take n (replicate n x ++ rest) ≡ replicate n x
take_all zero x rest = refl
take_all {A = A} (suc n) x rest = ap (λ (t : List A). x ∷ t) (take_all n x rest)

pub filled_next : {A : Type 0} (i : ℕ) (x : A) (xs : List A) → i < length xs →
    set (replicate i x ++ drop i xs) i x ≡ replicate (suc i) x ++ drop (suc i) xs
filled_next i x [] inside = absurd (omega arith)
filled_next zero x (y ∷ xs) inside = refl
filled_next {A = A} (suc i) x (y ∷ xs) inside = ap (λ (t : List A). x ∷ t) (filled_next i x xs (omega arith))

-- A list keeps its length if some of its items are replaced.
pub filled_long : {A : Type 0} (slot n : ℕ) (x : A) (xs : List A) → slot + n ≤ length xs →
    length (take slot xs ++ replicate n x ++ drop (slot + n) xs) ≡ length xs
filled_long slot n x xs inside =
    omega (
      arith,
      length-append (take slot xs ++ replicate n x) (drop (slot + n) xs),
      length-append (take slot xs) (replicate n x),
      length-take-le slot xs (omega arith),
      length-replicate n x,
      length-drop (slot + n) xs,
    )

-- The items of a ring. `none` is any item.
module _ {A : Type 0} (none : A) (item : ℕ → A) (head count : ℕ) where
  pub ring_long : length (ring_in item head count) ≡ count
  unfolding ring_in
  ring_long = length-map-range_with_len (λ slot. item (index_of head count slot)) 0 count

  pub item_in : (slot : ℕ) → slot < count → get_or (ring_in item head count) slot none ≡ item (index_of head count slot)
  unfolding ring_in
  item_in slot within =
      get_or-map-range_with_len (λ slot. item (index_of head count slot)) 0 count slot slot none within (omega arith)

  pub item_past : (slot : ℕ) → count ≤ slot → get_or (ring_in item head count) slot none ≡ none
  item_past slot past = get_or_past (ring_in item head count) slot none (omega (arith, ring_long))

  pub ring_is : (items : List A) → length items ≡ count
      → ((slot : ℕ) → slot < count → get_or items slot none ≡ item (index_of head count slot))
      → items ≡ ring_in item head count
  unfolding ring_in
  ring_is items long each = fill_by_all (λ slot. item (index_of head count slot)) items count none long each

pub ring_new : {A : Type 0} (none : A) (item : ℕ → A) (count : ℕ) → ((i : ℕ) → i < count → item i ≡ none) →
    ring_in item 0 count ≡ replicate count none
ring_new none item count clear =
    sym (ring_is none item 0 count (replicate count none) (length-replicate count none)
    (λ slot within. get_or-replicate count slot none none within
    ∙ sym (clear (index_of 0 count slot) (index_within 0 count slot (omega arith) within))))

-- The item of a slot is replaced.
module _ {A : Type 0} (none : A) (old new : ℕ → A) (head count slot : ℕ) (x : A) (within : head < count)
    (inside : slot < count) where
  pub ring_set : new (index_of head count slot) ≡ x
      → ((i : ℕ) → i ≢ index_of head count slot → new i ≡ old i)
      → ring_in new head count ≡ set (ring_in old head count) slot x
  ring_set written others =
      sym (ring_is none new head count (set (ring_in old head count) slot x)
      (length-set (ring_in old head count) slot x ∙ ring_long none old head count)
      (λ k below.
      elim (cases_eq k slot) [
        | inl same ↦
            rw same
            (get_or-set_same (ring_in old head count) slot x none (omega (arith, ring_long none old head count))
            ∙ sym written)
        | inr other ↦
            get_or-set_other (ring_in old head count) slot k x none other
            ∙ item_in none old head count k below
            ∙ sym (others (index_of head count k) (λ same. other
            (index_same head count k slot within below inside same)))
      ]))

-- The items of `n` slots are replaced by `x`.
module _ {A : Type 0} (none : A) (old new : ℕ → A) (head count slot n : ℕ) (x : A) (inside : slot + n ≤ count) where
  pub ring_filled :
      ((k : ℕ) → slot ≤ k → k < slot + n → new (index_of head count k) ≡ x) →
      ((k : ℕ) → k < slot → new (index_of head count k) ≡ old (index_of head count k)) →
      ((k : ℕ) → slot + n ≤ k → k < count → new (index_of head count k) ≡ old (index_of head count k)) →
      ring_in new head count ≡ take slot (ring_in old head count) ++ replicate n x ++ drop (slot + n)
      (ring_in old head count)
  ring_filled written before after =
      let ring = ring_in old head count in
      let long = ring_long none old head count in
      let start : length (take slot ring) ≡ slot = length-take-le slot ring (omega (arith, long)) in
      let first : length (take slot ring ++ replicate n x) ≡ slot + n =
      omega (arith, length-append (take slot ring) (replicate n x), length-replicate n x, start) in
      sym (ring_is none new head count (take slot ring ++ replicate n x ++ drop (slot + n) ring)
      (filled_long slot n x ring (omega (arith, long)) ∙ long)
      (λ k below.
      elim (cases_lt k (slot + n)) [
        | inl within ↦
            get_or_append_left (take slot ring ++ replicate n x) (drop (slot + n) ring) none k (omega (arith, first))
            ∙ elim (cases_lt k slot) [
              | inl low ↦
                  get_or_append_left (take slot ring) (replicate n x) none k (omega (arith, start))
                  ∙ get_or-take slot ring k none low
                  ∙ item_in none old head count k below
                  ∙ sym (before k low)
              | inr high ↦
                  get_or-append_right (take slot ring) (replicate n x) slot k none start high
                  ∙ get_or-replicate n (k - slot) x none (omega arith)
                  ∙ sym (written k high within)
            ]
        | inr past ↦
            get_or-append_right (take slot ring ++ replicate n x) (drop (slot + n) ring) (slot + n) k none first past
            ∙ get_or-drop (slot + n) ring (k - (slot + n)) none
            ∙ ap (λ i. get_or ring i none) (omega arith)
            ∙ item_in none old head count k below
            ∙ sym (after k past below)
      ]))

-- The head moves by `n` slots.
module _ {A : Type 0} (none : A) (item : ℕ → A) (head count n : ℕ) (within : head < count) (few : n ≤ count) where
  pub ring_turned :
      ring_in item (index_of head count n) count ≡ drop n (ring_in item head count) ++ take n (ring_in item head count)
  ring_turned =
      let ring = ring_in item head count in
      let long = ring_long none item head count in
      let rest : length (drop n ring) ≡ count - n = omega (arith, length-drop n ring, long) in
      let start : length (take n ring) ≡ n = length-take-le n ring (omega (arith, long)) in
      sym (ring_is none item (index_of head count n) count (drop n ring ++ take n ring)
      (omega (arith, length-append (drop n ring) (take n ring), rest, start))
      (λ k below.
      elim (cases_lt (n + k) count) [
        | inl before ↦
            get_or_append_left (drop n ring) (take n ring) none k (omega (arith, rest))
            ∙ get_or-drop n ring k none
            ∙ ap (λ i. get_or ring i none) (omega arith)
            ∙ item_in none item head count (n + k) before
            ∙ sym (ap item (index_turned head count n k within few below before))
        | inr after ↦
            get_or-append_right (drop n ring) (take n ring) (count - n) k none rest (omega arith)
            ∙ get_or-take n ring (k - (count - n)) none (omega arith)
            ∙ ap (λ i. get_or ring i none) (omega arith)
            ∙ item_in none item head count (n + k - count) (omega arith)
            ∙ sym (ap item (index_around head count n k within few below after))
      ]))

  -- Moves by `n` slots whose items are `none`.
  pub ring_skipped :
      (before : List A) → ring_in item head count ≡ replicate n none ++ drop n before →
      ring_in item (index_of head count n) count ≡ drop n before ++ replicate n none
  ring_skipped before are =
      ring_turned
      ∙ ap (λ (t : List A). drop n t ++ take n t) are
      ∙ ap (λ (t : List A). t ++ take n (replicate n none ++ drop n before)) (skip_all n none (drop n before))
      ∙ ap (λ (t : List A). drop n before ++ t) (take_all n none (drop n before))

-- Rings of places.
flatten_get : {A : Type 0} (xs : List (Option A)) (i : ℕ) → option_flatten (slice_get xs i) ≡ get_or xs i None
flatten_get [] i = refl
flatten_get (x ∷ xs) zero = refl
flatten_get (x ∷ xs) (suc i) = flatten_get xs i

-- What a ring of places has at an index.
abbrev pub place_in : List Place → ℕ → Option Place
place_in places i = get_or (places_of places) i None

module _ (places : List Place) (head slot : ℕ) where
  pub ring_place : head < length places → slot < length places → (x : Place) →
      x ≡ get_or places (index_of head (length places) slot) x → place_at (ring_of places head) slot ≡ place_of x
  ring_place within inside x is =
      flatten_get (ring_of places head) slot
      ∙ item_in None (place_in places) head (length places) slot inside
      ∙ get_or-map place_of places (index_of head (length places) slot) x None
      (index_within head (length places) slot within inside)
      ∙ ap place_of (sym is)

  pub ring_past : length places ≤ slot → place_at (ring_of places head) slot ≡ None
  ring_past past =
      flatten_get (ring_of places head) slot ∙ item_past None (place_in places) head (length places) slot past

pub places_new : (places : List Place) (n : ℕ) (x : Place) → places ≡ replicate n x → place_of x ≡ None →
    ring_of places 0 ≡ replicate n None
places_new places n x are none =
    let long : length places ≡ n = ap (λ (t : List Place). length t) are ∙ length-replicate n x in
    ap (λ k. ring_in (place_in places) 0 k) long
    ∙ ring_new None (place_in places) n (λ i within.
    get_or-map place_of places i x None (omega (arith, long))
    ∙ ap place_of (ap (λ (t : List Place). get_or t i x) are ∙ get_or-replicate n i x x within)
    ∙ none)

pub ring_count : (places : List Place) (head : ℕ) (slots : List (Option Place)) → ring_of places head ≡ slots →
    length places ≡ length slots
ring_count places head slots are =
    sym (ring_long None (place_in places) head (length places)) ∙ ap (λ (t : List (Option Place)). length t) are

module _ (places : List Place) (head : ℕ) (within : head < length places) where
  pub ring_written : (slot : ℕ) (place : Place) (held : Option Place) → slot < length places → place_of place ≡ held →
      ring_of (set places (index_of head (length places) slot) place) head ≡ set (ring_of places head) slot held
  ring_written slot place held inside is =
      let index = index_of head (length places) slot in
      let are = map-set place_of places index place in
      ap (λ n. ring_in (place_in (set places index place)) head n) (length-set places index place)
      ∙ ring_set None (place_in places) (place_in (set places index place)) head (length places) slot held within
      inside
      (ap (λ (t : List (Option Place)). get_or t index None) are
      ∙ get_or-set_same (places_of places) index (place_of place) None
      (omega (arith, index_within head (length places) slot within inside, length-map places place_of))
      ∙ is)
      (λ i other.
      ap (λ (t : List (Option Place)). get_or t i None) are
      ∙ get_or-set_other (places_of places) index i (place_of place) None other)

  -- The first empty slots, one more of them, and a head that moves past them.
  module _ (i : ℕ) (slots : List (Option Place)) (filled : ring_of places head ≡ replicate i None ++ drop i slots)
      (long : length places ≡ length slots) where
    pub ring_emptied : (place : Place) → place_of place ≡ None → i < length places →
        ring_of (set places (index_of head (length places) i) place) head ≡ replicate (i + 1) None ++ drop (i + 1) slots
    ring_emptied place is inside =
        let next : suc i ≡ i + 1 = omega arith in
        ring_written i place None inside is
        ∙ ap (λ (t : List (Option Place)). set t i None) filled
        ∙ filled_next i None slots (omega (arith, long))
        ∙ ap (λ (n : ℕ). replicate n None ++ drop n slots) next

    pub ring_past_empty : i ≤ length places →
        ring_of places (index_of head (length places) i) ≡ drop i slots ++ replicate i None
    ring_past_empty few = ring_skipped None (place_in places) head (length places) i within few slots filled

-- The first slot of a ring, and the ring after this slot was emptied and became the last one.
module _ (places : List Place) (head : ℕ) (within : head < length places) where
  first_index : index_of head (length places) 0 ≡ head
  first_index = omega (arith, index_first head (length places) 0 within (omega (arith, within)))

  pub first_place : (x : Place) → x ≡ get_or places head x → place_at (ring_of places head) 0 ≡ place_of x
  first_place x is =
      ring_place places head 0 within (omega (arith, within)) x
      (is ∙ ap (λ (i : ℕ). get_or places i x) (sym first_index))

  pub ring_popped : (slots : List (Option Place)) (place : Place) → ring_of places head ≡ slots →
      place_of place ≡ None →
      ring_of (set places head place) (index_of head (length places) 1) ≡ drop 1 slots ++ None ∷ []
  ring_popped slots place are none =
      let same = length-set places head place in
      let long = ring_count places head slots are in
      let emptied : ring_of (set places head place) head ≡ replicate 1 None ++ drop 1 slots =
      ap (λ (i : ℕ). ring_of (set places i place) head) (sym first_index)
      ∙ ring_emptied places head within 0 slots are long place none (omega (arith, within)) in
      ap (λ (n : ℕ). ring_of (set places head place) (index_of head n 1)) (sym same)
      ∙ ring_past_empty (set places head place) head (omega (arith, same, within)) 1 slots emptied (same ∙ long)
      (omega (arith, same, within))
