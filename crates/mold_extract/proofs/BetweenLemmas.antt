-- The carried messages between two numbers.
use Rattle.std.proofs.Common.{◌≡◌, ℕ, zero, suc, ◌+◌, ◌-◌, ◌<◌, ◌≤◌, Bool, true, false, cond, eqb, leb, ltb, T, List}
use Rattle.std.proofs.Common.{[], ◌∷◌}
use Rattle.std.proofs.Common.{length, refl, sym, ap, subst, ◌∙◌, inl, inr, ◌⊎◌, arith}
use Rattle.std.specs.Prelude.{Option, None, Some, ◌&&◌, slice_get}
use Rattle.std.specs.List.{filter}
use Rattle.std.specs.FinMap as finite
use Rattle.std.specs.FinMap.{find, is_sorted}
use Rattle.std.specs.Ordering.{nat_cmp, is_lt}
use Rattle.std.specs.Cmp.{unsigned_tied, ranked}
use Rattle.std.specs.declared.cmp.Ordering.{Ordering}
use Rattle.std.specs.declared.cmp.Ordering.TheVariants.{Less, Equal, Greater}
use Rattle.std.proofs.lemmas.Bool.{cases_lt, cases_order, cond-true, cond-false, le-leb, lt-leb, lt-ltb, le-ltb}
use Rattle.std.proofs.lemmas.Bool.{eq-eqb, ne_eqb}
use Rattle.std.proofs.lemmas.Option.{none-some, same_Some}
use Rattle.mold_capture.specs.Seen.{Pairs, numbered}
use Rattle.mold_extract.specs.Carried.{is_between, carried_between, messages_of}

abbrev pub Entries : Type 0
Entries = List (ℕ × List ℕ)

-- The entries whose numbers are in the range.
abbrev pub within : ℕ → ℕ → Entries → Entries
within first below entries = filter (λ entry. is_between first below entry.0) entries

pub is_in : (n b k : ℕ) → n ≤ k → k < b → is_between n b k ≡ true
is_in n b k low high = ap (λ (t : Bool). t && ltb k b) (le-leb n k low) ∙ lt-ltb k b high

pub is_under : (n b k : ℕ) → k < n → is_between n b k ≡ false
is_under n b k under = ap (λ (t : Bool). t && ltb k b) (lt-leb n k under)

and_false : (t : Bool) → (t && false) ≡ false
and_false true = refl
and_false false = refl

pub is_over : (n b k : ℕ) → b ≤ k → is_between n b k ≡ false
is_over n b k over = ap (λ (t : Bool). leb n k && t) (le-ltb k b over) ∙ and_false (leb n k)

-- A number other than `n` is in the range from `n` exactly if it is in the one from `n + 1`.
other_in : (n b k : ℕ) → (k ≡ n → ⊥) → is_between n b k ≡ is_between (suc n) b k
other_in n b k other =
    elim (cases_order k n) [
      | inl same ↦ absurd (other same)
      | inr (inl under) ↦ is_under n b k under ∙ sym (is_under (suc n) b k (omega arith))
      | inr (inr above) ↦
          ap (λ (t : Bool). t && ltb k b) (le-leb n k (omega arith) ∙ sym (le-leb (suc n) k (omega arith)))
    ]

find_eq : (n : ℕ) (e : ℕ × List ℕ) (es : Entries) →
    find nat_cmp n (e ∷ es) ≡ cond (eqb n e.0) (Some e.1) (find nat_cmp n es)
find_eq n e es = ap (λ (t : Bool). cond t (Some e.1) (find nat_cmp n es)) (unsigned_tied n e.0)

find_first : (n : ℕ) (e : ℕ × List ℕ) (es : Entries) → n ≡ e.0 → find nat_cmp n (e ∷ es) ≡ Some e.1
find_first n e es same = find_eq n e es ∙ cond-true _ _ _ (eq-eqb n e.0 same)

find_later : (n : ℕ) (e : ℕ × List ℕ) (es : Entries) → (n ≡ e.0 → ⊥) → find nat_cmp n (e ∷ es) ≡ find nat_cmp n es
find_later n e es other = find_eq n e es ∙ cond-false _ _ _ (ne_eqb n e.0 other)

-- Without a message of the number `n`, the range may begin after it.
pub skip_one : (n b : ℕ) (es : Entries) → find nat_cmp n es ≡ None → within n b es ≡ within (suc n) b es
skip_one n b [] none = refl
skip_one n b (e ∷ es) none =
    let other : n ≡ e.0 → ⊥ = λ same. none-some e.1 (sym none ∙ find_first n e es same) in
    let rest = skip_one n b es (sym (find_later n e es other) ∙ none) in
    (λ i. cond (other_in n b e.0 (λ is. other (sym is)) i) (e ∷ rest i) (rest i))

less : (o : Ordering) → T (is_lt o) → o ≡ Less
less Less is = refl
less Equal is = absurd is
less Greater is = absurd is

first : (a b : Bool) → T (a && b) → T a
first true b is = tt
first false b is = absurd is

second : (a b : Bool) → T (a && b) → T b
second true b is = is
second false b is = absurd is

rises : (x y : ℕ) → T (is_lt (nat_cmp x y)) → x < y
rises x y is = ranked x y Less (sym (less (nat_cmp x y) is))

in_order : (e : ℕ × List ℕ) (es : Entries) → T (is_sorted nat_cmp (e ∷ es)) → T (is_sorted nat_cmp es)
in_order e es sorted = second _ _ sorted

in_turn : (e f : ℕ × List ℕ) (es : Entries) → T (is_sorted nat_cmp (e ∷ f ∷ es)) → e.0 < f.0
in_turn e f es sorted = rises e.0 f.0 (first _ _ (first _ _ sorted))

-- No number up to that of an entry is found after it.
none_after : (n : ℕ) (e : ℕ × List ℕ) (es : Entries) → T (is_sorted nat_cmp (e ∷ es)) → n ≤ e.0 →
    find nat_cmp n es ≡ None
none_after n e [] sorted low = refl
none_after n e (f ∷ es) sorted low =
    let above : e.0 < f.0 = in_turn e f es sorted in
    find_later n f es (λ same. omega (arith, above, same, low))
    ∙ none_after n f es (in_order e (f ∷ es) sorted) (omega (arith, above, low))

-- A message of the number `n` is the first of the range from `n`.
pub take_one : (n b : ℕ) (m : List ℕ) (es : Entries) → T (is_sorted nat_cmp es) → n < b → find nat_cmp n es ≡ Some m →
    within n b es ≡ (n, m) ∷ within (suc n) b es
take_one n b m [] sorted high found = absurd (none-some m found)
take_one n b m (e ∷ es) sorted high found =
    let rest_sorted : T (is_sorted nat_cmp es) = in_order e es sorted in
    elim (cases_order n e.0) [
      | inl same ↦
          let value : e.1 ≡ m = same_Some e.1 m (sym (find_first n e es same) ∙ found) in
          let entry : e ≡ (n, m) = λ i. (sym same i, value i) in
          cond-true _ _ _ (is_in n b e.0 (omega arith) (omega arith))
          ∙ (λ i. entry i ∷ skip_one n b es (none_after n e es sorted (omega arith)) i)
          ∙ sym (ap (λ (t : Entries). (n, m) ∷ t) (cond-false _ _ _ (is_under (suc n) b e.0 (omega arith))))
      | inr (inl under) ↦
          let later : find nat_cmp n (e ∷ es) ≡ None =
          find_later n e es (λ same. omega (arith, same)) ∙ none_after n e es sorted (omega arith)
          in
          absurd (none-some m (sym later ∙ found))
      | inr (inr above) ↦
          cond-false _ _ _ (is_under n b e.0 above)
          ∙ take_one n b m es rest_sorted high (sym (find_later n e es (λ same. omega (arith, same))) ∙ found)
          ∙ sym (ap (λ (t : Entries). (n, m) ∷ t) (cond-false _ _ _ (is_under (suc n) b e.0 (omega arith))))
    ]

pub none_within : (n b : ℕ) (es : Entries) → b ≤ n → within n b es ≡ []
none_within n b [] empty = refl
none_within n b (e ∷ es) empty =
    elim (cases_lt e.0 n) [
      | inl under ↦ cond-false _ _ _ (is_under n b e.0 under) ∙ none_within n b es empty
      | inr low ↦ cond-false _ _ _ (is_over n b e.0 (omega arith)) ∙ none_within n b es empty
    ]

-- ---- the same of maps

get_found : (pairs : Pairs) (n : ℕ) → finite.get pairs n ≡ find nat_cmp n (finite.entries pairs)
get_found pairs n = finite.get-entries pairs n

pub between_next : (pairs : Pairs) (n b : ℕ) (m : List ℕ) → n < b → finite.get pairs n ≡ Some m →
    carried_between pairs n b ≡ (n, m) ∷ carried_between pairs (suc n) b
unfolding carried_between
between_next pairs n b m high is =
    take_one n b m (finite.entries pairs) (finite.entries_sorted pairs) high (sym (get_found pairs n) ∙ is)

pub between_skip : (pairs : Pairs) (n b : ℕ) → finite.get pairs n ≡ None →
    carried_between pairs n b ≡ carried_between pairs (suc n) b
unfolding carried_between
between_skip pairs n b is = skip_one n b (finite.entries pairs) (sym (get_found pairs n) ∙ is)

pub between_none : (pairs : Pairs) (n b : ℕ) → b ≤ n → carried_between pairs n b ≡ []
unfolding carried_between
between_none pairs n b empty = none_within n b (finite.entries pairs) empty

skip_count : (pairs : Pairs) (n b count : ℕ) → ((k : ℕ) → n ≤ k → k < n + count → finite.get pairs k ≡ None) →
    carried_between pairs n b ≡ carried_between pairs (n + count) b
skip_count pairs n b zero none = ap (λ (k : ℕ). carried_between pairs k b) (omega arith)
skip_count pairs n b (suc count) none =
    between_skip pairs n b (none n (omega arith) (omega arith))
    ∙ skip_count pairs (suc n) b count (λ k low high. none k (omega arith) (omega arith))
    ∙ ap (λ (k : ℕ). carried_between pairs k b) (omega arith)

-- Numbers that are not carried may be left out at the start of the range.
pub between_skips : (pairs : Pairs) (n m b : ℕ) → n ≤ m → ((k : ℕ) → n ≤ k → k < m → finite.get pairs k ≡ None) →
    carried_between pairs n b ≡ carried_between pairs m b
between_skips pairs n m b low none =
    let whole : n + (m - n) ≡ m = omega arith in
    skip_count pairs n b (m - n) (λ k from below. none k from (omega arith))
    ∙ ap (λ (k : ℕ). carried_between pairs k b) whole

-- Without a carried message from `n` on, the range is empty.
pub between_absent : (pairs : Pairs) (n b : ℕ) → ((k : ℕ) → n ≤ k → finite.get pairs k ≡ None) →
    carried_between pairs n b ≡ []
between_absent pairs n b none =
    elim (cases_lt n b) [
      | inl some ↦
          between_skips pairs n b b (omega arith) (λ k low high. none k low) ∙ between_none pairs b b (omega arith)
      | inr empty ↦ between_none pairs n b empty
    ]

option_cases : {X : Type 0} (o : Option X) → (o ≡ None) ⊎ ((x : X) × (o ≡ Some x))
option_cases None = inl refl
option_cases (Some x) = inr (x, refl)

few_count : (pairs : Pairs) (n b count : ℕ) → b ≤ n + count → length (carried_between pairs n b) ≤ count
few_count pairs n b zero enough =
    subst (λ (t : Entries). length t ≤ 0) (sym (between_none pairs n b (omega arith))) (omega arith)
few_count pairs n b (suc count) enough =
    let rest = few_count pairs (suc n) b count (omega arith) in
    elim (cases_lt n b) [
      | inr empty ↦ subst (λ (t : Entries). length t ≤ suc count) (sym (between_none pairs n b empty)) (omega arith)
      | inl some ↦ elim (option_cases (finite.get pairs n)) [
        | inl none ↦
            subst (λ (t : Entries). length t ≤ suc count) (sym (between_skip pairs n b none)) (omega (arith, rest))
        | inr found ↦
            subst (λ (t : Entries). length t ≤ suc count) (sym (between_next pairs n b found.0 some found.1))
            (omega (arith, rest))
      ]
    ]

-- There are at most as many carried messages as numbers.
pub between_few : (pairs : Pairs) (n b : ℕ) → length (carried_between pairs n b) ≤ b - n
between_few pairs n b = few_count pairs n b (b - n) (omega arith)

-- The messages of a list with consecutive numbers, if they are the carried ones.
pub between_list : (pairs : Pairs) (n : ℕ) (messages : List (List ℕ)) →
    ((i : ℕ) → i < length messages → finite.get pairs (n + i) ≡ slice_get messages i) →
    messages_of (carried_between pairs n (n + length messages)) ≡ messages
between_list pairs n [] agrees = ap messages_of (between_none pairs n (n + 0) (omega arith))
between_list pairs n (m ∷ messages) agrees =
    let here : finite.get pairs n ≡ Some m =
    ap (finite.get pairs) (omega arith) ∙ agrees 0 (omega arith)
    in
    let last : n + suc (length messages) ≡ suc n + length messages = omega arith in
    let later = between_list pairs (suc n) messages
    (λ i high. ap (finite.get pairs) (omega arith) ∙ agrees (suc i) (omega arith)) in
    ap messages_of (between_next pairs n (n + suc (length messages)) m (omega arith) here)
    ∙ ap (λ (k : ℕ). m ∷ messages_of (carried_between pairs (suc n) k)) last
    ∙ ap (λ (t : List (List ℕ)). m ∷ t) later

-- The carried messages with consecutive numbers.
pub between_numbered : (pairs : Pairs) (n : ℕ) (messages : List (List ℕ)) →
    ((i : ℕ) → i < length messages → finite.get pairs (n + i) ≡ slice_get messages i) →
    carried_between pairs n (n + length messages) ≡ numbered n messages
between_numbered pairs n [] agrees = between_none pairs n (n + 0) (omega arith)
between_numbered pairs n (m ∷ messages) agrees =
    let here : finite.get pairs n ≡ Some m =
    ap (finite.get pairs) (omega arith) ∙ agrees 0 (omega arith)
    in
    let last : n + suc (length messages) ≡ suc n + length messages = omega arith in
    let later = between_numbered pairs (suc n) messages
    (λ i high. ap (finite.get pairs) (omega arith) ∙ agrees (suc i) (omega arith)) in
    between_next pairs n (n + suc (length messages)) m (omega arith) here
    ∙ ap (λ (k : ℕ). (n, m) ∷ carried_between pairs (suc n) k) last
    ∙ ap (λ (t : Entries). (n, m) ∷ t) later

last_count : (pairs : Pairs) (n b top count : ℕ) → b ≤ top → b ≤ n + count →
    ((k : ℕ) → b ≤ k → finite.get pairs k ≡ None) → carried_between pairs n b ≡ carried_between pairs n top
last_count pairs n b top zero within enough none =
    between_none pairs n b (omega (arith, enough))
    ∙ sym (between_absent pairs n top (λ k low. none k (omega (arith, enough, low))))
last_count pairs n b top (suc count) within enough none =
    let rest = last_count pairs (suc n) b top count within (omega (arith, enough)) none in
    elim (cases_lt n b) [
      | inr empty ↦
          between_none pairs n b empty
          ∙ sym (between_absent pairs n top (λ k low. none k (omega (arith, empty, low))))
      | inl some ↦ elim (option_cases (finite.get pairs n)) [
        | inl absent ↦ between_skip pairs n b absent ∙ rest ∙ sym (between_skip pairs n top absent)
        | inr found ↦
            between_next pairs n b found.0 some found.1
            ∙ ap (λ (t : Entries). (n, found.0) ∷ t) rest
            ∙ sym (between_next pairs n top found.0 (omega (arith, some, within)) found.1)
      ]
    ]

-- Numbers that are not carried may be left out at the end of the range.
pub between_last : (pairs : Pairs) (n b top : ℕ) → b ≤ top → ((k : ℕ) → b ≤ k → finite.get pairs k ≡ None) →
    carried_between pairs n b ≡ carried_between pairs n top
between_last pairs n b top within none = last_count pairs n b top (b - n) within (omega arith) none
