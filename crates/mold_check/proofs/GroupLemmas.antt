-- The elements of a list, grouped by their keys one by one.
use Rattle.std.proofs.Common.{◌≡◌, ℕ, zero, suc, ◌≤◌, Bool, true, false, not, cond, List, [], ◌∷◌, map, length, refl, sym, ap, ◌∙◌, subst, arith, true≢false}
use Rattle.std.specs.Prelude.{IfSome, None, Option, Some, if◌then◌else◌, is_some, position, slice_get}
use Rattle.std.specs.Cmp.{IsEquivalence}
use Rattle.std.specs.List.{IsDistinct, filter}
use Rattle.std.specs.Map.{keys_of, lookup, values_of}
use Rattle.indexmap.specs.IndexMap.{insert_entry, set_value_at}
use Rattle.indexmap.proofs.MapLemmas.{Found as FoundAt, Found-position, Missing-position, index-first, insert_entry-first, some_index}
use Rattle.indexmap.proofs.RemoveLemmas.{own_first}
use Rattle.mold_check.specs.Groups.{distinct, stepped}

-- ---- filters

filter_comm : {X : Type 0} (f g : X → Bool) (xs : List X) → filter f (filter g xs) ≡ filter g (filter f xs)
filter_comm f g [] = refl
filter_comm {X} f g (x ∷ xs) = at (f x) (g x) refl refl (filter_comm f g xs)
  where
    at : (a b : Bool) → f x ≡ a → g x ≡ b → filter f (filter g xs) ≡ filter g (filter f xs) →
        filter f (cond b (x ∷ filter g xs) (filter g xs)) ≡ filter g (cond a (x ∷ filter f xs) (filter f xs))
    at true true ef eg rest =
        ap (λ (c : Bool). cond c (x ∷ filter f (filter g xs)) (filter f (filter g xs))) ef
        ∙ ap (λ (l : List X). x ∷ l) rest
        ∙ sym (ap (λ (c : Bool). cond c (x ∷ filter g (filter f xs)) (filter g (filter f xs))) eg)
    at true false ef eg rest =
        rest ∙ sym (ap (λ (c : Bool). cond c (x ∷ filter g (filter f xs)) (filter g (filter f xs))) eg)
    at false true ef eg rest =
        ap (λ (c : Bool). cond c (x ∷ filter f (filter g xs)) (filter f (filter g xs))) ef ∙ rest
    at false false ef eg rest = rest

filter_within : {X : Type 0} (f g : X → Bool) → ((x : X) → f x ≡ true → g x ≡ true) → (xs : List X) →
    filter f (filter g xs) ≡ filter f xs
filter_within f g within [] = refl
filter_within {X} f g within (x ∷ xs) = at (f x) (g x) refl refl (filter_within f g within xs)
  where
    at : (a b : Bool) → f x ≡ a → g x ≡ b → filter f (filter g xs) ≡ filter f xs →
        filter f (cond b (x ∷ filter g xs) (filter g xs)) ≡ cond a (x ∷ filter f xs) (filter f xs)
    at a true ef eg rest =
        ap (λ (l : List X). cond (f x) (x ∷ l) l) rest
        ∙ ap (λ (c : Bool). cond c (x ∷ filter f xs) (filter f xs)) ef
    at true false ef eg rest = absurd (true≢false (sym (within x ef) ∙ eg))
    at false false ef eg rest = rest

map_filter : {X Y : Type 0} (g : X → Y) (f : Y → Bool) (xs : List X) →
    map g (filter (λ x. f (g x)) xs) ≡ filter f (map g xs)
map_filter g f [] = refl
map_filter {X} {Y} g f (x ∷ xs) = at (f (g x)) (map_filter g f xs)
  where
    at : (b : Bool) → map g (filter (λ x. f (g x)) xs) ≡ filter f (map g xs) →
        map g (cond b (x ∷ filter (λ x. f (g x)) xs) (filter (λ x. f (g x)) xs))
        ≡ cond b (g x ∷ filter f (map g xs)) (filter f (map g xs))
    at true rest = ap (λ (l : List Y). g x ∷ l) rest
    at false rest = rest

map_passed : {X Y : Type 0} (f : X → Bool) (g h : X → Y) → ((x : X) → f x ≡ true → g x ≡ h x) → (xs : List X) →
    map g (filter f xs) ≡ map h (filter f xs)
map_passed f g h same [] = refl
map_passed {X} {Y} f g h same (x ∷ xs) = at (f x) refl (map_passed f g h same xs)
  where
    at : (b : Bool) → f x ≡ b → map g (filter f xs) ≡ map h (filter f xs) →
        map g (cond b (x ∷ filter f xs) (filter f xs)) ≡ map h (cond b (x ∷ filter f xs) (filter f xs))
    at true is rest = λ i. same x is i ∷ rest i
    at false is rest = rest

filter_shorter : {X : Type 0} (f : X → Bool) (xs : List X) → length (filter f xs) ≤ length xs
filter_shorter f [] = omega arith
filter_shorter {X} f (x ∷ xs) = at (f x) (filter_shorter f xs)
  where
    at : (b : Bool) → length (filter f xs) ≤ length xs →
        length (cond b (x ∷ filter f xs) (filter f xs)) ≤ suc (length xs)
    at true rest = omega (arith, rest)
    at false rest = omega (arith, rest)

-- ---- keys

-- The test is whether two keys are equal.
pub record IsSame {K : Type 0} (same : K → K → Bool) : Type 0 where
  pub equal : (one other : K) → same one other ≡ true → one ≡ other
  pub reflexive : (one : K) → same one one ≡ true

apart : {K : Type 0} (same : K → K → Bool) → IsSame same → (one other : K) → same one other ≡ false → same other one ≡ false
apart {K} same law one other is_apart = by (same other one) refl
  where
    by : (b : Bool) → same other one ≡ b → same other one ≡ false
    by false is = is
    by true is =
        absurd (true≢false
        (sym (subst (λ (k : K). same one k ≡ true) (sym (law.equal other one is)) (law.reflexive one)) ∙ is_apart))

same_law : {K : Type 0} (same : K → K → Bool) → IsSame same → IsEquivalence same
same_law {K} same law = record {
  refl = law.reflexive;
  symm = symm;
  congr = λ one other third is. ap (λ (k : K). same k third) (law.equal one other is);
}
  where
    by : (one other : K) (b c : Bool) → same one other ≡ b → same other one ≡ c → same one other ≡ same other one
    by one other true true is back = is ∙ sym back
    by one other false false is back = is ∙ sym back
    by one other false true is back = is ∙ sym (apart same law one other is)
    by one other true false is back = apart same law other one back ∙ sym back

    symm : (one other : K) → same one other ≡ same other one
    symm one other = by one other (same one other) (same other one) refl refl

-- Another key.
abbrev differs : {K : Type 0} → (K → K → Bool) → K → K → Bool
differs same key other = not (same other key)

not_false : (b : Bool) → not b ≡ false → b ≡ true
not_false true is = refl
not_false false is = absurd (true≢false is)

not_true : (b : Bool) → not b ≡ true → b ≡ false
not_true true is = absurd (true≢false (sym is))
not_true false is = refl

distinct_filter : {K : Type 0} (same : K → K → Bool) → IsSame same → (key : K) (keys : List K) →
    distinct same (filter (differs same key) keys) ≡ filter (differs same key) (distinct same keys)
unfolding distinct
distinct_filter same law key [] = refl
distinct_filter {K} same law key (first ∷ keys) = at (differs same key first) refl (distinct_filter same law key keys)
  where
    at : (b : Bool) → differs same key first ≡ b →
        distinct same (filter (differs same key) keys) ≡ filter (differs same key) (distinct same keys) →
        distinct same (cond b (first ∷ filter (differs same key) keys) (filter (differs same key) keys))
        ≡ cond b (first ∷ filter (differs same key) (filter (differs same first) (distinct same keys)))
        (filter (differs same key) (filter (differs same first) (distinct same keys)))
    at true is rest =
        ap (λ (l : List K). first ∷ filter (differs same first) l) rest
        ∙ ap (λ (l : List K). first ∷ l) (filter_comm (differs same first) (differs same key) (distinct same keys))
    at false is rest =
        rest
        ∙ sym (filter_within (differs same key) (differs same key) (λ x e. e) (distinct same keys))
        ∙ ap (λ (k : K). filter (differs same key) (filter (differs same k) (distinct same keys)))
        (sym (law.equal first key (not_false (same first key) is)))

-- ---- the states of the keys

-- How elements are grouped: the keys, and the states that the elements of a key lead to.
pub record Grouping (K S X : Type 0) : Type 0 where
  pub same : K → K → Bool
  pub law : IsSame same
  pub start : S
  pub step : X → S → S
  pub key : X → K

-- The state after these elements.
abbrev pub folded : {K S X : Type 0} → Grouping K S X → S → List X → S
folded g s [] = s
folded g s (x ∷ list) = folded g (g.step x s) list

-- The states of the keys after these elements.
abbrev pub all_stepped : {K S X : Type 0} → Grouping K S X → List (K × S) → List X → List (K × S)
all_stepped g entries [] = entries
all_stepped g entries (x ∷ list) = all_stepped g (stepped g.same g.start (g.step x) entries (g.key x)) list

-- The elements of a key.
abbrev pub own : {K S X : Type 0} → Grouping K S X → K → List X → List X
own g key list = filter (λ x. g.same (g.key x) key) list

-- The elements of other keys.
abbrev others : {K S X : Type 0} → Grouping K S X → K → List X → List X
others g key list = filter (λ x. differs g.same key (g.key x)) list

-- A key, and the state that its elements lead to.
abbrev pub entry_in : {K S X : Type 0} → Grouping K S X → List X → K → K × S
entry_in g list key = (key, folded g g.start (own g key list))

-- The same of all keys.
abbrev pub entries_in : {K S X : Type 0} → Grouping K S X → List X → List (K × S)
entries_in g list = map (entry_in g list) (distinct g.same (map g.key list))

-- The first key takes its elements, and the other keys take the rest.
abbrev IsFirstEntry : {K S X : Type 0} → Grouping K S X → K → S → List (K × S) → List X → Type 0
IsFirstEntry g key s entries list =
    all_stepped g ((key, s) ∷ entries) list
    ≡ (key, folded g s (own g key list)) ∷ all_stepped g entries (others g key list)

first_entry : {K S X : Type 0} (g : Grouping K S X) (entry : K × S) (entries : List (K × S)) (list : List X) →
    IsFirstEntry g entry.0 entry.1 entries list
unfolding stepped
first_entry g entry entries [] = refl
first_entry {K} {S} {X} g entry entries (x ∷ list) =
    at (g.same (g.key x) entry.0)
    (first_entry g (entry.0, g.step x entry.1) entries list)
    (first_entry g entry (stepped g.same g.start (g.step x) entries (g.key x)) list)
  where
    at : (b : Bool) → IsFirstEntry g entry.0 (g.step x entry.1) entries list →
        IsFirstEntry g entry.0 entry.1 (stepped g.same g.start (g.step x) entries (g.key x)) list →
        all_stepped g (if b then (entry.0, g.step x entry.1) ∷ entries
        else entry ∷ stepped g.same g.start (g.step x) entries (g.key x)) list
        ≡ (entry.0, folded g entry.1 (cond b (x ∷ own g entry.0 list) (own g entry.0 list)))
        ∷ all_stepped g entries (cond (not b) (x ∷ others g entry.0 list) (others g entry.0 list))
    at true same other = same
    at false same other = other

-- An element of another key does not change an entry.
other_entry : {K S X : Type 0} (g : Grouping K S X) (x : X) (list : List X) (key : K) →
    differs g.same (g.key x) key ≡ true → entry_in g (others g (g.key x) list) key ≡ entry_in g (x ∷ list) key
other_entry {K} {S} {X} g x list key is_apart =
    let other = apart g.same g.law key (g.key x) (not_true (g.same key (g.key x)) is_apart) in
    ap (λ (l : List X). (key, folded g g.start l))
    (filter_within (λ (y : X). g.same (g.key y) key) (λ (y : X). differs g.same (g.key x) (g.key y))
    (λ y is. ap (differs g.same (g.key x)) (g.law.equal (g.key y) key is) ∙ is_apart) list
    ∙ ap (λ (c : Bool). cond c (x ∷ own g key list) (own g key list)) (sym other))

-- The first entry of a list.
own_entry : {K S X : Type 0} (g : Grouping K S X) (x : X) (list : List X) →
    (g.key x, folded g (g.step x g.start) (own g (g.key x) list)) ≡ entry_in g (x ∷ list) (g.key x)
own_entry {K} {S} {X} g x list =
    ap (λ (c : Bool). (
      g.key x,
      folded g g.start (cond c (x ∷ own g (g.key x) list) (own g (g.key x) list)),
    )) (sym (g.law.reflexive (g.key x)))

other_entries : {K S X : Type 0} (g : Grouping K S X) (x : X) (list : List X) →
    entries_in g (others g (g.key x) list)
    ≡ map (entry_in g (x ∷ list)) (filter (differs g.same (g.key x)) (distinct g.same (map g.key list)))
other_entries {K} {S} {X} g x list =
    ap (λ (l : List K). map (entry_in g (others g (g.key x) list)) (distinct g.same l))
    (map_filter g.key (differs g.same (g.key x)) list)
    ∙ ap (map (entry_in g (others g (g.key x) list))) (distinct_filter g.same g.law (g.key x) (map g.key list))
    ∙ map_passed (differs g.same (g.key x)) (entry_in g (others g (g.key x) list)) (entry_in g (x ∷ list)) (other_entry g x list)
    (distinct g.same (map g.key list))

stepped_in : {K S X : Type 0} (g : Grouping K S X) (n : ℕ) (list : List X) → length list ≤ n →
    all_stepped g [] list ≡ entries_in g list
unfolding distinct stepped
stepped_in g n [] small = refl
stepped_in g zero (x ∷ list) small = absurd (omega (arith, small))
stepped_in {K} {S} {X} g (suc n) (x ∷ list) small =
    let rest = stepped_in g n (others g (g.key x) list)
    (omega (arith, small, filter_shorter (λ (y : X). differs g.same (g.key x) (g.key y)) list)) in
    first_entry g (g.key x, g.step x g.start) [] list
    ∙ (λ i. own_entry g x list i ∷ (rest ∙ other_entries g x list) i)

-- The states of the keys are those that the elements of each key lead to.
pub stepped_are : {K S X : Type 0} (g : Grouping K S X) (list : List X) → all_stepped g [] list ≡ entries_in g list
stepped_are g list = stepped_in g (length list) list (omega arith)

-- ---- one more element in the table

-- The state of a key, or the first one.
abbrev known : {S : Type 0} → S → Option S → S
known start None = start
known start (Some s) = s

more_is_insert : {K S : Type 0} (same : K → K → Bool) (start : S) (step : S → S) (entries : List (K × S)) (key : K) →
    stepped same start step entries key
    ≡ insert_entry same entries key (step (known start (lookup (same key) entries)))
unfolding stepped
more_is_insert same start step [] key = refl
more_is_insert {K} {S} same start step (entry ∷ entries) key =
    at (same key entry.0) (more_is_insert same start step entries key)
  where
    at : (b : Bool) → stepped same start step entries key
        ≡ insert_entry same entries key (step (known start (lookup (same key) entries))) →
        (if b then (entry.0, step entry.1) ∷ entries else entry ∷ stepped same start step entries key)
        ≡ (if b then (entry.0, step (known start (cond b (Some entry.1) (lookup (same key) entries)))) ∷ entries
        else entry ∷ insert_entry same entries key
        (step (known start (cond b (Some entry.1) (lookup (same key) entries)))))
    at true rest = refl
    at false rest = ap (λ (l : List (K × S)). entry ∷ l) rest

-- A key that is not there.
pub more_new : {K S : Type 0} (same : K → K → Bool) (start : S) (step : S → S) (entries : List (K × S)) (key : K) →
    position (same key) (keys_of entries) ≡ None →
    insert_entry same entries key (step start) ≡ stepped same start step entries key
more_new {K} {S} same start step entries key absent =
    sym (more_is_insert same start step entries key
    ∙ ap (λ (v : Option S). insert_entry same entries key (step (known start v)))
    (Missing-position (same key) entries absent).value)

-- A key that is there.
pub more_at : {K S : Type 0} (same : K → K → Bool) (start : S) (step : S → S) (entries new : List (K × S)) (key : K)
    (index : ℕ) → position (same key) (keys_of entries) ≡ Some index →
    IfSome (slice_get (values_of entries) index) (λ s. new ≡ set_value_at entries index (step s)) →
    new ≡ stepped same start step entries key
more_at {K} {S} same start step entries new key index there is =
    by (Found-position (same key) entries index there) (slice_get (values_of entries) index) refl is
  where
    by : (found : FoundAt (same key) entries index) (value : Option S) → slice_get (values_of entries) index ≡ value →
        IfSome value (λ s. new ≡ set_value_at entries index (step s)) →
        new ≡ stepped same start step entries key
    by found None at is =
        absurd (true≢false (ap is_some (sym there) ∙ some_index (same key) entries ∙ ap is_some (found.value ∙ at)))
    by found (Some s) at is =
        is
        ∙ sym (insert_entry-first same key (step s) entries index found.first)
        ∙ ap (λ (v : Option S). insert_entry same entries key (step (known start v))) (sym (found.value ∙ at))
        ∙ sym (more_is_insert same start step entries key)

-- The index of a key that is equal to the one there.
pub place_of : {K S : Type 0} (same : K → K → Bool) → IsSame same → (entries : List (K × S)) (index : ℕ) (key there : K)
    (s : S) → IsDistinct same (keys_of entries) → slice_get entries index ≡ Some (there, s) → same key there ≡ true →
    position (same key) (keys_of entries) ≡ Some index
place_of {K} same law entries index key there s unique at is =
    subst (λ (k : K). position (same k) (keys_of entries) ≡ Some index) (sym (law.equal key there is))
    (index-first (same there) entries index (own_first same (same_law same law) entries index there s unique at))
