-- The receiving rule in its three cases: the packet has nothing at or above `next`, it begins above `next`, or it has
-- the message `next`.
use Rattle.std.proofs.Common.{◌≡◌, ℕ, suc, ◌+◌, ◌-◌, ◌<◌, ◌≤◌, max, Bool, false, leb, ltb, ◌&&◌, List, [], ◌∷◌, length}
use Rattle.std.proofs.Common.{refl, sym, ap, ◌∙◌, inl, inr, ◌⊎◌, arith, nat_le}
use Rattle.std.specs.Prelude.{Option, None, Some, slice_get}
use Rattle.std.specs.List.{filter}
use Rattle.std.specs.FinMap as finite
use Rattle.std.specs.Option.{option_or}
use Rattle.std.proofs.lemmas.Bool.{true≢false, cases_lt, cases_Bool, cond-true, cond-false, le-leb, lt-leb, lt-ltb}
use Rattle.std.proofs.lemmas.Bool.{ltb-true, and_from, and_parts}
use Rattle.std.proofs.lemmas.Option.{slice_get_past, slice_get_within}
use Rattle.mold_wire.specs.Truth.{message_at}
use Rattle.mold_receiver.specs.Store.{Message, Store, numbered, available, cut}
use Rattle.mold_receiver.proofs.StoreLemmas.{get-available, get-cut, same_store, none_some}

-- Stored messages are above `next` and in the window.
abbrev pub IsBetween : Store → ℕ → ℕ → Type 0
IsBetween store next window = (q : ℕ) (m : Message) → finite.get store q ≡ Some m → (next < q) × (q < next + window)

-- An option is none if it can be nothing else.
pub none_unless : {X : Type 0} (o : Option X) → ((x : X) → o ≡ Some x → ⊥) → o ≡ None
none_unless None never = refl
none_unless (Some x) never = absurd (never x refl)

pub option_or-none : {X : Type 0} (o : Option X) → option_or o None ≡ o
option_or-none None = refl
option_or-none (Some x) = refl

pub message_below : (n : ℕ) (ms : List Message) (q : ℕ) → q < n → message_at n ms q ≡ None
message_below n ms q below = cond-false _ _ _ (lt-leb n q below)

pub message_past : (n : ℕ) (ms : List Message) (q : ℕ) → n + length ms ≤ q → message_at n ms q ≡ None
message_past n ms q past = cond-true _ _ _ (le-leb n q (omega arith)) ∙ slice_get_past ms (q - n) (omega arith)

pub message_within : (n : ℕ) (ms : List Message) (q : ℕ) → n ≤ q → message_at n ms q ≡ slice_get ms (q - n)
message_within n ms q low = cond-true _ _ _ (le-leb n q low)

-- Each message of a packet has one of the packet's numbers.
pub message_bounds : (n : ℕ) (ms : List Message) (q : ℕ) (m : Message) → message_at n ms q ≡ Some m →
    (n ≤ q) × (q < n + length ms)
message_bounds n ms q m is =
    elim (cases_lt q n) [
      | inl below ↦ absurd (none_some (sym (message_below n ms q below) ∙ is))
      | inr low ↦
          let within = slice_get_within ms (q - n) m (sym (message_within n ms q low) ∙ is) in
          (low, omega arith)
    ]

pub available_below : (s : Store) (next n : ℕ) (ms : List Message) (q : ℕ) → q < next →
    finite.get (available s next n ms) q ≡ finite.get s q
available_below s next n ms q below =
    get-available s next n ms q
    ∙ ap (λ (o : Option Message). option_or o (finite.get s q)) (cond-false _ _ _ (lt-leb next q below))

pub available_from : (s : Store) (next n : ℕ) (ms : List Message) (q : ℕ) → next ≤ q →
    finite.get (available s next n ms) q ≡ option_or (message_at n ms q) (finite.get s q)
available_from s next n ms q low =
    get-available s next n ms q
    ∙ ap (λ (o : Option Message). option_or o (finite.get s q)) (cond-true _ _ _ (le-leb next q low))

-- An available message is the packet's, or it was stored.
pub available_cases : (s : Store) (next n : ℕ) (ms : List Message) (q : ℕ) (m : Message) →
    finite.get (available s next n ms) q ≡ Some m
    → ((next ≤ q) × (message_at n ms q ≡ Some m)) ⊎ (finite.get s q ≡ Some m)
available_cases s next n ms q m is =
    elim (cases_lt q next) [
      | inl below ↦ inr (sym (available_below s next n ms q below) ∙ is)
      | inr low ↦
          elim (message_at n ms q) as (λ o. message_at n ms q ≡ o →
          ((next ≤ q) × (o ≡ Some m)) ⊎ (finite.get s q ≡ Some m)) [
            | None ↦ λ e. inr
                (sym (available_from s next n ms q low ∙ ap (λ (o : Option Message). option_or o (finite.get s q)) e) ∙ is)
            | Some x ↦ λ e. inl (
              low,
              sym (available_from s next n ms q low ∙ ap (λ (o : Option Message). option_or o (finite.get s q)) e)
                  ∙ is,
            )
          ] refl
    ]

-- If the packet has nothing at or above `next`, only the stored messages are available.
pub available_nothing : (s : Store) (next n : ℕ) (ms : List Message) →
    ((q : ℕ) → next ≤ q → message_at n ms q ≡ None) → available s next n ms ≡ s
available_nothing s next n ms nothing = same_store _ _ (λ q.
    elim (cases_lt q next) [
      | inl below ↦ available_below s next n ms q below
      | inr low ↦ available_from s next n ms q low
          ∙ ap (λ (o : Option Message). option_or o (finite.get s q)) (nothing q low)
    ])

-- A store is the cut if all its messages are within the limits and the stores agree there.
pub cut_is : (s t : Store) (next window : ℕ) → IsBetween t next window →
    ((q : ℕ) → next < q → q < next + window → finite.get s q ≡ finite.get t q) → cut s next window ≡ t
cut_is s t next window between agrees = same_store _ _ (λ q.
    elim (cases_Bool (ltb next q && ltb q (next + window))) [
      | inl inside ↦
          let parts = and_parts (ltb next q) (ltb q (next + window)) inside in
          get-cut s next window q ∙ cond-true _ _ _ inside
          ∙ agrees q (ltb-true next q parts.0) (ltb-true q (next + window) parts.1)
      | inr outside ↦
          get-cut s next window q ∙ cond-false _ _ _ outside
          ∙ sym (none_unless (finite.get t q) (λ m is.
          let lies = between q m is in
          true≢false (sym
          (and_from (ltb next q) (ltb q (next + window)) (lt-ltb next q lies.0) (lt-ltb q (next + window) lies.1))
          ∙ outside)))
    ])

-- Nothing is stored at or below `next`.
pub stored_none : (s : Store) (next window : ℕ) → IsBetween s next window → (q : ℕ) → q ≤ next → finite.get s q ≡ None
stored_none s next window between q low =
    none_unless (finite.get s q) (λ m is. let lies = between q m is in omega (arith, lies.0))

pub stored_past : (s : Store) (next window : ℕ) → IsBetween s next window → (q : ℕ) → next + window ≤ q →
    finite.get s q ≡ None
stored_past s next window between q past =
    none_unless (finite.get s q) (λ m is. let lies = between q m is in omega (arith, lies.1))

-- Two tests that agree count the same numbers.
pub count_same : (P Q : ℕ → Bool) (n f : ℕ) (ms : List Message) → ((i : ℕ) → i < length ms → P (n + i) ≡ Q (f + i))
    → length (filter (λ (p : ℕ × Message). P p.0) (numbered n ms)) ≡ length
    (filter (λ (p : ℕ × Message). Q p.0) (numbered f ms))
count_same P Q n f [] same = refl
count_same P Q n f (m ∷ ms) same =
    let here : P n ≡ Q f =
    (let a : n + 0 ≡ n = omega arith in let b : f + 0 ≡ f = omega arith in ap P (sym a) ∙ same 0 (omega arith)
    ∙ ap Q b) in
    let rest = count_same P Q (suc n) (suc f) ms (λ i within.
    let a : n + suc i ≡ suc n + i = omega arith in
    let b : f + suc i ≡ suc f + i = omega arith in
    ap P (sym a) ∙ same (suc i) (omega (arith, within)) ∙ ap Q b)
    in
    elim (cases_Bool (Q f)) [
      | inl t ↦ ap length (cond-true (P n) _ _ (here ∙ t)) ∙ ap suc rest ∙ sym (ap length (cond-true (Q f) _ _ t))
      | inr t ↦ ap length (cond-false (P n) _ _ (here ∙ t)) ∙ rest ∙ sym (ap length (cond-false (Q f) _ _ t))
    ]

pub count_none : (P : ℕ → Bool) (n : ℕ) (ms : List Message) → ((i : ℕ) → i < length ms → P (n + i) ≡ false) →
    length (filter (λ (p : ℕ × Message). P p.0) (numbered n ms)) ≡ 0
count_none P n [] never = refl
count_none P n (m ∷ ms) never =
    let a : n ≡ n + 0 = omega arith in
    ap length (cond-false (P n) _ _ (ap P a ∙ never 0 (omega arith)))
    ∙ count_none P (suc n) ms (λ i within. let b : suc n + i ≡ n + suc i = omega arith in ap P b
    ∙ never (suc i) (omega (arith, within)))

pub count_from : (limit n : ℕ) (ms : List Message) →
    length (filter (λ (p : ℕ × Message). nat_le limit p.0) (numbered n ms)) ≡ (n + length ms) - max n limit
count_from limit n [] = omega arith
count_from limit n (m ∷ ms) =
    elim (cases_lt n limit) [
      | inl below ↦ ap length (cond-false (leb limit n) _ _ (lt-leb limit n below))
          ∙ (let e : length (filter (λ (p : ℕ × Message). nat_le limit p.0) (numbered (suc n) ms)) ≡ n + suc
          (length ms) - max n limit = omega (arith, count_from limit (suc n) ms) in e)
      | inr low ↦ ap length (cond-true (leb limit n) _ _ (le-leb limit n low))
          ∙ (let e : suc (length (filter (λ (p : ℕ × Message). nat_le limit p.0) (numbered (suc n) ms))) ≡ n + suc
          (length ms) - max n limit = omega (arith, count_from limit (suc n) ms) in e)
    ]
