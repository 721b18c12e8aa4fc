-- The three cases of an accepted packet, and what the new store has in each.
use Rattle.std.proofs.Common.{◌≡◌, ℕ, zero, suc, ◌+◌, ◌-◌, ◌<◌, ◌≤◌, false, cond, eqb, leb, ltb, ◌&&◌, List, [], ◌∷◌}
use Rattle.std.proofs.Common.{◌++◌, length, length-append, length-drop, drop, refl, sym, ap, subst, ◌∙◌, inl, inr}
use Rattle.std.proofs.Common.{arith}
use Rattle.std.specs.Prelude.{Option, None, Some, is_some, is_none, slice_get}
use Rattle.std.specs.Map.{lookup}
use Rattle.std.specs.FinMap as finite
use Rattle.std.specs.Str.{bytes_eq}
use Rattle.std.specs.Option.{option_or}
use Rattle.std.proofs.lemmas.Bool.{cases_order, cases_lt, cases_Bool, cond-true, cond-false, le-leb, lt-ltb, le-ltb}
use Rattle.std.proofs.lemmas.Bool.{and_left, not-false, eqb-true}
use Rattle.std.proofs.lemmas.Slice.Eq.{bytes_eq-Decides}
use Rattle.mold_wire.specs.Truth.{message_at}
use Rattle.mold_receiver.specs.Store.{Message, Store, numbered, from_next, available, run_from, cut, differs}
use Rattle.mold_receiver.specs.Store.{first_conflict}
use Rattle.mold_receiver.specs.Receive.{count_kept}
use Rattle.mold_receiver.proofs.StoreLemmas.{run_is, none_some, lookup-from_next}
use Rattle.mold_receiver.proofs.RuleLemmas.{IsBetween, message_below, message_past, message_within, message_bounds}
use Rattle.mold_receiver.proofs.RuleLemmas.{available_from, available_nothing, cut_is, stored_none, count_none}

-- If the packet has no message at or above `next`, nothing is delivered and the store is unchanged.
pub nothing_handed : (s : Store) (next window most n : ℕ) (ms : List Message) → IsBetween s next window →
    ((q : ℕ) → next ≤ q → message_at n ms q ≡ None)
    → run_from (finite.get (available s next n ms)) next most ≡ []
nothing_handed s next window most n ms between nothing =
    run_is (finite.get (available s next n ms)) next most [] (λ i m is. absurd (none_some is))
    (let here : next ≡ next + 0 = omega arith in
    subst (λ (q : ℕ). finite.get (available s next n ms) q ≡ None) here
    (ap (λ (t : Store). finite.get t next) (available_nothing s next n ms nothing)
    ∙ stored_none s next window between next (omega arith)))
    (omega arith)

pub nothing_stored : (s : Store) (next window n : ℕ) (ms : List Message) → IsBetween s next window →
    ((q : ℕ) → next ≤ q → message_at n ms q ≡ None)
    → cut (available s next n ms) next window ≡ s
nothing_stored s next window n ms between nothing =
    ap (λ (t : Store). cut t next window) (available_nothing s next n ms nothing)
    ∙ cut_is s s next window between (λ q low high. refl)

nothing_new : (o : Option Message) → (is_some o && is_none o) ≡ false
nothing_new None = refl
nothing_new (Some m) = refl

pub nothing_kept : (s : Store) (n : ℕ) (ms : List Message) → count_kept s s (numbered n ms) ≡ 0
nothing_kept s n ms =
    count_none (λ q. is_some (finite.get s q) && is_none (finite.get s q)) n ms
    (λ i within. nothing_new (finite.get s (n + i)))

some_same : {X : Type 0} {x y : X} → ◌≡◌ {A = Option X} (Some x) (Some y) → x ≡ y
some_same e = cc

get-drop : (n : ℕ) (ms : List Message) (i : ℕ) → slice_get (drop n ms) i ≡ slice_get ms (n + i)
get-drop zero ms i = ap (slice_get ms) (let e : i ≡ 0 + i = omega arith in e)
get-drop (suc n) [] i = refl
get-drop (suc n) (m ∷ ms) i = get-drop n ms i
    ∙ ap (slice_get (m ∷ ms)) (let e : suc (n + i) ≡ suc n + i = omega arith in e)

pub get-append_left : (ms ns : List Message) (i : ℕ) → i < length ms → slice_get (ms ++ ns) i ≡ slice_get ms i
get-append_left [] ns i within = absurd (omega arith)
get-append_left (m ∷ ms) ns zero within = refl
get-append_left (m ∷ ms) ns (suc i) within = get-append_left ms ns i (omega arith)

get-append_right : (ms ns : List Message) (i : ℕ) → slice_get (ms ++ ns) (length ms + i) ≡ slice_get ns i
get-append_right [] ns i = ap (slice_get ns) (let e : 0 + i ≡ i = omega arith in e)
get-append_right (m ∷ ms) ns i =
    ap (slice_get (m ∷ (ms ++ ns))) (let e : suc (length ms) + i ≡ suc (length ms + i) = omega arith in e)
    ∙ get-append_right ms ns i

agree : (o : Option Message) (m x : Message) → differs o m ≡ false → o ≡ Some x → x ≡ m
agree None m x same stored = absurd (none_some stored)
agree (Some y) m x same stored =
    let equal : y ≡ m = (bytes_eq-Decides y m).0 (not-false (bytes_eq y m) same) in
    let held : x ≡ y = cc in
    held ∙ equal

-- Numbered messages without a conflict agree with the store.
no_conflict : (s : Store) (pairs : List (ℕ × Message)) → first_conflict s pairs ≡ None → (q : ℕ) (m x : Message) →
    lookup (eqb q) pairs ≡ Some m → finite.get s q ≡ Some x → x ≡ m
no_conflict s [] none q m x is stored = absurd (none_some is)
no_conflict s (pair ∷ pairs) none q m x is stored =
    elim (cases_Bool (differs (finite.get s pair.0) pair.1)) [
      | inl t ↦ absurd (none_some (sym none ∙ cond-true _ (Some pair.0) (first_conflict s pairs) t))
      | inr f ↦
          elim (cases_Bool (eqb q pair.0)) [
            | inl here ↦
                let same : pair.1 ≡ m = some_same (sym (cond-true _ (Some pair.1) (lookup (eqb q) pairs) here) ∙ is) in
                agree (finite.get s pair.0) pair.1 x f
                (subst (λ (k : ℕ). finite.get s k ≡ Some x) (eqb-true q pair.0 here) stored) ∙ same
            | inr other ↦
                no_conflict s pairs (sym (cond-false _ (Some pair.0) (first_conflict s pairs) f) ∙ none) q m x
                (sym (cond-false _ (Some pair.1) (lookup (eqb q) pairs) other) ∙ is) stored
          ]
    ]

-- If there is no conflict, the store and the packet agree at each number from `next` on.
pub same_unless_conflict : (s : Store) (next n : ℕ) (ms : List Message) → first_conflict s (from_next next n ms) ≡ None
    → (q : ℕ) (m x : Message) → next ≤ q → message_at n ms q ≡ Some m → finite.get s q ≡ Some x → x ≡ m
same_unless_conflict s next n ms none q m x low is stored =
    no_conflict s (from_next next n ms) none q m x
    (lookup-from_next next n ms q ∙ cond-true (leb next q) (message_at n ms q) None (le-leb next q low) ∙ is) stored

-- If the packet begins above `next`, nothing is delivered.
pub ahead_handed : (s : Store) (next window most n : ℕ) (ms : List Message) → IsBetween s next window → next < n
    → run_from (finite.get (available s next n ms)) next most ≡ []
ahead_handed s next window most n ms between above =
    run_is (finite.get (available s next n ms)) next most [] (λ i m is. absurd (none_some is))
    (let here : next ≡ next + 0 = omega arith in
    subst (λ (q : ℕ). finite.get (available s next n ms) q ≡ None) here
    (available_from s next n ms next (omega arith)
    ∙ ap (λ (o : Option Message). option_or o (finite.get s next)) (message_below n ms next above)
    ∙ stored_none s next window between next (omega arith)))
    (omega arith)

either_way : (o p : Option Message) → ((m x : Message) → o ≡ Some m → p ≡ Some x → x ≡ m) →
    option_or o p ≡ option_or p o
either_way None None same = refl
either_way None (Some x) same = refl
either_way (Some m) None same = refl
either_way (Some m) (Some x) same = ap (λ (y : Message). Some y) (sym (same m x refl refl))

-- The new store is then the cut of what is available.
pub ahead_stored : (s t : Store) (next window n : ℕ) (ms : List Message) → IsBetween s next window → next < n →
    first_conflict s (from_next next n ms) ≡ None
    → ((q : ℕ) → finite.get t q ≡ option_or (finite.get s q) (cond (ltb q (next + window)) (message_at n ms q) None))
    → cut (available s next n ms) next window ≡ t
ahead_stored s t next window n ms between above none looks =
    cut_is (available s next n ms) t next window
    (λ q m is.
    elim (finite.get s q) as (λ o. finite.get s q ≡ o → (next < q) × (q < next + window)) [
      | Some x ↦ λ e. between q x e
      | None ↦ λ e.
          let new : cond (ltb q (next + window)) (message_at n ms q) None ≡ Some m =
          sym (looks q ∙ ap
          (λ (o : Option Message). option_or o (cond (ltb q (next + window)) (message_at n ms q) None)) e) ∙ is
          in
          elim (cases_lt q (next + window)) [
            | inl below ↦
                let bounds = message_bounds n ms q m
                (sym (cond-true (ltb q (next + window)) (message_at n ms q) None (lt-ltb q (next + window) below))
                ∙ new) in
                (omega (arith, bounds.0), below)
            | inr past ↦ absurd
                (none_some (sym
                (cond-false (ltb q (next + window)) (message_at n ms q) None (le-ltb q (next + window) past)) ∙ new))
          ]
    ] refl)
    (λ q low high.
    available_from s next n ms q (omega arith)
    ∙ either_way (message_at n ms q) (finite.get s q)
    (λ m x is stored. same_unless_conflict s next n ms none q m x (omega arith) is stored)
    ∙ sym (looks q ∙ ap (option_or (finite.get s q))
    (cond-true (ltb q (next + window)) (message_at n ms q) None (lt-ltb q (next + window) high))))

-- If the packet has the message `next`, its messages from there on are delivered, and then the stored messages that
-- follow.
pub at_handed : (s : Store) (next window most n top : ℕ) (ms stored : List Message) → IsBetween s next window →
    n ≤ next → next < top → n + length ms ≡ top
    → ((i : ℕ) (m : Message) → slice_get stored i ≡ Some m → finite.get s (top + i) ≡ Some m)
    → finite.get s (top + length stored) ≡ None
    → top + length stored ≤ next + most
    → run_from (finite.get (available s next n ms)) next most ≡ drop (next - n) ms ++ stored
at_handed s next window most n top ms stored between low high tops each stops few =
    let size : length (drop (next - n) ms) ≡ top - next = length-drop (next - n) ms
    ∙ (let e : length ms - (next - n) ≡ top - next = omega arith in e) in
    let whole : next + length (drop (next - n) ms ++ stored) ≡ top + length stored =
    omega (arith, size, length-append (drop (next - n) ms) stored) in
    run_is (finite.get (available s next n ms)) next most (drop (next - n) ms ++ stored)
    (λ i m is.
    elim (cases_lt i (top - next)) [
      | inl inside ↦
          let place : next + i - n ≡ next - n + i = omega arith in
          let found : message_at n ms (next + i) ≡ Some m =
          message_within n ms (next + i) (omega arith) ∙ ap (slice_get ms) place ∙ sym (get-drop (next - n) ms i)
          ∙ sym (get-append_left (drop (next - n) ms) stored i (omega (arith, size))) ∙ is
          in
          available_from s next n ms (next + i) (omega arith)
          ∙ ap (λ (o : Option Message). option_or o (finite.get s (next + i))) found
      | inr outside ↦
          let place : i ≡ length (drop (next - n) ms) + (i - (top - next)) = omega (arith, size) in
          let at : top + (i - (top - next)) ≡ next + i = omega arith in
          let kept : finite.get s (next + i) ≡ Some m =
          subst (λ (q : ℕ). finite.get s q ≡ Some m) at
          (each (i - (top - next)) m (sym (get-append_right (drop (next - n) ms) stored (i - (top - next)))
          ∙ ap (slice_get (drop (next - n) ms ++ stored)) (sym place) ∙ is))
          in
          available_from s next n ms (next + i) (omega arith)
          ∙ ap (λ (o : Option Message). option_or o (finite.get s (next + i)))
          (message_past n ms (next + i) (omega arith))
          ∙ kept
    ])
    (subst (λ (q : ℕ). finite.get (available s next n ms) q ≡ None) (sym whole)
    (available_from s next n ms (top + length stored) (omega arith)
    ∙ ap (λ (o : Option Message). option_or o (finite.get s (top + length stored)))
    (message_past n ms (top + length stored) (omega arith))
    ∙ stops))
    (omega (arith, whole, few))

-- The store then keeps what is above the new `next`.
pub at_stored : (s t : Store) (next window n new : ℕ) (ms : List Message) → IsBetween s next window → next ≤ new →
    n + length ms ≤ new → finite.get s new ≡ None
    → ((q : ℕ) → finite.get t q ≡ cond (ltb q new) None (finite.get s q))
    → cut (available s next n ms) new window ≡ t
at_stored s t next window n new ms between ahead top stops looks =
    cut_is (available s next n ms) t new window
    (λ q m is.
    elim (cases_order q new) [
      | inl same ↦ absurd
          (none_some (sym (looks q ∙ cond-false (ltb q new) None (finite.get s q) (le-ltb q new (omega arith))
          ∙ subst (λ (k : ℕ). finite.get s k ≡ None) (sym same) stops) ∙ is))
      | inr (inl below) ↦
          absurd (none_some (sym (looks q ∙ cond-true (ltb q new) None (finite.get s q) (lt-ltb q new below)) ∙ is))
      | inr (inr above) ↦
          let lies = between q m
          (sym (looks q ∙ cond-false (ltb q new) None (finite.get s q) (le-ltb q new (omega arith))) ∙ is) in
          (above, omega (arith, lies.1))
    ])
    (λ q low high.
    available_from s next n ms q (omega arith)
    ∙ ap (λ (o : Option Message). option_or o (finite.get s q)) (message_past n ms q (omega arith))
    ∙ sym (looks q ∙ cond-false (ltb q new) None (finite.get s q) (le-ltb q new (omega arith))))

-- No message of that packet is stored or past the window.
pub at_kept : (s t : Store) (n new : ℕ) (ms : List Message) → n + length ms ≤ new →
    ((q : ℕ) → finite.get t q ≡ cond (ltb q new) None (finite.get s q)) → count_kept s t (numbered n ms) ≡ 0
at_kept s t n new ms top looks =
    count_none (λ q. is_some (finite.get t q) && is_none (finite.get s q)) n ms
    (λ i within. and_left (is_some (finite.get t (n + i))) (is_none (finite.get s (n + i)))
    (ap is_some (looks (n + i)
    ∙ cond-true (ltb (n + i) new) None (finite.get s (n + i)) (lt-ltb (n + i) new (omega arith)))))
