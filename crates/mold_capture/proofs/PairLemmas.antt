-- Messages by sequence number.
use Rattle.std.proofs.Common.{◌≡◌, ℕ, zero, suc, ◌+◌, ◌-◌, ◌<◌, ◌≤◌, Bool, cond, eqb, List, [], ◌∷◌, ◌++◌, length}
use Rattle.std.proofs.Common.{refl, sym, ap, ◌∙◌, inl, inr, ◌⊎◌, get_or, arith}
use Rattle.std.specs.Prelude.{Option, None, Some, slice_get}
use Rattle.std.specs.Cmp.{unsigned_tied, nat_cmp_total}
use Rattle.std.specs.Map.{lookup}
use Rattle.std.specs.FinMap as finite
use Rattle.std.specs.FinMap.{find}
use Rattle.std.specs.Option.{option_or}
use Rattle.std.specs.Ordering.{nat_cmp}
use Rattle.std.proofs.lemmas.Bool.{cases_lt, cases_order, cases_Bool, cond-true, cond-false, le-leb, lt-leb, eq-eqb, ne_eqb}
use Rattle.std.proofs.lemmas.Option.{slice_get-get_or, slice_get_past, slice_get_within, none-some}
use Rattle.mold_wire.specs.Truth.{message_at, published_at}
use Rattle.mold_capture.specs.Seen.{Pairs, numbered, pairs_with}

pub option_cases : {X : Type 0} (o : Option X) → (o ≡ None) ⊎ ((x : X) × (o ≡ Some x))
option_cases None = inl refl
option_cases (Some x) = inr (x, refl)

pub option_or_cases : {X : Type 0} (a b : Option X) (x : X) → option_or a b ≡ Some x →
    (a ≡ Some x) ⊎ ((a ≡ None) × (b ≡ Some x))
option_or_cases None b x is = inr (refl, is)
option_or_cases (Some y) b x is = inl is

pub option_or_first : {X : Type 0} (a b : Option X) (x : X) → a ≡ Some x → option_or a b ≡ Some x
option_or_first a b x is = ap (λ (o : Option _). option_or o b) is

pub option_or_second : {X : Type 0} (a b : Option X) → a ≡ None → option_or a b ≡ b
option_or_second a b is = ap (λ (o : Option _). option_or o b) is

pub message_below : (n : ℕ) (ms : List (List ℕ)) (q : ℕ) → q < n → message_at n ms q ≡ None
message_below n ms q below = cond-false _ _ _ (lt-leb n q below)

pub message_within : (n : ℕ) (ms : List (List ℕ)) (q : ℕ) → n ≤ q → message_at n ms q ≡ slice_get ms (q - n)
message_within n ms q low = cond-true _ _ _ (le-leb n q low)

pub message_past : (n : ℕ) (ms : List (List ℕ)) (q : ℕ) → n + length ms ≤ q → message_at n ms q ≡ None
message_past n ms q past = message_within n ms q (omega arith) ∙ slice_get_past ms (q - n) (omega arith)

-- The number of a message is within the bounds.
pub message_bounds : (n : ℕ) (ms : List (List ℕ)) (q : ℕ) (m : List ℕ) → message_at n ms q ≡ Some m →
    (n ≤ q) × (q < n + length ms)
message_bounds n ms q m is =
    elim (cases_lt q n) [
      | inl below ↦ absurd (none-some m (sym (message_below n ms q below) ∙ is))
      | inr low ↦
          let within = slice_get_within ms (q - n) m (sym (message_within n ms q low) ∙ is) in
          (low, omega (arith, within))
    ]

-- Each number within the bounds has a message.
pub message_there : (n : ℕ) (ms : List (List ℕ)) (q : ℕ) → n ≤ q → q < n + length ms →
    message_at n ms q ≡ Some (get_or ms (q - n) [])
message_there n ms q low high =
    message_within n ms q low ∙ slice_get-get_or ms (q - n) [] (omega arith)

pub message_none : (n q : ℕ) → message_at n [] q ≡ None
message_none n q =
    elim (cases_lt q n) [ inl below ↦ message_below n [] q below | inr low ↦ message_past n [] q (omega arith) ]

pub message_first : (n : ℕ) (m : List ℕ) (ms : List (List ℕ)) (q : ℕ) → q ≡ n → message_at n (m ∷ ms) q ≡ Some m
message_first n m ms q same =
    let index : q - n ≡ zero = omega arith in
    message_within n (m ∷ ms) q (omega arith) ∙ ap (slice_get (m ∷ ms)) index

pub message_next : (n : ℕ) (m : List ℕ) (ms : List (List ℕ)) (q : ℕ) → n < q →
    message_at n (m ∷ ms) q ≡ message_at (suc n) ms q
message_next n m ms q above =
    let index : q - n ≡ suc (q - suc n) = omega arith in
    message_within n (m ∷ ms) q (omega arith) ∙ ap (slice_get (m ∷ ms)) index
    ∙ sym (message_within (suc n) ms q (omega arith))

pub published_in : (P : List (List ℕ)) (i : ℕ) → published_at P (suc i) ≡ slice_get P i
published_in P i =
    let index : suc i - 1 ≡ i = omega arith in
    message_within 1 P (suc i) (omega arith) ∙ ap (slice_get P) index

pub lookup-numbered : (n : ℕ) (ms : List (List ℕ)) (q : ℕ) → lookup (eqb q) (numbered n ms) ≡ message_at n ms q
lookup-numbered n [] q = sym (message_none n q)
lookup-numbered n (m ∷ ms) q =
    elim (cases_order q n) [
      | inl same ↦ cond-true _ _ _ (eq-eqb q n same) ∙ sym (message_first n m ms q same)
      | inr (inl below) ↦
          cond-false _ _ _ (ne_eqb q n (λ e. omega (arith, e)))
          ∙ lookup-numbered (suc n) ms q
          ∙ message_below (suc n) ms q (omega arith)
          ∙ sym (message_below n (m ∷ ms) q below)
      | inr (inr above) ↦
          cond-false _ _ _ (ne_eqb q n (λ e. omega (arith, e)))
          ∙ lookup-numbered (suc n) ms q
          ∙ sym (message_next n m ms q above)
    ]

pub find-lookup : {X : Type 0} (q : ℕ) (es : List (ℕ × X)) → find nat_cmp q es ≡ lookup (eqb q) es
find-lookup q [] = refl
find-lookup q (e ∷ es) =
    ap (λ (b : Bool). cond b (Some e.1) (find nat_cmp q es)) (unsigned_tied q e.0)
    ∙ ap (cond (eqb q e.0) (Some e.1)) (find-lookup q es)

pub lookup-append : {X : Type 0} (test : ℕ → Bool) (es fs : List (ℕ × X)) →
    lookup test (es ++ fs) ≡ option_or (lookup test es) (lookup test fs)
lookup-append test [] fs = refl
lookup-append test (e ∷ es) fs =
    elim (cases_Bool (test e.0)) [
      | inl t ↦
          cond-true _ _ _ t
          ∙ sym (ap (λ (o : Option _). option_or o (lookup test fs)) (cond-true _ (Some e.1) (lookup test es) t))
      | inr f ↦
          cond-false _ _ _ f ∙ lookup-append test es fs
          ∙ sym (ap (λ (o : Option _). option_or o (lookup test fs)) (cond-false _ (Some e.1) (lookup test es) f))
    ]

pub get_made : (es : List (ℕ × List ℕ)) (q : ℕ) →
    finite.get {R = nat_cmp} (finite.from_entries es) q ≡ lookup (eqb q) es
get_made es q = finite.get-from_entries nat_cmp_total es q ∙ find-lookup q es

pub get_entries : (pairs : Pairs) (q : ℕ) → lookup (eqb q) (finite.entries pairs) ≡ finite.get pairs q
get_entries pairs q = sym (find-lookup q (finite.entries pairs)) ∙ sym (finite.get-entries pairs q)

-- The message with a number is the carried one, or otherwise the new one.
pub get-with : (pairs : Pairs) (n : ℕ) (ms : List (List ℕ)) (q : ℕ) →
    finite.get (pairs_with pairs n ms) q ≡ option_or (finite.get pairs q) (message_at n ms q)
get-with pairs n ms q =
    get_made (finite.entries pairs ++ numbered n ms) q
    ∙ lookup-append (eqb q) (finite.entries pairs) (numbered n ms)
    ∙ ap (λ (o : Option (List ℕ)). option_or o (lookup (eqb q) (numbered n ms))) (get_entries pairs q)
    ∙ ap (option_or (finite.get pairs q)) (lookup-numbered n ms q)

-- Two maps are equal if they have the same message for each number.
pub same_pairs : (one other : Pairs) → ((q : ℕ) → finite.get one q ≡ finite.get other q) → one ≡ other
same_pairs = finite.same_map nat_cmp_total finite.nat_cmp-IsAntisymmetric
