-- What is available at each number, and what a run of available messages is.
use Rattle.std.proofs.Common.{◌≡◌, ℕ, zero, suc, ◌+◌, ◌-◌, ◌<◌, ◌≤◌, Bool, true, cond, eqb, leb, ltb, nat_le, nat_lt}
use Rattle.std.proofs.Common.{◌&&◌, List, [], ◌∷◌, ◌++◌, length, get_or, refl, sym, ap, subst, ◌∙◌, inl, inr, arith}
use Rattle.std.proofs.Common.{nat_cmp}
use Rattle.std.specs.Prelude.{Option, None, Some, is_some, slice_get}
use Rattle.std.specs.Cmp.{unsigned_tied, nat_cmp_total}
use Rattle.std.specs.Map.{lookup}
use Rattle.std.specs.FinMap as finite
use Rattle.std.specs.FinMap.{find}
use Rattle.std.specs.Option.{option_or}
use Rattle.std.proofs.lemmas.Bool.{cases_order, cases_Bool, cond-true, cond-false, le-leb, lt-leb, eq-eqb, ne_eqb}
use Rattle.std.proofs.lemmas.Bool.{eqb-true}
use Rattle.std.proofs.lemmas.Option.{slice_get-get_or}
use Rattle.std.proofs.lemmas.Map.Entries.{lookup-filter-keys}
use Rattle.mold_wire.specs.Truth.{message_at}
use Rattle.mold_receiver.specs.Store.{Message, Store, numbered, from_next, available, behind_some, run_from, cut}

pub lookup-numbered : (number : ℕ) (messages : List Message) (at : ℕ) →
    lookup (eqb at) (numbered number messages) ≡ message_at number messages at
lookup-numbered number [] at =
    elim (cases_Bool (leb number at)) [
      | inl t ↦ sym (cond-true _ None None t)
      | inr f ↦ sym (cond-false _ None None f)
    ]
lookup-numbered number (message ∷ messages) at =
    elim (cases_order at number) [
      | inl same ↦
          let zero_at : at - number ≡ zero = omega arith in
          cond-true _ _ _ (eq-eqb at number same)
          ∙ sym (cond-true _ _ _ (le-leb number at (omega arith)) ∙ ap (slice_get (message ∷ messages)) zero_at)
      | inr (inl below) ↦
          cond-false _ _ _ (ne_eqb at number (λ e. omega (arith, e)))
          ∙ lookup-numbered (suc number) messages at
          ∙ cond-false _ _ _ (lt-leb (suc number) at (omega arith))
          ∙ sym (cond-false _ _ _ (lt-leb number at below))
      | inr (inr above) ↦
          let more : at - number ≡ suc (at - suc number) = omega arith in
          cond-false _ _ _ (ne_eqb at number (λ e. omega (arith, e)))
          ∙ lookup-numbered (suc number) messages at
          ∙ cond-true _ _ _ (le-leb (suc number) at above)
          ∙ sym (cond-true _ _ _ (le-leb number at (omega arith)) ∙ ap (slice_get (message ∷ messages)) more)
    ]

pub find-lookup : {X : Type 0} (at : ℕ) (es : List (ℕ × X)) → find nat_cmp at es ≡ lookup (eqb at) es
find-lookup at [] = refl
find-lookup at (e ∷ es) = ap (λ (b : Bool). cond b (Some e.1) (find nat_cmp at es)) (unsigned_tied at e.0)
    ∙ ap (cond (eqb at e.0) (Some e.1)) (find-lookup at es)

pub lookup-append : {X : Type 0} (test : ℕ → Bool) (es fs : List (ℕ × X)) →
    lookup test (es ++ fs) ≡ option_or (lookup test es) (lookup test fs)
lookup-append test [] fs = refl
lookup-append test (e ∷ es) fs =
    elim (cases_Bool (test e.0)) [
      | inl t ↦ cond-true _ _ _ t
          ∙ sym (ap (λ (o : Option _). option_or o (lookup test fs)) (cond-true _ (Some e.1) (lookup test es) t))
      | inr f ↦ cond-false _ _ _ f ∙ lookup-append test es fs
          ∙ sym (ap (λ (o : Option _). option_or o (lookup test fs)) (cond-false _ (Some e.1) (lookup test es) f))
    ]

pub get-entries_of : (store : Store) (at : ℕ) → lookup (eqb at) (finite.entries store) ≡ finite.get store at
get-entries_of store at = sym (find-lookup at (finite.entries store)) ∙ sym (finite.get-entries store at)

pub get_made : (es : List (ℕ × Message)) (at : ℕ) →
    finite.get {R = nat_cmp} (finite.from_entries es) at ≡ lookup (eqb at) es
get_made es at = finite.get-from_entries nat_cmp_total es at ∙ find-lookup at es

pub lookup-from_next : (next number : ℕ) (messages : List Message) (at : ℕ) →
    lookup (eqb at) (from_next next number messages) ≡ cond (leb next at) (message_at number messages at) None
lookup-from_next next number messages at =
    lookup-filter-keys (eqb at) (λ k. nat_le next k) (leb next at) (λ k t. ap (leb next) (sym (eqb-true at k t)))
    (numbered number messages)
    ∙ ap (λ (o : Option Message). cond (leb next at) o None) (lookup-numbered number messages at)

-- What is available is the packet's message from `next` on, and otherwise the stored one.
pub get-available : (store : Store) (next number : ℕ) (messages : List Message) (at : ℕ) →
    finite.get (available store next number messages) at ≡ option_or
    (cond (leb next at) (message_at number messages at) None) (finite.get store at)
get-available store next number messages at =
    get_made (from_next next number messages ++ finite.entries store) at
    ∙ lookup-append (eqb at) (from_next next number messages) (finite.entries store)
    ∙ ap (λ (o : Option Message). option_or o (lookup (eqb at) (finite.entries store)))
    (lookup-from_next next number messages at)
    ∙ ap (option_or (cond (leb next at) (message_at number messages at) None)) (get-entries_of store at)

-- A cut store is unchanged above `next` and in the window, and has nothing elsewhere.
pub get-cut : (store : Store) (next window at : ℕ) →
    finite.get (cut store next window) at ≡ cond (ltb next at && ltb at (next + window)) (finite.get store at) None
get-cut store next window at =
    finite.get-retain_keys store (λ k. nat_lt next k && nat_lt k (next + window)) at
    (λ k tied. ap (λ (k : ℕ). ltb next k && ltb k (next + window)) (sym (finite.nat_cmp-IsAntisymmetric at k tied)))

-- Two stores with the same message at each number are equal.
pub same_store : (one other : Store) → ((at : ℕ) → finite.get one at ≡ finite.get other at) → one ≡ other
same_store = finite.same_map nat_cmp_total finite.nat_cmp-IsAntisymmetric

-- Messages are the run if each is the one looked up and none follows the last.
pub run_is : (look : ℕ → Option Message) (number most : ℕ) (messages : List Message)
    → ((i : ℕ) (message : Message) → slice_get messages i ≡ Some message → look (number + i) ≡ Some message)
    → look (number + length messages) ≡ None → length messages ≤ most → run_from look number most ≡ messages
unfolding run_from
run_is look number zero [] each stops few = refl
run_is look number zero (m ∷ ms) each stops few = absurd (omega arith)
run_is look number (suc most) [] each stops few =
    let at : number + 0 ≡ number = omega arith in
    ap (λ (o : Option Message). behind_some o (run_from look (suc number) most))
    (subst (λ (n : ℕ). look n ≡ None) at stops)
run_is look number (suc most) (m ∷ ms) each stops few =
    let at : number + 0 ≡ number = omega arith in
    let behind : number + suc (length ms) ≡ suc number + length ms = omega arith in
    let first : look number ≡ Some m = subst (λ (n : ℕ). look n ≡ Some m) at (each 0 m refl) in
    let rest : run_from look (suc number) most ≡ ms =
    run_is look (suc number) most ms
    (λ i message is. let same : number + suc i ≡ suc number + i =
    omega arith in subst (λ (n : ℕ). look n ≡ Some message) same (each (suc i) message is))
    (subst (λ (n : ℕ). look n ≡ None) behind stops) (omega arith)
    in
    ap (λ (o : Option Message). behind_some o (run_from look (suc number) most)) first
    ∙ ap (λ (t : List Message). m ∷ t) rest

pub none_some : {X : Type 0} {x : X} → ◌≡◌ {A = Option X} None (Some x) → ⊥
none_some e = cc

-- Each message of a run is the one looked up.
pub run_reads : (look : ℕ → Option Message) (number most : ℕ) (i : ℕ) (message : Message) →
    slice_get (run_from look number most) i ≡ Some message → look (number + i) ≡ Some message
unfolding run_from
run_reads look number zero i message is = absurd (none_some is)
run_reads look number (suc most) zero message is =
    let at : number ≡ number + 0 = omega arith in
    elim (look number) as (λ o. look number ≡ o →
    slice_get (behind_some o (run_from look (suc number) most)) 0 ≡ Some message → look (number + 0) ≡ Some message) [
      | None ↦ λ e is. absurd (none_some is)
      | Some m ↦ λ e is. subst (λ (n : ℕ). look n ≡ Some message) at (e ∙ is)
    ] refl is
run_reads look number (suc most) (suc i) message is =
    let at : suc number + i ≡ number + suc i = omega arith in
    elim (look number) as (λ o. look number ≡ o →
    slice_get (behind_some o (run_from look (suc number) most)) (suc i) ≡ Some message →
    look (number + suc i) ≡ Some message) [
      | None ↦ λ e is. absurd (none_some is)
      | Some m ↦ λ e is. subst (λ (n : ℕ). look n ≡ Some message) at (run_reads look (suc number) most i message is)
    ] refl is

pub run_short : (look : ℕ → Option Message) (number most : ℕ) → length (run_from look number most) ≤ most
unfolding run_from
run_short look number zero = omega arith
run_short look number (suc most) =
    elim (look number) as (λ o. length (behind_some o (run_from look (suc number) most)) ≤ suc most) [
      | None ↦ omega arith
      | Some m ↦ omega (arith, run_short look (suc number) most)
    ]

-- No message follows a run, if none is at its greatest end.
pub run_ends : (look : ℕ → Option Message) (number most : ℕ) → look (number + most) ≡ None →
    look (number + length (run_from look number most)) ≡ None
unfolding run_from
run_ends look number zero stops = stops
run_ends look number (suc most) stops =
    let at : number + suc most ≡ suc number + most = omega arith in
    let here : number ≡ number + 0 = omega arith in
    elim (look number) as (λ o. look number ≡ o →
    look (number + length (behind_some o (run_from look (suc number) most))) ≡ None) [
      | None ↦ λ e. subst (λ (n : ℕ). look n ≡ None) here e
      | Some m ↦ λ e.
          let behind : suc number + length (run_from look (suc number) most) ≡ number + suc
          (length (run_from look (suc number) most)) = omega arith in
          subst (λ (n : ℕ). look n ≡ None) behind
          (run_ends look (suc number) most (subst (λ (n : ℕ). look n ≡ None) at stops))
    ] refl

-- Each number of a run has a message.
pub run_had : (look : ℕ → Option Message) (number most : ℕ) (at : ℕ) → number ≤ at →
    at < number + length (run_from look number most) → is_some (look at) ≡ true
run_had look number most at low high =
    let messages = run_from look number most in
    let place : at - number < length messages = omega arith in
    let same : number + (at - number) ≡ at = omega arith in
    ap is_some (subst (λ (n : ℕ). look n ≡ Some (get_or messages (at - number) [])) same
    (run_reads look number most (at - number) (get_or messages (at - number) [])
    (slice_get-get_or messages (at - number) [] place)))
