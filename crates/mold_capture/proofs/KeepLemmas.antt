-- The carried messages when messages are kept or removed.
use Rattle.std.proofs.Common.{◌≡◌, ℕ, suc, ◌+◌, ◌<◌, List, [], ◌∷◌, length, refl, sym, ap, subst, ◌∙◌, inl, inr, arith, true, false, Bor}
use Rattle.std.specs.Prelude.{Option, None, Some, is_some, Result, Ok, Err, IfErr, OnOk}
use Rattle.std.specs.BTreeMap.{is_at}
use Rattle.std.specs.FinMap as finite
use Rattle.std.specs.List.Sorted.{IsStrictlySortedBy}
use Rattle.std.specs.Map.{keys_of, lookup}
use Rattle.std.specs.Option.{option_or, option_copied}
use Rattle.std.specs.Ordering.{nat_cmp}
use Rattle.std.proofs.lemmas.Bool.{cases_order, true≢false, cond-true, cond-false}
use Rattle.std.proofs.lemmas.Option.{none-some}
use Rattle.mold_wire.specs.Truth.{message_at}
use Rattle.mold_capture.specs.declared.run.Run.{Run}
use Rattle.mold_rule.specs.declared.refusal.Refusal.{Refusal}
use Rattle.mold_rule.specs.declared.refusal.Refusal.TheVariants.{Memory}
use Rattle.mold_capture.specs.Refusal.{conflict, told}
use Rattle.mold_rule.specs.Held.{differs}
use Rattle.mold_capture.specs.Runs.{Runs, pairs_of, HasRun, AreRuns, AreFree}
use Rattle.mold_capture.specs.Seen.{Pairs, BringNew, pairs_with}
use Rattle.mold_capture.proofs.RefusalLemmas.{agrees_from}
use Rattle.mold_capture.proofs.GrowLemmas.{free_pairs}
use Rattle.mold_capture.proofs.PairLemmas.{option_or_first, option_or_second, message_bounds, message_below}
use Rattle.mold_capture.proofs.PairLemmas.{message_past, message_first, message_next, message_none, get-with}
use Rattle.mold_capture.proofs.PairLemmas.{same_pairs}

-- Runs with the same entries are valid for the same messages.
pub are_same : (runs now : Runs) (kept count : ℕ) → now.entries ≡ runs.entries → count ≡ kept → AreRuns runs kept →
    AreRuns now count
are_same runs now kept count same counted are =
    let has = λ (f : ℕ) (run : Run) (is : HasRun now f run).
    sym (ap (λ (es : List (ℕ × Run)). lookup (is_at (nat_cmp f)) es) same) ∙ is
    in
    record {
      fits = omega (arith, are.fits);
      ordered = subst (λ (es : List (ℕ × Run)). IsStrictlySortedBy nat_cmp (keys_of es)) (sym same) are.ordered;
      some = λ f run is. are.some f run (has f run is);
      inside = λ f run is. omega (arith, are.inside f run (has f run is));
      last = λ f run is. are.last f run (has f run is);
      apart = λ f g run other is there. are.apart f g run other (has f run is) (has g other there);
    }

pub with_none : (pairs : Pairs) (n : ℕ) → pairs_with pairs n [] ≡ pairs
with_none pairs n = same_pairs _ _ (λ q.
    get-with pairs n [] q ∙ ap (option_or (finite.get pairs q)) (message_none n q) ∙ or_none (finite.get pairs q))
  where
    or_none : (o : Option (List ℕ)) → option_or o None ≡ o
    or_none None = refl
    or_none (Some x) = refl

or_joined : (a b c : Option (List ℕ)) → option_or (option_or a b) c ≡ option_or a (option_or b c)
or_joined None b c = refl
or_joined (Some x) b c = refl

message_split : (n : ℕ) (m : List ℕ) (ms : List (List ℕ)) (q : ℕ) →
    option_or (message_at n (m ∷ []) q) (message_at (suc n) ms q) ≡ message_at n (m ∷ ms) q
message_split n m ms q =
    elim (cases_order q n) [
      | inl same ↦
          option_or_first (message_at n (m ∷ []) q) (message_at (suc n) ms q) m (message_first n m [] q same)
          ∙ sym (message_first n m ms q same)
      | inr (inl below) ↦
          option_or_second (message_at n (m ∷ []) q) (message_at (suc n) ms q) (message_below n (m ∷ []) q below)
          ∙ message_below (suc n) ms q (omega arith)
          ∙ sym (message_below n (m ∷ ms) q below)
      | inr (inr above) ↦
          option_or_second (message_at n (m ∷ []) q) (message_at (suc n) ms q) (message_past n (m ∷ []) q (omega arith))
          ∙ sym (message_next n m ms q above)
    ]

-- Adding messages one after another is the same as adding all of them.
pub with_next : (pairs : Pairs) (n k : ℕ) (m : List ℕ) (ms : List (List ℕ)) → k ≡ n + 1 →
    pairs_with (pairs_with pairs n (m ∷ [])) k ms ≡ pairs_with pairs n (m ∷ ms)
with_next pairs n k m ms next =
    let at : k ≡ suc n = omega arith in
    same_pairs _ _ (λ q.
    get-with (pairs_with pairs n (m ∷ [])) k ms q
    ∙ ap (λ (o : Option (List ℕ)). option_or o (message_at k ms q)) (get-with pairs n (m ∷ []) q)
    ∙ or_joined (finite.get pairs q) (message_at n (m ∷ []) q) (message_at k ms q)
    ∙ ap (λ (j : ℕ). option_or (finite.get pairs q) (option_or (message_at n (m ∷ []) q) (message_at j ms q))) at
    ∙ ap (option_or (finite.get pairs q)) (message_split n m ms q)
    ∙ sym (get-with pairs n (m ∷ ms) q))

-- Adding messages that are already there changes nothing.
pub with_carried : (pairs : Pairs) (n : ℕ) (ms : List (List ℕ)) →
    ((q : ℕ) (m : List ℕ) → message_at n ms q ≡ Some m → (x : List ℕ) × (finite.get pairs q ≡ Some x))
    → pairs_with pairs n ms ≡ pairs
with_carried pairs n ms had = same_pairs _ _ (λ q.
    get-with pairs n ms q ∙ stays (finite.get pairs q) (message_at n ms q) (had q))
  where
    stays : (a b : Option (List ℕ)) → ((m : List ℕ) → b ≡ Some m → (x : List ℕ) × (a ≡ Some x)) → option_or a b ≡ a
    stays (Some x) b had = refl
    stays None None had = refl
    stays None (Some m) had = (let found = had m refl in absurd (none-some found.0 found.1))

-- The same entries and messages give the same carried messages.
pub same_carried : (runs now : Runs) (kept messages : List (List ℕ)) → now.entries ≡ runs.entries → messages ≡ kept →
    pairs_of now.entries messages ≡ pairs_of runs.entries kept
same_carried runs now kept messages same is = λ i. pairs_of (same i) (is i)

-- After a message that is already there, the other messages are added as with it.
pub with_held : (pairs : Pairs) (n k : ℕ) (m : List ℕ) (ms : List (List ℕ)) → k ≡ n + 1 →
    (x : List ℕ) × (finite.get pairs n ≡ Some x) → pairs_with pairs k ms ≡ pairs_with pairs n (m ∷ ms)
with_held pairs n k m ms next found =
    let same = with_carried pairs n (m ∷ [])
    (λ q x is.
    let lies = message_bounds n (m ∷ []) q x is in
    let here : q ≡ n = omega (arith, lies.0, lies.1) in
    (found.0, ap (finite.get pairs) here ∙ found.1))
    in
    ap (λ (p : Pairs). pairs_with p k ms) (sym same) ∙ with_next pairs n k m ms next

-- A message with a number that no message has is new.
pub brings_first : (pairs : Pairs) (n : ℕ) (m : List ℕ) (ms : List (List ℕ)) → finite.get pairs n ≡ None →
    BringNew pairs n (m ∷ ms)
brings_first pairs n m ms none = λ same.
    none-some m
    (sym none ∙ sym (ap (λ (p : Pairs). finite.get p n) same)
    ∙ get-with pairs n (m ∷ ms) n
    ∙ option_or_second (finite.get pairs n) (message_at n (m ∷ ms) n) none
    ∙ message_first n m ms n refl)

-- After a message that doesn't differ, the conflict is that of the other messages.
pub conflict_next : (pairs : Pairs) (n k : ℕ) (m : List ℕ) (ms : List (List ℕ)) → k ≡ n + 1 →
    differs (finite.get pairs n) m ≡ false → conflict pairs k ms ≡ conflict pairs n (m ∷ ms)
conflict_next pairs n k m ms next same =
    let at : k ≡ suc n = omega arith in
    ap (λ (j : ℕ). conflict pairs j ms) at
    ∙ sym (cond-false (differs (finite.get pairs n) m) (Some n) (conflict pairs (suc n) ms) same)

pub conflict_here : (pairs : Pairs) (n : ℕ) (m : List ℕ) (ms : List (List ℕ)) →
    differs (finite.get pairs n) m ≡ true → conflict pairs n (m ∷ ms) ≡ Some n
conflict_here pairs n m ms other =
    cond-true (differs (finite.get pairs n) m) (Some n) (conflict pairs (suc n) ms) other

pub copied_some : (o : Option (Bor (List ℕ))) → is_some o ≡ true → (x : List ℕ) × (option_copied o ≡ Some x)
copied_some None some = absurd (true≢false (sym some))
copied_some (Some b) some = (b.now, refl)

pub copied_none : (o : Option (Bor (List ℕ))) → is_some o ≡ false → option_copied o ≡ None
copied_none None none = refl
copied_none (Some b) none = absurd (true≢false none)

-- If no run has a number of the messages, they are new.
pub free_brings : (runs : Runs) (kept : List (List ℕ)) → AreRuns runs (length kept) → (n : ℕ) (ms : List (List ℕ)) →
    0 < length ms → AreFree runs n (n + length ms) → BringNew (pairs_of runs.entries kept) n ms
free_brings runs kept are n [] some free = absurd (omega (arith, some))
free_brings runs kept are n (m ∷ ms) some free =
    brings_first (pairs_of runs.entries kept) n m ms
    (free_pairs runs kept are n (n + length (m ∷ ms)) free n (omega arith) (omega (arith, some)))

-- If no run has a number of the messages, nothing conflicts.
pub free_conflict : (runs : Runs) (kept : List (List ℕ)) → AreRuns runs (length kept) → (n : ℕ) (ms : List (List ℕ)) →
    AreFree runs n (n + length ms) → conflict (pairs_of runs.entries kept) n ms ≡ None
free_conflict runs kept are n ms free =
    agrees_from (pairs_of runs.entries kept) n ms (λ q m other new old.
    let lies = message_bounds n ms q m new in
    absurd (none-some other (sym (free_pairs runs kept are n (n + length ms) free q lies.0 lies.1) ∙ old)))

-- If there is no other reason, only `Memory` is returned.
pub memory_told : (r : Result (Unit {0}) Refusal) (o : Option Refusal) → IfErr r (λ x. x ≡ Memory) → o ≡ None →
    IfErr r (λ x. o ≡ told x)
memory_told (Ok u) o memory none = tt
memory_told (Err x) o memory none = none ∙ sym (ap told memory)

pub always_memory : {T : Type 0} (r : Result T Refusal) (P : Type 0) → P → IfErr r (λ x. x ≡ Memory → P)
always_memory (Ok u) P holds = tt
always_memory (Err x) P holds = λ memory. holds

pub always_ok : {E : Type 0} (r : Result (Unit {0}) E) (P : Type 0) → P → OnOk r P
always_ok (Ok u) P holds = holds
always_ok (Err x) P holds = tt

-- Without runs, no message is carried.
pub none_carried : (kept : List (List ℕ)) → pairs_of [] kept ≡ finite.empty
unfolding pairs_of
none_carried kept = refl
