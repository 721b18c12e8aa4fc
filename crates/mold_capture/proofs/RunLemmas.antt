-- Runs, and the messages that they represent.
use Rattle.std.proofs.Common.{◌≡◌, ℕ, zero, suc, ◌+◌, ◌-◌, ◌<◌, ◌≤◌, Bool, true, false, cond, eqb, List, [], ◌∷◌, length}
use Rattle.std.proofs.Common.{take, drop, get_or, refl, sym, ap, subst, ◌∙◌, inl, inr, arith}
use Rattle.std.specs.Prelude.{Option, None, Some, IfSome, is_some, slice_get}
use Rattle.std.specs.BTreeMap.{is_at}
use Rattle.std.specs.Cmp.{nat_cmp_is, nat_cmp_total, unsigned_tied}
use Rattle.std.specs.FinMap as finite
use Rattle.std.specs.List.{All}
use Rattle.std.specs.Map.{lookup}
use Rattle.std.specs.Option.{option_or}
use Rattle.std.specs.Ordering.{nat_cmp, is_gt}
use Rattle.std.specs.declared.cmp.Ordering.TheVariants.{Less, Equal}
use Rattle.std.proofs.lemmas.Bool.{true≢false, cases_order, cases_eq, cond-true, cond-false, eq-eqb, ne_eqb}
use Rattle.std.proofs.lemmas.List.{length-take, length-drop}
use Rattle.std.proofs.lemmas.List.Elements.{All-head, All-tail}
use Rattle.std.proofs.lemmas.Map.Views.{All-found}
use Rattle.std.proofs.lemmas.Option.{none-some, same_Some, slice_get-get_or}
use Rattle.mold_wire.specs.Truth.{message_at}
use Rattle.mold_capture.specs.declared.run.Run.{Run}
use Rattle.mold_capture.specs.Runs.{Runs, messages_in, run_pairs, pairs_of, HasRun, AreRuns, Covers, AreFreeFrom}
use Rattle.mold_capture.specs.Seen.{numbered}
use Rattle.mold_capture.proofs.PairLemmas.{option_cases, option_or_cases, option_or_first, option_or_second}
use Rattle.mold_capture.proofs.PairLemmas.{lookup-numbered, lookup-append, get_made, message_below, message_within}
use Rattle.mold_capture.proofs.PairLemmas.{message_past, message_bounds}

pub le-gt : (a b : ℕ) → a ≤ b → is_gt (nat_cmp a b) ≡ false
le-gt a b low =
    elim (cases_order a b) [
      | inl same ↦ sym (ap is_gt (nat_cmp_is a b Equal same))
      | inr (inl below) ↦ sym (ap is_gt (nat_cmp_is a b Less below))
      | inr (inr above) ↦ absurd (omega arith)
    ]

pub lookup_at : {X : Type 0} (q : ℕ) (es : List (ℕ × X)) → lookup (is_at (nat_cmp q)) es ≡ lookup (eqb q) es
lookup_at q [] = refl
lookup_at q (e ∷ es) =
    ap (λ (b : Bool). cond b (Some e.1) (lookup (is_at (nat_cmp q)) es)) (unsigned_tied q e.0)
    ∙ ap (cond (eqb q e.0) (Some e.1)) (lookup_at q es)

-- A message of a part of the list.
pub slice_get_part : (kept : List (List ℕ)) (start count i : ℕ) → i < count →
    slice_get (take count (drop start kept)) i ≡ slice_get kept (start + i)
slice_get_part kept start zero i within = absurd (omega arith)
slice_get_part [] zero (suc count) i within = refl
slice_get_part (m ∷ kept) zero (suc count) zero within = refl
slice_get_part (m ∷ kept) zero (suc count) (suc i) within =
    let there : 0 + i ≡ i = omega arith in
    let here : i + 1 ≡ 0 + suc i = omega arith in
    slice_get_part kept zero count i (omega arith) ∙ ap (slice_get kept) there
    ∙ ap (slice_get (m ∷ kept)) (let e : suc i ≡ 0 + suc i = omega arith in e)
slice_get_part [] (suc start) (suc count) i within = refl
slice_get_part (m ∷ kept) (suc start) (suc count) i within =
    slice_get_part kept start (suc count) i within
    ∙ ap (slice_get (m ∷ kept)) (let e : suc (start + i) ≡ suc start + i = omega arith in e)

-- A run has this message with a number.
pub record RunAt (runs : Runs) (kept : List (List ℕ)) (q : ℕ) (m : List ℕ) : Type 0 where
  pub first : ℕ
  pub run : Run
  pub there : HasRun runs first run
  pub covers : Covers first run q
  pub is : slice_get kept (run.start + (q - first)) ≡ Some m

-- The message that a run has with one of its numbers.
run_message : (kept : List (List ℕ)) (f : ℕ) (run : Run) (q : ℕ) → Covers f run q →
    message_at f (messages_in kept run) q ≡ slice_get kept (run.start + (q - f))
run_message kept f run q covers =
    message_within f (messages_in kept run) q covers.0 ∙ slice_get_part kept run.start run.count (q - f) (omega (arith, covers.1))

run_short : (kept : List (List ℕ)) (run : Run) → length (messages_in kept run) ≤ run.count
run_short kept run = omega (arith, length-take run.count (drop run.start kept))

run_bounds : (kept : List (List ℕ)) (f : ℕ) (run : Run) (q : ℕ) (m : List ℕ) →
    message_at f (messages_in kept run) q ≡ Some m → Covers f run q
run_bounds kept f run q m is =
    let lies = message_bounds f (messages_in kept run) q m is in
    (lies.0, omega (arith, lies.1, run_short kept run))

at_entries : (runs : Runs) (kept : List (List ℕ)) (q : ℕ) (m : List ℕ) (es : List (ℕ × Run)) →
    All (λ (e : ℕ × Run). HasRun runs e.0 e.1) es → lookup (eqb q) (run_pairs es kept) ≡ Some m → RunAt runs kept q m
at_entries runs kept q m [] all is = absurd (none-some m is)
at_entries runs kept q m (e ∷ es) all is =
    elim (option_or_cases (message_at e.0 (messages_in kept e.1) q) (lookup (eqb q) (run_pairs es kept)) m
    (sym (ap (λ (o : Option (List ℕ)). option_or o (lookup (eqb q) (run_pairs es kept))) (lookup-numbered e.0 (messages_in kept e.1) q))
    ∙ sym (lookup-append (eqb q) (numbered e.0 (messages_in kept e.1)) (run_pairs es kept)) ∙ is)) [
      | inl first ↦
          let covers = run_bounds kept e.0 e.1 q m first in
          record {
            first = e.0;
            run = e.1;
            there = All-head (λ (e : ℕ × Run). HasRun runs e.0 e.1) e es all;
            covers = covers;
            is = sym (run_message kept e.0 e.1 q covers) ∙ first;
          }
      | inr later ↦ at_entries runs kept q m es (All-tail (λ (e : ℕ × Run). HasRun runs e.0 e.1) e es all) later.1
    ]

entries_at : (runs : Runs) (kept : List (List ℕ)) → AreRuns runs (length kept) → (q : ℕ) (m : List ℕ) (f : ℕ) (run : Run) →
    HasRun runs f run → Covers f run q → slice_get kept (run.start + (q - f)) ≡ Some m
    → (es : List (ℕ × Run)) → All (λ (e : ℕ × Run). HasRun runs e.0 e.1) es → lookup (eqb f) es ≡ Some run
    → lookup (eqb q) (run_pairs es kept) ≡ Some m
entries_at runs kept are q m f run there covers is [] all found = absurd (none-some run found)
entries_at runs kept are q m f run there covers is (e ∷ es) all found =
    let rest = lookup (eqb q) (run_pairs es kept) in
    let has = All-head (λ (e : ℕ × Run). HasRun runs e.0 e.1) e es all in
    let behind = All-tail (λ (e : ℕ × Run). HasRun runs e.0 e.1) e es all in
    let split : lookup (eqb q) (run_pairs (e ∷ es) kept) ≡ option_or (message_at e.0 (messages_in kept e.1) q) rest =
    lookup-append (eqb q) (numbered e.0 (messages_in kept e.1)) (run_pairs es kept)
    ∙ ap (λ (o : Option (List ℕ)). option_or o rest) (lookup-numbered e.0 (messages_in kept e.1) q)
    in
    elim (cases_order f e.0) [
      | inl same ↦
          let one : e.1 ≡ run = same_Some e.1 run (sym (cond-true (eqb f e.0) (Some e.1) (lookup (eqb f) es) (eq-eqb f e.0 same)) ∙ found) in
          let at : message_at e.0 (messages_in kept e.1) q ≡ Some m =
          ap (λ (r : Run). message_at e.0 (messages_in kept r) q) one
          ∙ ap (λ (g : ℕ). message_at g (messages_in kept run) q) (sym same)
          ∙ run_message kept f run q covers ∙ is
          in
          split ∙ option_or_first (message_at e.0 (messages_in kept e.1) q) rest m at
      | inr (inl below) ↦
          let apart = are.apart f e.0 run e.1 there has below in
          split
          ∙ option_or_second (message_at e.0 (messages_in kept e.1) q) rest
          (message_below e.0 (messages_in kept e.1) q (omega (arith, apart, covers.1)))
          ∙ entries_at runs kept are q m f run there covers is es behind
          (sym (cond-false (eqb f e.0) (Some e.1) (lookup (eqb f) es) (ne_eqb f e.0 (λ e. omega (arith, e)))) ∙ found)
      | inr (inr above) ↦
          let apart = are.apart e.0 f e.1 run has there above in
          split
          ∙ option_or_second (message_at e.0 (messages_in kept e.1) q) rest
          (message_past e.0 (messages_in kept e.1) q (omega (arith, apart, covers.0, run_short kept e.1)))
          ∙ entries_at runs kept are q m f run there covers is es behind
          (sym (cond-false (eqb f e.0) (Some e.1) (lookup (eqb f) es) (ne_eqb f e.0 (λ e. omega (arith, e)))) ∙ found)
    ]

-- A carried message is in a run.
pub at_pairs : (runs : Runs) (kept : List (List ℕ)) → AreRuns runs (length kept) → (q : ℕ) (m : List ℕ) →
    finite.get (pairs_of runs.entries kept) q ≡ Some m → RunAt runs kept q m
unfolding pairs_of
at_pairs runs kept are q m is =
    at_entries runs kept q m runs.entries (All-found nat_cmp_total runs are.ordered) (sym (get_made (run_pairs runs.entries kept) q) ∙ is)

-- A message of a run is carried.
pub pairs_at : (runs : Runs) (kept : List (List ℕ)) → AreRuns runs (length kept) → (q : ℕ) (m : List ℕ) →
    RunAt runs kept q m → finite.get (pairs_of runs.entries kept) q ≡ Some m
unfolding pairs_of
pairs_at runs kept are q m at =
    get_made (run_pairs runs.entries kept) q
    ∙ entries_at runs kept are q m at.first at.run at.there at.covers at.is runs.entries
    (All-found nat_cmp_total runs are.ordered) (sym (lookup_at at.first runs.entries) ∙ at.there)

pub lookup_all : (P : ℕ × Run → Type 0) (q : ℕ) (run : Run) (es : List (ℕ × Run)) → All P es →
    lookup (eqb q) es ≡ Some run → P (q, run)
lookup_all P q run [] all is = absurd (none-some run is)
lookup_all P q run (e ∷ es) all is =
    elim (cases_eq q e.0) [
      | inl same ↦
          let one : e.1 ≡ run = same_Some e.1 run (sym (cond-true (eqb q e.0) (Some e.1) (lookup (eqb q) es) (eq-eqb q e.0 same)) ∙ is) in
          subst P (λ i. (sym same i, one i)) (All-head P e es all)
      | inr other ↦
          lookup_all P q run es (All-tail P e es all)
          (sym (cond-false (eqb q e.0) (Some e.1) (lookup (eqb q) es) (ne_eqb q e.0 other)) ∙ is)
    ]

-- Each number of a run has a carried message.
pub covered_pairs : (runs : Runs) (kept : List (List ℕ)) → AreRuns runs (length kept) → (q f : ℕ) (run : Run) →
    HasRun runs f run → Covers f run q
    → finite.get (pairs_of runs.entries kept) q ≡ Some (get_or kept (run.start + (q - f)) [])
covered_pairs runs kept are q f run has covers =
    pairs_at runs kept are q (get_or kept (run.start + (q - f)) [])
    (record {
      first = f;
      run = run;
      there = has;
      covers = covers;
      is =
          slice_get-get_or kept (run.start + (q - f)) []
          (omega (arith, are.inside f run has, covers.0, covers.1));
    })

-- If a search finds a run, the number has a carried message.
pub found_pairs : (runs : Runs) (kept : List (List ℕ)) → AreRuns runs (length kept) → (q : ℕ) (o : Option (ℕ × Run)) →
    IfSome o (λ e. HasRun runs e.0 e.1) → IfSome o (λ e. Covers e.0 e.1 q) → is_some o ≡ true
    → (x : List ℕ) × (finite.get (pairs_of runs.entries kept) q ≡ Some x)
found_pairs runs kept are q None has covers some = absurd (true≢false (sym some))
found_pairs runs kept are q (Some e) has covers some =
    (get_or kept (e.1.start + (q - e.0)) [], covered_pairs runs kept are q e.0 e.1 has covers)

-- The carried message of a run's number is the message of the run.
pub covered_at : (runs : Runs) (kept : List (List ℕ)) → AreRuns runs (length kept) → (q f : ℕ) (run : Run) →
    HasRun runs f run → Covers f run q
    → finite.get (pairs_of runs.entries kept) q ≡ slice_get kept (run.start + (q - f))
covered_at runs kept are q f run has covers =
    covered_pairs runs kept are q f run has covers
    ∙ sym (slice_get-get_or kept (run.start + (q - f)) []
    (omega (arith, are.inside f run has, covers.0, covers.1)))

-- A number that is in no run has no carried message.
pub uncovered_at : (runs : Runs) (kept : List (List ℕ)) → AreRuns runs (length kept) → (q : ℕ) →
    ((f : ℕ) (run : Run) → HasRun runs f run → Covers f run q → ⊥) → finite.get (pairs_of runs.entries kept) q ≡ None
uncovered_at runs kept are q none =
    elim (option_cases (finite.get (pairs_of runs.entries kept) q)) [
      | inl nothing ↦ nothing
      | inr some ↦
          let at = at_pairs runs kept are q some.0 some.1 in
          absurd (none at.first at.run at.there at.covers)
    ]

-- The numbers from one that no run has or exceeds have no carried messages.
pub free_from : (runs : Runs) (kept : List (List ℕ)) → AreRuns runs (length kept) → (n : ℕ) → AreFreeFrom runs n →
    (k : ℕ) → n ≤ k → finite.get (pairs_of runs.entries kept) k ≡ None
free_from runs kept are n free k low =
    uncovered_at runs kept are k (λ f run has covers. free f run k has covers low)

-- The first message of a part of the list, and those after it.
pub part_first : (kept : List (List ℕ)) (start count : ℕ) (m : List ℕ) → slice_get kept start ≡ Some m → 0 < count →
    take count (drop start kept) ≡ m ∷ take (count - 1) (drop (start + 1) kept)
part_first [] start count m is some = absurd (none-some m is)
part_first (x ∷ kept) zero zero m is some = absurd (omega arith)
part_first (x ∷ kept) zero (suc count) m is some =
    let rest : count ≡ suc count - 1 = omega arith in
    λ i. same_Some x m is i ∷ take (rest i) kept
part_first (x ∷ kept) (suc start) count m is some =
    let next : suc (start + 1) ≡ suc start + 1 = omega arith in
    part_first kept start count m is some ∙ ap (λ (n : ℕ). m ∷ take (count - 1) (drop n (x ∷ kept))) next

-- The messages of a run from an index on.
pub record IsRest (runs : Runs) (kept : List (List ℕ)) (first : ℕ) (run : Run) (skip : ℕ) (rest : List (List ℕ)) : Type 0 where
  pub are : AreRuns runs (length kept)
  pub there : HasRun runs first run
  pub within : skip < run.count
  pub is : rest ≡ take (run.count - skip) (drop (run.start + skip) kept)

pub length-rest : (runs : Runs) (kept : List (List ℕ)) (first : ℕ) (run : Run) (skip : ℕ) (rest : List (List ℕ)) →
    IsRest runs kept first run skip rest → length rest ≡ run.count - skip
length-rest runs kept first run skip rest it =
    let inside = it.are.inside first run it.there in
    omega (
      arith,
      inside,
      it.within,
      ap (λ (t : List (List ℕ)). length t) it.is,
      length-take (run.count - skip) (drop (run.start + skip) kept),
      length-drop (run.start + skip) kept,
    )

pub carried_rest : (runs : Runs) (kept : List (List ℕ)) (first : ℕ) (run : Run) (skip : ℕ) (rest : List (List ℕ)) →
    IsRest runs kept first run skip rest → (i : ℕ) → i < length rest
    → finite.get (pairs_of runs.entries kept) (first + skip + i) ≡ slice_get rest i
carried_rest runs kept first run skip rest it i within =
    let long = length-rest runs kept first run skip rest it in
    let index : run.start + (first + skip + i - first) ≡ run.start + skip + i = omega arith in
    covered_at runs kept it.are (first + skip + i) first run it.there (omega arith, omega (arith, within, long, it.within))
    ∙ ap (slice_get kept) index
    ∙ sym (slice_get_part kept (run.start + skip) (run.count - skip) i (omega (arith, within, long)))
    ∙ ap (λ (t : List (List ℕ)). slice_get t i) (sym it.is)
