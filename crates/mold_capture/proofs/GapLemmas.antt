-- The gaps between runs are the ranges of missing numbers.
use Rattle.std.proofs.Common.{◌≡◌, ℕ, zero, suc, ◌+◌, ◌-◌, ◌<◌, ◌≤◌, ◌⊎◌, Bool, true, false, eqb, ltb, List, [], ◌∷◌, ◌++◌}
use Rattle.std.proofs.Common.{length, refl, sym, ap, subst, ◌∙◌, inl, inr, arith}
use Rattle.std.specs.Prelude.{Some, is_none}
use Rattle.std.specs.FinMap as finite
use Rattle.std.specs.List.{All, AllByRecursion}
use Rattle.std.specs.List.Sorted.{IsStrictlySortedBy}
use Rattle.std.specs.Map.{keys_of, lookup}
use Rattle.std.specs.Ordering.{nat_cmp}
use Rattle.std.specs.declared.cmp.Ordering.TheVariants.{Less, Equal, Greater}
use Rattle.std.proofs.lemmas.Bool.{cases_lt, cases_order, cases_eq, cases_Bool, cond-true, cond-false, eq-eqb, ne_eqb, lt-ltb, le-ltb}
use Rattle.std.proofs.lemmas.List.{append-nil}
use Rattle.std.proofs.lemmas.List.Elements.{All-head, All-tail}
use Rattle.std.proofs.lemmas.Map.Keys.{sorted_head, sorted_tail}
use Rattle.std.proofs.lemmas.Map.Views.{All-found}
use Rattle.std.proofs.lemmas.Option.{none-some, same_Some}
use Rattle.std.specs.Cmp.{nat_cmp_is, nat_cmp_total}
use Rattle.mold_rule.specs.Ranges.{Range, range, ranges, joined}
use Rattle.mold_capture.specs.declared.run.Run.{Run}
use Rattle.mold_capture.specs.Runs.{Runs, pairs_of, HasRun, AreRuns, Covers}
use Rattle.mold_capture.specs.Verdict.{lacks, gap, gaps}
use Rattle.mold_capture.proofs.RunLemmas.{lookup_at, lookup_all, covered_pairs, uncovered_at}

-- How the ranges are found by walking the numbers.
pub record Walks (lacks : ℕ → Bool) : Type 0 where
  pub none : (low : ℕ) → ranges lacks low 0 ≡ []
  pub skip : (low count more : ℕ) →
      ((number : ℕ) → low ≤ number → number < low + count → lacks number ≡ false) →
      ranges lacks low (count + more) ≡ ranges lacks (low + count) more
  pub run : (low count more : ℕ) →
      ((number : ℕ) → low ≤ number → number < low + suc count → lacks number ≡ true) →
      (more ≡ 0) ⊎ (lacks (low + suc count) ≡ false) →
      ranges lacks low (suc count + more) ≡ range low (low + count) ∷ ranges lacks (low + suc count) more

-- If all numbers are missing up to one that is there, or up to the end, the gap is the first range.
gap_first : (test : ℕ → Bool) → Walks test → (low high end : ℕ) → low ≤ high → high ≤ end →
    ((number : ℕ) → low ≤ number → number < high → test number ≡ true) → (high ≡ end) ⊎ (test high ≡ false)
    → ranges test low (end - low) ≡ gap low high ++ ranges test high (end - high)
gap_first test walks low high end ordered within lacking stops =
    elim (cases_lt low high) [
      | inr none ↦
          let same : low ≡ high = omega arith in
          ap (λ (n : ℕ). ranges test n (end - n)) same
          ∙ sym (ap (λ (t : List Range). t ++ ranges test high (end - high))
          (cond-false (ltb low high) (range low (high - 1) ∷ []) [] (le-ltb low high none)))
      | inl some ↦
          let count : ℕ = high - low - 1 in
          let counted : end - low ≡ suc count + (end - high) = omega arith in
          let top : low + suc count ≡ high = omega arith in
          let last : low + count ≡ high - 1 = omega arith in
          let stop : (end - high ≡ 0) ⊎ (test (low + suc count) ≡ false) =
          elim stops [ inl e ↦ inl (omega arith) | inr f ↦ inr (ap test top ∙ f) ] in
          ap (ranges test low) counted
          ∙ walks.run low count (end - high) (λ number from below. lacking number from (omega arith)) stop
          ∙ (λ i. range low (last i) ∷ ranges test (top i) (end - high))
          ∙ sym (ap (λ (t : List Range). t ++ ranges test high (end - high))
          (cond-true (ltb low high) (range low (high - 1) ∷ []) [] (lt-ltb low high some)))
    ]

key_all : (P : ℕ → Type 0) (q : ℕ) (run : Run) (es : List (ℕ × Run)) → AllByRecursion P (keys_of es) →
    lookup (eqb q) es ≡ Some run → P q
key_all P q run [] all is = absurd (none-some run is)
key_all P q run (e ∷ es) all is =
    elim (cases_eq q e.0) [
      | inl same ↦ subst P (sym same) all.0
      | inr other ↦
          key_all P q run es all.1 (sym (cond-false (eqb q e.0) (Some e.1) (lookup (eqb q) es) (ne_eqb q e.0 other)) ∙ is)
    ]

less : (a b : ℕ) → nat_cmp a b ≡ Less → a < b
less a b is =
    elim (cases_order a b) [
      | inl same ↦ (let e = nat_cmp_is a b Equal same in absurd cc)
      | inr (inl below) ↦ below
      | inr (inr above) ↦ (let e = nat_cmp_is a b Greater above in absurd cc)
    ]

-- The runs that remain. Every run with a number of `next` or more is among them.
record Left (runs : Runs) (es : List (ℕ × Run)) (next : ℕ) : Type 0 where
  all : All (λ (e : ℕ × Run). HasRun runs e.0 e.1) es
  sorted : IsStrictlySortedBy nat_cmp (keys_of es)
  behind : (q f : ℕ) (run : Run) → next ≤ q → HasRun runs f run → Covers f run q → lookup (eqb f) es ≡ Some run
  low : (f : ℕ) (run : Run) → lookup (eqb f) es ≡ Some run → next ≤ f

-- A run that is found is the first one, or it is among the others and after it.
found_cases : (e : ℕ × Run) (es : List (ℕ × Run)) → IsStrictlySortedBy nat_cmp (keys_of (e ∷ es)) → (f : ℕ) (run : Run) →
    lookup (eqb f) (e ∷ es) ≡ Some run → ((f ≡ e.0) × (e.1 ≡ run)) ⊎ ((e.0 < f) × (lookup (eqb f) es ≡ Some run))
found_cases e es sorted f run is =
    elim (cases_eq f e.0) [
      | inl same ↦
          inl (same, same_Some e.1 run (sym (cond-true (eqb f e.0) (Some e.1) (lookup (eqb f) es) (eq-eqb f e.0 same)) ∙ is))
      | inr other ↦
          let later = sym (cond-false (eqb f e.0) (Some e.1) (lookup (eqb f) es) (ne_eqb f e.0 other)) ∙ is in
          inr (less e.0 f (key_all (λ k. nat_cmp e.0 k ≡ Less) f run es (sorted_head nat_cmp e.0 (keys_of es) sorted) later), later)
    ]

left_behind : (runs : Runs) (kept : List (List ℕ)) → AreRuns runs (length kept) → (e : ℕ × Run) (es : List (ℕ × Run)) (next : ℕ) →
    Left runs (e ∷ es) next → next ≤ e.0 → Left runs es (e.0 + e.1.count)
left_behind runs kept are e es next left low =
    let P = λ (e : ℕ × Run). HasRun runs e.0 e.1 in
    let has = All-head P e es left.all in
    let tail = All-tail P e es left.all in
    record {
      all = tail;
      sorted = sorted_tail nat_cmp e.0 (keys_of es) left.sorted;
      behind = λ q f run at there covers.
          elim (found_cases e es left.sorted f run (left.behind q f run (omega arith) there covers)) [
            | inl first ↦
                let counts : e.1.count ≡ run.count = ap (λ (r : Run). r.count) first.1 in
                absurd (omega (arith, first.0, counts, covers.1))
            | inr later ↦ later.1
          ];
      low = λ f run found.
          let above = less e.0 f
          (key_all (λ k. nat_cmp e.0 k ≡ Less) f run es (sorted_head nat_cmp e.0 (keys_of es) left.sorted) found)
          in
          are.apart e.0 f e.1 run has (lookup_all P f run es tail found) above;
    }

lacks_uncovered : (runs : Runs) (kept : List (List ℕ)) → AreRuns runs (length kept) → (q : ℕ) →
    ((f : ℕ) (run : Run) → HasRun runs f run → Covers f run q → ⊥) → lacks (pairs_of runs.entries kept) q ≡ true
lacks_uncovered runs kept are q none = ap is_none (uncovered_at runs kept are q none)

lacks_covered : (runs : Runs) (kept : List (List ℕ)) → AreRuns runs (length kept) → (q f : ℕ) (run : Run) →
    HasRun runs f run → Covers f run q → lacks (pairs_of runs.entries kept) q ≡ false
lacks_covered runs kept are q f run has covers = ap is_none (covered_pairs runs kept are q f run has covers)

gaps_left : (runs : Runs) (kept : List (List ℕ)) → AreRuns runs (length kept) → (known : ℕ) →
    Walks (lacks (pairs_of runs.entries kept))
    → ((f : ℕ) (run : Run) → HasRun runs f run → f + run.count ≤ known)
    → (es : List (ℕ × Run)) (next : ℕ) → next ≤ known → Left runs es next
    → gaps next es known ≡ ranges (lacks (pairs_of runs.entries kept)) next (known - next)
gaps_left runs kept are known walks ends [] next within left =
    let test = lacks (pairs_of runs.entries kept) in
    let nothing : known - known ≡ 0 = omega arith in
    sym (gap_first test walks next known known within (omega arith)
    (λ q low high. lacks_uncovered runs kept are q (λ f run has covers. none-some run (left.behind q f run low has covers)))
    (inl refl)
    ∙ ap (λ (n : ℕ). gap next known ++ ranges test known n) nothing
    ∙ ap (λ (t : List Range). gap next known ++ t) (walks.none known)
    ∙ append-nil (gap next known))
gaps_left runs kept are known walks ends (e ∷ es) next within left =
    let test = lacks (pairs_of runs.entries kept) in
    let P = λ (e : ℕ × Run). HasRun runs e.0 e.1 in
    let has = All-head P e es left.all in
    let low = left.low e.0 e.1 (cond-true (eqb e.0 e.0) (Some e.1) (lookup (eqb e.0) es) (eq-eqb e.0 e.0 refl)) in
    let some = are.some e.0 e.1 has in
    let end = ends e.0 e.1 has in
    let after : ℕ = known - (e.0 + e.1.count) in
    let counted : known - e.0 ≡ e.1.count + after = omega (arith, end) in
    let first = gap_first test walks next e.0 known low (omega (arith, end))
    (λ q from below. lacks_uncovered runs kept are q (λ f run there covers.
    elim (found_cases e es left.sorted f run (left.behind q f run from there covers)) [
      | inl same ↦ omega (arith, same.0, covers.0)
      | inr later ↦ omega (arith, later.0, covers.0)
    ]))
    (inr (lacks_covered runs kept are e.0 e.0 e.1 has (omega arith, omega (arith, some))))
    in
    let behind = walks.skip e.0 e.1.count after
    (λ q from below. lacks_covered runs kept are q e.0 e.1 has (from, below))
    in
    ap (λ (t : List Range). gap next e.0 ++ t)
    (gaps_left runs kept are known walks ends es (e.0 + e.1.count) end (left_behind runs kept are e es next left low)
    ∙ sym behind ∙ ap (ranges test e.0) (sym counted))
    ∙ sym first

-- The gaps between all runs are the ranges of missing numbers.
pub gaps_are : (runs : Runs) (kept : List (List ℕ)) → AreRuns runs (length kept) → (known : ℕ) → 1 ≤ known →
    Walks (lacks (pairs_of runs.entries kept))
    → ((q : ℕ) (m : List ℕ) → finite.get (pairs_of runs.entries kept) q ≡ Some m → (1 ≤ q) × (q < known))
    → gaps 1 runs.entries known ≡ ranges (lacks (pairs_of runs.entries kept)) 1 (known - 1)
gaps_are runs kept are known first walks lies =
    gaps_left runs kept are known walks
    (λ f run has.
    let some = are.some f run has in
    let last : ℕ = f + run.count - 1 in
    let at = lies last _ (covered_pairs runs kept are last f run has (omega (arith, some), omega (arith, some))) in
    omega (arith, some, at.1))
    runs.entries 1 first
    (record {
      all = All-found nat_cmp_total runs are.ordered;
      sorted = are.ordered;
      behind = λ q f run low has covers. sym (lookup_at f runs.entries) ∙ has;
      low = λ f run found.
          let has = lookup_at f runs.entries ∙ found in
          (lies f _ (covered_pairs runs kept are f f run has (omega arith, omega (arith, are.some f run has)))).0;
    })

joined_some : (number : ℕ) (rs : List Range) → joined number rs ≡ [] → ⊥
joined_some number [] is = cc
joined_some number (r ∷ rs) is =
    elim (cases_Bool (eqb r.first (suc number))) [
      | inl t ↦ (let e = sym (cond-true _ (range number r.last ∷ rs) (range number number ∷ r ∷ rs) t) ∙ is in cc)
      | inr f ↦ (let e = sym (cond-false _ (range number r.last ∷ rs) (range number number ∷ r ∷ rs) f) ∙ is in cc)
    ]

-- If there are no ranges, no number is missing.
pub none_lacking : (test : ℕ → Bool) (low count : ℕ) → ranges test low count ≡ [] → (q : ℕ) → low ≤ q → q < low + count →
    test q ≡ false
unfolding ranges
none_lacking test low zero none q from below = absurd (omega arith)
none_lacking test low (suc count) none q from below =
    elim (cases_Bool (test low)) [
      | inl t ↦ absurd (joined_some low (ranges test (suc low) count) (sym (cond-true (test low) _ _ t) ∙ none))
      | inr f ↦
          elim (cases_eq q low) [
            | inl here ↦ ap test here ∙ f
            | inr other ↦
                none_lacking test (suc low) count (sym (cond-false (test low) _ _ f) ∙ none) q (omega arith) (omega arith)
          ]
    ]

-- If no number is missing, there are no ranges.
pub lacking_none : (test : ℕ → Bool) (low count : ℕ) → ((q : ℕ) → low ≤ q → q < low + count → test q ≡ false) →
    ranges test low count ≡ []
unfolding ranges
lacking_none test low zero all = refl
lacking_none test low (suc count) all =
    cond-false (test low) _ _ (all low (omega arith) (omega arith))
    ∙ lacking_none test (suc low) count (λ q from below. all q (omega arith) (omega arith))
