-- How runs grow by new messages, and how that is undone.
use Rattle.std.proofs.Common.{◌≡◌, ℕ, zero, suc, ◌+◌, ◌-◌, ◌<◌, ◌≤◌, ◌^◌, ◌⊎◌, List, [], ◌∷◌, ◌++◌, length}
use Rattle.std.proofs.Common.{refl, sym, ap, subst, ◌∙◌, inl, inr, arith, length-append}
use Rattle.std.specs.Prelude.{Option, None, Some, slice_get}
use Rattle.std.specs.BTreeMap as tree
use Rattle.std.specs.BTreeMap.{is_at}
use Rattle.std.specs.Cmp.{nat_cmp_total, unsigned_tied}
use Rattle.std.specs.FinMap as finite
use Rattle.std.specs.Option.{option_or}
use Rattle.std.specs.Ordering.{nat_cmp}
use Rattle.std.proofs.lemmas.Bool.{cases_lt, cases_eq, cond-true, cond-false, eq-eqb, ne_eqb}
use Rattle.std.proofs.lemmas.Map.Lookups.{btree_map_from_get, exact_unsigned}
use Rattle.std.proofs.lemmas.Option.{none-some, same_Some}
use Rattle.mold_wire.specs.Truth.{message_at}
use Rattle.mold_capture.specs.declared.run.Run.{Run}
use Rattle.mold_capture.specs.Runs.{Runs, pairs_of, HasRun, AreRuns, Covers, AreFree, IsGrown, IsPut, IsSince}
use Rattle.mold_capture.specs.Seen.{pairs_with}
use Rattle.mold_capture.proofs.PairLemmas.{option_cases, option_or_cases, option_or_first, option_or_second}
use Rattle.mold_capture.proofs.PairLemmas.{message_within, message_bounds, get-with, same_pairs}
use Rattle.mold_capture.proofs.RunLemmas.{RunAt, at_pairs, pairs_at}

pub same_option : {X : Type 0} (a b : Option X) → ((x : X) → a ≡ Some x → b ≡ Some x) →
    ((x : X) → b ≡ Some x → a ≡ Some x) → a ≡ b
same_option None None to from = refl
same_option None (Some y) to from = absurd (none-some y (from y refl))
same_option (Some x) b to from = sym (to x refl)

slice_get_front : (xs ys : List (List ℕ)) (i : ℕ) → i < length xs → slice_get (xs ++ ys) i ≡ slice_get xs i
slice_get_front [] ys i within = absurd (omega arith)
slice_get_front (x ∷ xs) ys zero within = refl
slice_get_front (x ∷ xs) ys (suc i) within = slice_get_front xs ys i (omega arith)

slice_get_back : (xs ys : List (List ℕ)) (i : ℕ) → slice_get (xs ++ ys) (length xs + i) ≡ slice_get ys i
slice_get_back [] ys i = ap (slice_get ys) (let e : 0 + i ≡ i = omega arith in e)
slice_get_back (x ∷ xs) ys i =
    ap (slice_get (x ∷ xs ++ ys)) (let e : suc (length xs) + i ≡ suc (length xs + i) = omega arith in e)
    ∙ slice_get_back xs ys i

-- A number that is in no run has no carried message.
pub free_pairs : (runs : Runs) (kept : List (List ℕ)) → AreRuns runs (length kept) → (first top : ℕ) →
    AreFree runs first top → (q : ℕ) → first ≤ q → q < top → finite.get (pairs_of runs.entries kept) q ≡ None
free_pairs runs kept are first top free q low high =
    elim (option_cases (finite.get (pairs_of runs.entries kept) q)) [
      | inl none ↦ none
      | inr some ↦
          let at = at_pairs runs kept are q some.0 some.1 in
          absurd (free at.first at.run q at.there at.covers low high)
    ]

put_here : (runs now : Runs) (f : ℕ) (run : Run) → IsPut runs f run now → HasRun now f run
put_here runs now f run put =
    put f ∙ cond-true (is_at (nat_cmp f) f) (Some run) (tree.get nat_cmp runs f) (unsigned_tied f f ∙ eq-eqb f f refl)

put_other : (runs now : Runs) (f : ℕ) (run : Run) → IsPut runs f run now → (g : ℕ) → (f ≡ g → ⊥) →
    tree.get nat_cmp now g ≡ tree.get nat_cmp runs g
put_other runs now f run put g other =
    put g
    ∙ cond-false (is_at (nat_cmp f) g) (Some run) (tree.get nat_cmp runs g) (unsigned_tied f g ∙ ne_eqb f g other)

put_cases : (runs now : Runs) (f : ℕ) (run : Run) → IsPut runs f run now → (g : ℕ) (r : Run) → HasRun now g r →
    ((f ≡ g) × (run ≡ r)) ⊎ ((f ≡ g → ⊥) × HasRun runs g r)
put_cases runs now f run put g r has =
    elim (cases_eq f g) [
      | inl same ↦
          inl (same, same_Some run r (sym (put_here runs now f run put) ∙ ap (tree.get nat_cmp now) same ∙ has))
      | inr other ↦ inr (other, sym (put_other runs now f run put g other) ∙ has)
    ]

-- New messages, with numbers that are in no run, extend a run or make a new one.
pub record Growth (runs now : Runs) (kept ms : List (List ℕ)) (number f : ℕ) (run : Run) : Type 0 where
  pub are : AreRuns runs (length kept)
  pub some : 0 < length ms
  pub few : number + length ms < 2 ^ 64
  pub fits : length (kept ++ ms) < 2 ^ 64
  pub free : AreFree runs number (number + length ms)
  pub grown : IsGrown runs (length kept) number (length ms) f run
  pub put : IsPut runs f run now
  pub ordered : tree.IsOrdered nat_cmp now

-- A run at the number of the grown run begins below the first new number.
fresh : (runs now : Runs) (kept ms : List (List ℕ)) (number f : ℕ) (run : Run) → Growth runs now kept ms number f run →
    (old : Run) → HasRun runs f old → f < number
fresh runs now kept ms number f run growth old has =
    let grown = growth.grown in
    elim (cases_lt f number) [
      | inl below ↦ below
      | inr above ↦
          absurd (growth.free f old number has
          (omega (arith, grown.ends, grown.long), omega (arith, growth.are.some f old has))
          (omega arith) (omega (arith, growth.some)))
    ]

-- The run that a longer one replaces.
front_run : (runs now : Runs) (kept ms : List (List ℕ)) (number f : ℕ) (run : Run) → Growth runs now kept ms number f run →
    f < number → (old : Run) × (HasRun runs f old × (old.start ≡ run.start) × (old.count + length ms ≡ run.count))
front_run runs now kept ms number f run growth below = growth.grown.front (omega (arith, growth.grown.ends))

apart_behind : (runs now : Runs) (kept ms : List (List ℕ)) (number f : ℕ) (run : Run) → Growth runs now kept ms number f run →
    (g : ℕ) (r : Run) → HasRun runs g r → f < g → f + run.count ≤ g
apart_behind runs now kept ms number f run growth g r has above =
    let ends = growth.grown.ends in
    elim (cases_lt g (number + length ms)) [
      | inr past ↦ omega (arith, ends)
      | inl within ↦
          elim (cases_lt g number) [
            | inr low ↦
                absurd (growth.free g r g has (omega arith, omega (arith, growth.are.some g r has)) low within)
            | inl below ↦
                let old = front_run runs now kept ms number f run growth (omega arith) in
                let apart = growth.are.apart f g old.0 r old.1.0 has above in
                absurd (omega (arith, ends, old.1.2, apart))
          ]
    ]

apart_before : (runs now : Runs) (kept ms : List (List ℕ)) (number f : ℕ) (run : Run) → Growth runs now kept ms number f run →
    (g : ℕ) (r : Run) → HasRun runs g r → g < f → g + r.count ≤ f
apart_before runs now kept ms number f run growth g r has below =
    elim (cases_lt f number) [
      | inl old_one ↦
          let old = front_run runs now kept ms number f run growth old_one in
          growth.are.apart g f r old.0 has old.1.0 below
      | inr new_one ↦
          elim (cases_lt number (g + r.count)) [
            | inr ends ↦ omega (arith, growth.grown.ends, growth.grown.long)
            | inl more ↦
                absurd (growth.free g r number has (omega (arith, growth.grown.ends, growth.grown.long), more)
                (omega arith) (omega (arith, growth.some)))
          ]
    ]

pub are_grown : (runs now : Runs) (kept ms : List (List ℕ)) (number f : ℕ) (run : Run) → Growth runs now kept ms number f run →
    AreRuns now (length (kept ++ ms))
are_grown runs now kept ms number f run growth =
    let are = growth.are in
    let grown = growth.grown in
    let cases = put_cases runs now f run growth.put in
    record {
      fits = growth.fits;
      ordered = growth.ordered;
      some = λ g r has.
          elim (cases g r has) [
            | inl here ↦ subst (λ (x : Run). 0 < x.count) here.1 (omega (arith, grown.long, growth.some))
            | inr there ↦ are.some g r there.1
          ];
      inside = λ g r has.
          elim (cases g r has) [
            | inl here ↦
                subst (λ (x : Run). x.start + x.count ≤ length (kept ++ ms)) here.1
                (omega (arith, grown.places, length-append kept ms))
            | inr there ↦ omega (arith, are.inside g r there.1, length-append kept ms)
          ];
      last = λ g r has.
          elim (cases g r has) [
            | inl here ↦
                subst (λ (x : Run). g + x.count < 2 ^ 64) here.1 (omega (arith, grown.ends, here.0, growth.few))
            | inr there ↦ are.last g r there.1
          ];
      apart = λ g h r s has other below.
          elim (cases g r has) [
            | inl here ↦
                elim (cases h s other) [
                  | inl same ↦ absurd (omega (arith, here.0, same.0))
                  | inr there ↦
                      subst (λ (x : Run). g + x.count ≤ h) here.1
                      (omega (
                        arith,
                        here.0,
                        apart_behind runs now kept ms number f run growth h s there.1 (omega (arith, here.0)),
                      ))
                ]
            | inr there ↦
                elim (cases h s other) [
                  | inl here ↦
                      omega (
                        arith,
                        here.0,
                        apart_before runs now kept ms number f run growth g r there.1 (omega (arith, here.0)),
                      )
                  | inr behind ↦ are.apart g h r s there.1 behind.1 below
                ]
          ];
    }

-- The message of an old run is still in the list of messages.
still_there : (runs : Runs) (kept ms : List (List ℕ)) → AreRuns runs (length kept) → (g : ℕ) (r : Run) (q : ℕ) →
    HasRun runs g r → Covers g r q →
    slice_get (kept ++ ms) (r.start + (q - g)) ≡ slice_get kept (r.start + (q - g))
still_there runs kept ms are g r q has covers =
    slice_get_front kept ms (r.start + (q - g)) (omega (arith, are.inside g r has, covers.0, covers.1))

-- The index of a new message in the list of messages.
new_place : (runs now : Runs) (kept ms : List (List ℕ)) (number f : ℕ) (run : Run) → Growth runs now kept ms number f run →
    (q : ℕ) → number ≤ q → slice_get (kept ++ ms) (run.start + (q - f)) ≡ message_at number ms q
new_place runs now kept ms number f run growth q low =
    let index : run.start + (q - f) ≡ length kept + (q - number) =
    omega (arith, growth.grown.ends, growth.grown.places, growth.grown.long)
    in
    ap (slice_get (kept ++ ms)) index ∙ slice_get_back kept ms (q - number) ∙ sym (message_within number ms q low)

grown_to : (runs now : Runs) (kept ms : List (List ℕ)) (number f : ℕ) (run : Run) → Growth runs now kept ms number f run →
    (q : ℕ) (m : List ℕ) → RunAt now (kept ++ ms) q m
    → option_or (finite.get (pairs_of runs.entries kept) q) (message_at number ms q) ≡ Some m
grown_to runs now kept ms number f run growth q m at =
    let old = finite.get (pairs_of runs.entries kept) q in
    let new = message_at number ms q in
    let put = put_cases runs now f run growth.put at.first at.run at.there in
    elim put [
      | inr there ↦
          option_or_first old new m
          (pairs_at runs kept growth.are q m
          (record {
            first = at.first;
            run = at.run;
            there = there.1;
            covers = at.covers;
            is = sym (still_there runs kept ms growth.are at.first at.run q there.1 at.covers) ∙ at.is;
          }))
      | inl here ↦
          let low : f ≤ q = omega (arith, here.0, at.covers.0) in
          let high : q < f + run.count =
          subst (λ (x : Run). q < f + x.count) (sym here.1) (omega (arith, here.0, at.covers.1)) in
          let is : slice_get (kept ++ ms) (run.start + (q - f)) ≡ Some m =
          ap (λ (x : Run). slice_get (kept ++ ms) (x.start + (q - f))) here.1
          ∙ ap (λ (g : ℕ). slice_get (kept ++ ms) (at.run.start + (q - g))) here.0 ∙ at.is
          in
          elim (cases_lt q number) [
            | inr after ↦
                option_or_second old new
                (free_pairs runs kept growth.are number (number + length ms) growth.free q after
                (omega (arith, growth.grown.ends)))
                ∙ sym (new_place runs now kept ms number f run growth q after) ∙ is
            | inl before ↦
                let front = front_run runs now kept ms number f run growth (omega arith) in
                let covers : Covers f front.0 q = (low, omega (arith, growth.grown.ends, front.1.2)) in
                let same : slice_get (kept ++ ms) (front.0.start + (q - f)) ≡ Some m =
                ap (λ (n : ℕ). slice_get (kept ++ ms) (n + (q - f))) front.1.1 ∙ is
                in
                option_or_first old new m
                (pairs_at runs kept growth.are q m
                (record {
                  first = f;
                  run = front.0;
                  there = front.1.0;
                  covers = covers;
                  is = sym (still_there runs kept ms growth.are f front.0 q front.1.0 covers) ∙ same;
                }))
          ]
    ]

grown_from : (runs now : Runs) (kept ms : List (List ℕ)) (number f : ℕ) (run : Run) → Growth runs now kept ms number f run →
    (q : ℕ) (m : List ℕ) → option_or (finite.get (pairs_of runs.entries kept) q) (message_at number ms q) ≡ Some m
    → RunAt now (kept ++ ms) q m
grown_from runs now kept ms number f run growth q m is =
    elim (option_or_cases (finite.get (pairs_of runs.entries kept) q) (message_at number ms q) m is) [
      | inr new ↦
          let lies = message_bounds number ms q m new.1 in
          record {
            first = f;
            run = run;
            there = put_here runs now f run growth.put;
            covers = (omega (arith, lies.0, growth.grown.ends, growth.grown.long), omega (arith, lies.1, growth.grown.ends));
            is = new_place runs now kept ms number f run growth q lies.0 ∙ new.1;
          }
      | inl had ↦
          let at = at_pairs runs kept growth.are q m had in
          let is = still_there runs kept ms growth.are at.first at.run q at.there at.covers ∙ at.is in
          elim (cases_eq f at.first) [
            | inr other ↦ record {
              first = at.first;
              run = at.run;
              there = put_other runs now f run growth.put at.first other ∙ at.there;
              covers = at.covers;
              is = is;
            }
            | inl same ↦
                let there : HasRun runs f at.run = ap (tree.get nat_cmp runs) same ∙ at.there in
                let front = front_run runs now kept ms number f run growth
                (fresh runs now kept ms number f run growth at.run there)
                in
                let one : at.run ≡ front.0 = same_Some at.run front.0 (sym there ∙ front.1.0) in
                let starts : at.run.start ≡ run.start = ap (λ (x : Run). x.start) one ∙ front.1.1 in
                let counts : at.run.count ≡ front.0.count = ap (λ (x : Run). x.count) one in
                let places : run.start + (q - f) ≡ at.run.start + (q - at.first) = omega (arith, same, starts) in
                record {
                  first = f;
                  run = run;
                  there = put_here runs now f run growth.put;
                  covers =
                      (omega (arith, same, at.covers.0), omega (arith, same, at.covers.1, counts, front.1.2));
                  is = ap (slice_get (kept ++ ms)) places ∙ is;
                }
          ]
    ]

-- The carried messages are the old ones and the new ones, number by number.
pub pairs_grown : (runs now : Runs) (kept ms : List (List ℕ)) (number f : ℕ) (run : Run) → Growth runs now kept ms number f run →
    (q : ℕ) → finite.get (pairs_of now.entries (kept ++ ms)) q
    ≡ option_or (finite.get (pairs_of runs.entries kept) q) (message_at number ms q)
pairs_grown runs now kept ms number f run growth q =
    let are = are_grown runs now kept ms number f run growth in
    same_option _ _
    (λ m is. grown_to runs now kept ms number f run growth q m (at_pairs now (kept ++ ms) are q m is))
    (λ m is. pairs_at now (kept ++ ms) are q m (grown_from runs now kept ms number f run growth q m is))

pub since_same : (runs : Runs) (index : ℕ) → IsSince runs runs index
since_same runs index = record { kept = λ f run has. has; others = λ f run has low. has }

-- A run of messages that were added later doesn't change the earlier runs.
pub since_grown : (before runs now : Runs) (kept ms : List (List ℕ)) (number f : ℕ) (run : Run) (index : ℕ) →
    Growth runs now kept ms number f run → AreRuns before index → index ≤ run.start
    → IsSince before runs index → IsSince before now index
since_grown before runs now kept ms number f run index growth are high since =
    record {
      kept = λ g r has.
          elim (cases_eq f g) [
            | inr other ↦ put_other runs now f run growth.put g other ∙ since.kept g r has
            | inl same ↦
                let there : HasRun runs f r = ap (tree.get nat_cmp runs) same ∙ since.kept g r has in
                let front = front_run runs now kept ms number f run growth
                (fresh runs now kept ms number f run growth r there)
                in
                let starts : r.start ≡ run.start =
                ap (λ (x : Run). x.start) (same_Some r front.0 (sym there ∙ front.1.0)) ∙ front.1.1 in
                absurd (omega (arith, starts, are.inside g r has, are.some g r has))
          ];
      others = λ g r has low.
          elim (put_cases runs now f run growth.put g r has) [
            | inl here ↦ (let starts : run.start ≡ r.start = ap (λ (x : Run). x.start) here.1 in absurd (omega arith))
            | inr there ↦ since.others g r there.1 low
          ];
    }

-- Without the runs that were added later, the runs are the earlier ones.
pub back_is : (before now after : Runs) (index : ℕ) → AreRuns before index → IsSince before now index →
    tree.IsOrdered nat_cmp after
    → ((f : ℕ) (run : Run) → HasRun after f run → HasRun now f run × (run.start < index))
    → ((f : ℕ) (run : Run) → HasRun now f run → run.start < index → HasRun after f run)
    → after.entries ≡ before.entries
back_is before now after index are since ordered out stays =
    btree_map_from_get nat_cmp_total after before ordered are.ordered
    (λ q. same_option _ _
    (λ run has. let found = out q run has in since.others q run found.0 found.1)
    (λ run has. stays q run (since.kept q run has) (omega (arith, are.inside q run has, are.some q run has))))
    exact_unsigned

-- The carried messages are the old ones and the new ones, as one value.
pub carried_grown : (runs now : Runs) (kept ms : List (List ℕ)) (number f : ℕ) (run : Run) → Growth runs now kept ms number f run →
    pairs_of now.entries (kept ++ ms) ≡ pairs_with (pairs_of runs.entries kept) number ms
carried_grown runs now kept ms number f run growth =
    same_pairs _ _ (λ q.
    pairs_grown runs now kept ms number f run growth q ∙ sym (get-with (pairs_of runs.entries kept) number ms q))
