-- The numbers that a view has, from one number on.
use Rattle.std.proofs.Common.{◌≡◌, ◌⊎◌, ℕ, zero, suc, ◌+◌, ◌-◌, ◌<◌, ◌≤◌, max, true, false, cond, length, nat_lt}
use Rattle.std.proofs.Common.{refl, sym, ap, subst, ◌∙◌, inl, inr, arith}
use Rattle.std.specs.Prelude.{Option, None, Some, is_some}
use Rattle.std.specs.FinMap as finite
use Rattle.std.proofs.lemmas.Bool.{true≢false, cases_lt}
use Rattle.std.proofs.lemmas.Bool.Decides.{nat_tests}
use Rattle.mold_receiver.specs.Having.{HasMessage}
use Rattle.mold_receiver.specs.Skip.{skipped_run}
use Rattle.mold_receiver.specs.Store.{Message, behind_some, run_from}
use Rattle.mold_receiver.specs.View.{View, IsWellFormed}
use Rattle.mold_receiver.specs.Wanted.{HasNoGap, IsNextGap}
use Rattle.mold_receiver.specs.declared.gap.Gap.{Gap}
use Rattle.mold_repair.specs.Came.{held_end}

-- A run ends at the first number without a message.
run_to : (look : ℕ → Option Message) (most from k : ℕ) → k ≤ most →
    ((q : ℕ) → from ≤ q → q < from + k → is_some (look q) ≡ true) → (k ≡ most) ⊎ (look (from + k) ≡ None) →
    length (run_from look from most) ≡ k
unfolding run_from
run_to look zero from k within held stops = omega (arith, within)
run_to look (suc most) from zero within held stops =
    elim stops [
      | inl whole ↦ absurd (omega (arith, whole))
      | inr none ↦
          let at : from + 0 ≡ from = omega arith in
          ap (λ (o : Option Message). length (behind_some o (run_from look (suc from) most)))
          (subst (λ n. look n ≡ None) at none)
    ]
run_to look (suc most) from (suc k) within held stops =
    let at : from + suc k ≡ suc from + k = omega arith in
    let rest = run_to look most (suc from) k (omega (arith, within))
    (λ q low high. held q (omega (arith, low)) (omega (arith, high)))
    (elim stops [
      | inl whole ↦ inl (omega (arith, whole))
      | inr none ↦ inr (subst (λ n. look n ≡ None) at none)
    ])
    in
    elim (look from) as (λ o. look from ≡ o → length (behind_some o (run_from look (suc from) most)) ≡ suc k) [
      | None ↦ λ e. absurd (true≢false (sym (held from (omega arith) (omega arith)) ∙ ap is_some e))
      | Some m ↦ λ e. omega (arith, rest)
    ] refl

-- Each number of a run has a message.
run_has : (look : ℕ → Option Message) (most from q : ℕ) → from ≤ q → q < from + length (run_from look from most) →
    is_some (look q) ≡ true
unfolding run_from
run_has look zero from q low high = absurd (omega (arith, low, high))
run_has look (suc most) from q low high =
    elim (look from) as (λ o. look from ≡ o →
    q < from + length (behind_some o (run_from look (suc from) most)) → is_some (look q) ≡ true) [
      | None ↦ λ e high. absurd (omega (arith, low, high))
      | Some m ↦ λ e high.
          elim (cases_lt from q) [
            | inl above ↦ run_has look most (suc from) q (omega (arith, above)) (omega (arith, high))
            | inr here ↦
                let at : from ≡ q = omega (arith, low, here) in
                subst (λ n. is_some (look n) ≡ true) at (ap is_some e)
          ]
    ] refl high

end_above : (v : View) (from : ℕ) → v.next ≤ from → held_end v from ≡ from + length (skipped_run v from)
end_above v from low =
    let off : nat_lt from v.next ≡ false = grind (arith, nat_tests, low) in
    ap (λ b. cond b v.next (from + length (skipped_run v from))) off

pub end_below : (v : View) (from : ℕ) → from < v.next → held_end v from ≡ v.next
end_below v from low =
    let on : nat_lt from v.next ≡ true = grind (arith, nat_tests, low) in
    ap (λ b. cond b v.next (from + length (skipped_run v from))) on

pub end_some : (v : View) (from : ℕ) (gap : Gap) → v.next ≤ from → IsNextGap v (max from v.next) gap →
    gap.first ≡ held_end v from
end_some v from gap low is =
    let look = finite.get v.store in
    let at : from + (gap.first - from) ≡ gap.first = omega (arith, low, is.after) in
    let run = run_to look (v.known - from) from (gap.first - from) (omega (arith, is.within, is.some))
    (λ q above below. is.held q (omega (arith, above, low)) (omega (arith, below, is.after)))
    (inr (subst (λ n. look n ≡ None) (sym at) (is.lacked gap.first (omega arith) is.some)))
    in
    omega (arith, run, end_above v from low, is.after)

pub end_none : (v : View) (from : ℕ) → v.next ≤ from → HasNoGap v (max from v.next) →
    max v.known from ≡ held_end v from
end_none v from low none =
    let run = run_to (finite.get v.store) (v.known - from) from (v.known - from) (omega arith)
    (λ q above below. none q (omega (arith, above, low)) (omega (arith, above, below))) (inl refl) in
    omega (arith, run, end_above v from low)

-- The view has each of these numbers.
pub held_has : (v : View) (from q : ℕ) → from ≤ q → q < held_end v from → HasMessage v q
held_has v from q low high =
    elim (cases_lt from v.next) [
      | inl below ↦ inl (omega (arith, high, end_below v from below))
      | inr above ↦
          inr (run_has (finite.get v.store) (v.known - from) from q low (omega (arith, high, end_above v from above)))
    ]

run_at_least : (look : ℕ → Option Message) (most from k : ℕ) → k ≤ most →
    ((q : ℕ) → from ≤ q → q < from + k → is_some (look q) ≡ true) → k ≤ length (run_from look from most)
unfolding run_from
run_at_least look most from zero within held = omega arith
run_at_least look zero from (suc k) within held = absurd (omega (arith, within))
run_at_least look (suc most) from (suc k) within held =
    let rest = run_at_least look most (suc from) k (omega (arith, within))
    (λ q low high. held q (omega (arith, low)) (omega (arith, high))) in
    elim (look from) as (λ o. look from ≡ o → suc k ≤ length (behind_some o (run_from look (suc from) most))) [
      | None ↦ λ e. absurd (true≢false (sym (held from (omega arith) (omega arith)) ∙ ap is_some e))
      | Some m ↦ λ e. omega (arith, rest)
    ] refl

stored_above : (v : View) (q : ℕ) → v.next ≤ q → HasMessage v q → is_some (finite.get v.store q) ≡ true
stored_above v q above (inl below) = absurd (omega (arith, above, below))
stored_above v q above (inr some) = some

pub next_stored : (v : View) → IsWellFormed v → is_some (finite.get v.store v.next) ≡ true → ⊥
next_stored v well some =
    elim (finite.get v.store v.next) as (λ o. finite.get v.store v.next ≡ o → ⊥) [
      | None ↦ λ e. true≢false (sym some ∙ ap is_some e)
      | Some m ↦ λ e. let lies = well.stored v.next m e in omega (arith, lies.0)
    ] refl

-- If the view has all numbers from `from` to just below `end`, they don't end before it.
pub held_to : (v : View) (from end : ℕ) → IsWellFormed v → from < end → end ≤ v.known →
    ((q : ℕ) → from ≤ q → q < end → HasMessage v q) → end ≤ held_end v from
held_to v from end well some high each =
    elim (cases_lt from v.next) [
      | inr above ↦
          let run = run_at_least (finite.get v.store) (v.known - from) from (end - from) (omega (arith, high))
          (λ q low below. stored_above v q (omega (arith, above, low)) (each q low (omega (arith, below, some)))) in
          omega (arith, run, end_above v from above, some)
      | inl below ↦
          elim (cases_lt v.next end) [
            | inr within ↦ omega (arith, within, end_below v from below)
            | inl past ↦
                let there = stored_above v v.next (omega arith) (each v.next (omega (arith, below)) past) in
                absurd (next_stored v well there)
          ]
    ]
