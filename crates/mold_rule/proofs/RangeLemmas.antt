-- The ranges that iterating over the numbers finds, and their sizes.
use Rattle.std.proofs.Common.{◌≡◌, ◌⊎◌, ℕ, zero, suc, ◌+◌, ◌-◌, ◌<◌, ◌≤◌, Bool, true, false, cond, eqb, List, [], ◌∷◌}
use Rattle.std.proofs.Common.{refl, sym, ap, subst, ◌∙◌, inl, inr, arith}
use Rattle.std.specs.Prelude.{Some, slice_get}
use Rattle.std.specs.List.{sum_by}
use Rattle.std.proofs.lemmas.Bool.{true≢false, cases_eq, cases_Bool, cond-true, cond-false, eq-eqb, ne_eqb}
use Rattle.std.proofs.lemmas.List.Sums.{sum_by-cons}
use Rattle.mold_rule.specs.Ranges.{Range, joined, lacking, range, ranges, size}
use Rattle.mold_rule.proofs.LongestLemmas.{are_longest}

pub ranges_none : (lacks : ℕ → Bool) (low : ℕ) → ranges lacks low 0 ≡ []
unfolding ranges
ranges_none lacks low = refl

ranges_lacked : (lacks : ℕ → Bool) (low count : ℕ) → lacks low ≡ true →
    ranges lacks low (suc count) ≡ joined low (ranges lacks (suc low) count)
unfolding ranges
ranges_lacked lacks low count lacked = cond-true (lacks low) _ _ lacked

ranges_there : (lacks : ℕ → Bool) (low count : ℕ) → lacks low ≡ false →
    ranges lacks low (suc count) ≡ ranges lacks (suc low) count
unfolding ranges
ranges_there lacks low count there = cond-false (lacks low) _ _ there

pub ranges_skip : (lacks : ℕ → Bool) (low count more : ℕ)
    → ((number : ℕ) → low ≤ number → number < low + count → lacks number ≡ false)
    → ranges lacks low (count + more) ≡ ranges lacks (low + count) more
ranges_skip lacks low zero more there =
    let count : 0 + more ≡ more = omega arith in
    let at : low ≡ low + 0 = omega arith in
    ap (ranges lacks low) count ∙ ap (λ (n : ℕ). ranges lacks n more) at
ranges_skip lacks low (suc count) more there =
    let one : suc count + more ≡ suc (count + more) = omega arith in
    let at : suc low + count ≡ low + suc count = omega arith in
    ap (ranges lacks low) one
    ∙ ranges_there lacks low (count + more) (there low (omega arith) (omega arith))
    ∙ ranges_skip lacks (suc low) count more
    (λ number from below. there number (omega (arith, from)) (omega (arith, below)))
    ∙ ap (λ (n : ℕ). ranges lacks n more) at

-- No range starts at a number that is present.
joined_alone : (number : ℕ) (rs : List Range) → ((r : Range) → slice_get rs 0 ≡ Some r → r.first ≡ suc number → ⊥) →
    joined number rs ≡ range number number ∷ rs
joined_alone number [] apart = refl
joined_alone number (r ∷ rs) apart =
    cond-false (eqb r.first (suc number)) _ _ (ne_eqb r.first (suc number) (apart r refl))

apart_behind : (lacks : ℕ → Bool) (low more : ℕ) → (more ≡ 0) ⊎ (lacks low ≡ false) → (r : Range) →
    slice_get (ranges lacks low more) 0 ≡ Some r → r.first ≡ low → ⊥
apart_behind lacks low more stops r is here =
    let longest = (are_longest lacks low more).each 0 r is in
    elim stops [
      | inl none ↦ omega (arith, none, longest.ordered, longest.ends, here)
      | inr there ↦ true≢false (sym (longest.all low (omega (arith, here)) (omega (arith, here, longest.ordered)))
          ∙ there)
    ]

pub ranges_run : (lacks : ℕ → Bool) (low count more : ℕ)
    → ((number : ℕ) → low ≤ number → number < low + suc count → lacks number ≡ true)
    → (more ≡ 0) ⊎ (lacks (low + suc count) ≡ false)
    → ranges lacks low (suc count + more) ≡ range low (low + count) ∷ ranges lacks (low + suc count) more
ranges_run lacks low zero more hole stops =
    let one : suc 0 + more ≡ suc more = omega arith in
    let next : low + suc 0 ≡ suc low = omega arith in
    let here : low ≡ low + 0 = omega arith in
    let ends : (more ≡ 0) ⊎ (lacks (suc low) ≡ false) = subst (λ (n : ℕ). (more ≡ 0) ⊎ (lacks n ≡ false)) next stops in
    ap (ranges lacks low) one
    ∙ ranges_lacked lacks low more (hole low (omega arith) (omega arith))
    ∙ joined_alone low (ranges lacks (suc low) more) (apart_behind lacks (suc low) more ends)
    ∙ (λ i. range low (here i) ∷ ranges lacks (sym next i) more)
ranges_run lacks low (suc count) more hole stops =
    let one : suc (suc count) + more ≡ suc (suc count + more) = omega arith in
    let next : suc low + suc count ≡ low + suc (suc count) = omega arith in
    let here : suc low + count ≡ low + suc count = omega arith in
    ap (ranges lacks low) one
    ∙ ranges_lacked lacks low (suc count + more) (hole low (omega arith) (omega arith))
    ∙ ap (joined low)
    (ranges_run lacks (suc low) count more
    (λ number from below. hole number (omega (arith, from)) (omega (arith, below)))
    (subst (λ (n : ℕ). (more ≡ 0) ⊎ (lacks n ≡ false)) (sym next) stops))
    ∙ cond-true (eqb (suc low) (suc low)) _ _ (eq-eqb (suc low) (suc low) refl)
    ∙ (λ i. range low (here i) ∷ ranges lacks (next i) more)

pub ranges_same : (lacks other : ℕ → Bool) (low count : ℕ)
    → ((number : ℕ) → low ≤ number → number < low + count → lacks number ≡ other number)
    → ranges lacks low count ≡ ranges other low count
unfolding ranges
ranges_same lacks other low zero same = refl
ranges_same lacks other low (suc count) same =
    let rest = ranges_same lacks other (suc low) count
    (λ number from below. same number (omega (arith, from)) (omega (arith, below))) in
    (λ i. cond (same low (omega arith) (omega arith) i) (joined low (rest i)) (rest i))

sizes_joined : (number : ℕ) (rs : List Range) → ((r : Range) → slice_get rs 0 ≡ Some r → r.first ≤ r.last) →
    sum_by size (joined number rs) ≡ suc (sum_by size rs)
sizes_joined number [] ordered = sum_by-cons size (range number number) []
    ∙ (let e : suc number - number + sum_by size [] ≡ suc (sum_by size []) = omega arith in e)
sizes_joined number (r ∷ rs) ordered =
    elim (cases_eq r.first (suc number)) [
      | inl next ↦
          ap (sum_by size) (cond-true (eqb r.first (suc number)) _ _ (eq-eqb r.first (suc number) next))
          ∙ sum_by-cons size (range number r.last) rs
          ∙ (let e : suc r.last - number + sum_by size rs ≡ suc (suc r.last - r.first + sum_by size rs) =
          omega (arith, next, ordered r refl) in e)
          ∙ ap suc (sym (sum_by-cons size r rs))
      | inr other ↦
          ap (sum_by size) (cond-false (eqb r.first (suc number)) _ _ (ne_eqb r.first (suc number) other))
          ∙ sum_by-cons size (range number number) (r ∷ rs)
          ∙ (let e : suc number - number + sum_by size (r ∷ rs) ≡ suc (sum_by size (r ∷ rs)) = omega arith in e)
    ]

pub ranges_size : (lacks : ℕ → Bool) (low count : ℕ) → sum_by size (ranges lacks low count) ≡ lacking lacks low count
unfolding ranges lacking
ranges_size lacks low zero = refl
ranges_size lacks low (suc count) =
    elim (cases_Bool (lacks low)) [
      | inl lacked ↦
          ap (sum_by size) (cond-true (lacks low) _ _ lacked)
          ∙ sizes_joined low (ranges lacks (suc low) count)
          (λ r is. ((are_longest lacks (suc low) count).each 0 r is).ordered)
          ∙ ap suc (ranges_size lacks (suc low) count)
          ∙ (let e : suc (lacking lacks (suc low) count) ≡ 1 + lacking lacks (suc low) count = omega arith in e)
          ∙ sym (ap (λ (n : ℕ). n + lacking lacks (suc low) count) (cond-true (lacks low) 1 0 lacked))
      | inr there ↦
          ap (sum_by size) (cond-false (lacks low) _ _ there)
          ∙ ranges_size lacks (suc low) count
          ∙ (let e : lacking lacks (suc low) count ≡ 0 + lacking lacks (suc low) count = omega arith in e)
          ∙ sym (ap (λ (n : ℕ). n + lacking lacks (suc low) count) (cond-false (lacks low) 1 0 there))
    ]
