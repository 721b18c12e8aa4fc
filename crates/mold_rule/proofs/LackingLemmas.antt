-- How many numbers are missing, counted in parts.
use Rattle.std.proofs.Common.{◌≡◌, ℕ, zero, suc, ◌+◌, ◌<◌, ◌≤◌, Bool, true, false, cond, refl, ap, ◌∙◌, arith}
use Rattle.mold_rule.specs.Ranges.{lacking}

pub lacking_parts : (lacks : ℕ → Bool) (low count more : ℕ) →
    lacking lacks low (count + more) ≡ lacking lacks low count + lacking lacks (low + count) more
unfolding lacking
lacking_parts lacks low zero more =
    let count : 0 + more ≡ more = omega arith in
    let at : low ≡ low + 0 = omega arith in
    let none : lacking lacks (low + 0) more ≡ 0 + lacking lacks (low + 0) more = omega arith in
    ap (lacking lacks low) count ∙ ap (λ (n : ℕ). lacking lacks n more) at ∙ none
lacking_parts lacks low (suc count) more =
    let one : suc count + more ≡ suc (count + more) = omega arith in
    let at : suc low + count ≡ low + suc count = omega arith in
    let here = cond (lacks low) 1 0 in
    let rest = lacking_parts lacks (suc low) count more
    ∙ ap (λ (n : ℕ). lacking lacks (suc low) count + lacking lacks n more) at in
    let sum : here + (lacking lacks (suc low) count + lacking lacks (low + suc count) more)
    ≡ here + lacking lacks (suc low) count + lacking lacks (low + suc count) more = omega arith in
    ap (lacking lacks low) one ∙ ap (λ (n : ℕ). here + n) rest ∙ sum

pub all_lacking : (lacks : ℕ → Bool) (low count : ℕ)
    → ((number : ℕ) → low ≤ number → number < low + count → lacks number ≡ true) → lacking lacks low count ≡ count
unfolding lacking
all_lacking lacks low zero hole = refl
all_lacking lacks low (suc count) hole =
    let rest = all_lacking lacks (suc low) count
    (λ number from below. hole number (omega (arith, from)) (omega (arith, below))) in
    ap (λ (b : Bool). cond b 1 0 + lacking lacks (suc low) count) (hole low (omega arith) (omega arith))
    ∙ (let e : 1 + lacking lacks (suc low) count ≡ suc count = omega (arith, rest) in e)

pub none_lacking : (lacks : ℕ → Bool) (low count : ℕ)
    → ((number : ℕ) → low ≤ number → number < low + count → lacks number ≡ false) → lacking lacks low count ≡ 0
unfolding lacking
none_lacking lacks low zero there = refl
none_lacking lacks low (suc count) there =
    let rest = none_lacking lacks (suc low) count
    (λ number from below. there number (omega (arith, from)) (omega (arith, below))) in
    ap (λ (b : Bool). cond b 1 0 + lacking lacks (suc low) count) (there low (omega arith) (omega arith))
    ∙ (let e : 0 + lacking lacks (suc low) count ≡ 0 = omega (arith, rest) in e)

pub lacking_same : (lacks other : ℕ → Bool) (low count : ℕ)
    → ((number : ℕ) → low ≤ number → number < low + count → lacks number ≡ other number)
    → lacking lacks low count ≡ lacking other low count
unfolding lacking
lacking_same lacks other low zero same = refl
lacking_same lacks other low (suc count) same =
    let rest = lacking_same lacks other (suc low) count
    (λ number from below. same number (omega (arith, from)) (omega (arith, below))) in
    (λ i. cond (same low (omega arith) (omega arith) i) 1 0 + rest i)
