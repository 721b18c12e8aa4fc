-- The gaps of a listener from a number on, one after the other.
use Rattle.std.proofs.Common.{◌≡◌, ◌⊎◌, ℕ, suc, ◌+◌, ◌-◌, ◌<◌, ◌≤◌, max, Bool, true, false, [], ◌∷◌}
use Rattle.std.proofs.Common.{refl, sym, ap, ◌∙◌, inl, inr, arith, Option, None, Some, is_some}
use Rattle.std.specs.Prelude.{is_none}
use Rattle.std.proofs.lemmas.Bool.{true≢false}
use Rattle.std.specs.FinMap as finite
use Rattle.mold_receiver.specs.View.{View}
use Rattle.mold_receiver.specs.Wanted.{HasNoGap, IsNextGap, lacks}
use Rattle.mold_receiver.specs.declared.gap.Gap.{Gap}
use Rattle.mold_rule.specs.Ranges.{range, ranges}
use Rattle.mold_ffi.specs.Listener.Gaps.{gaps_from}

-- Whether there is a value, and whether there is none.
there : {A : Type 0} (o : Option A) → is_some o ≡ true → is_none o ≡ false
there None is = absurd (true≢false (sym is))
there (Some x) is = refl

lacked : {A : Type 0} (o : Option A) → o ≡ None → is_none o ≡ true
lacked o is = ap is_none is

module _ (none : (f : ℕ → Bool) (low : ℕ) → ranges f low 0 ≡ [])
    (skip : (f : ℕ → Bool) (low count more : ℕ) → ((number : ℕ) → low ≤ number → number < low + count → f number ≡ false)
    → ranges f low (count + more) ≡ ranges f (low + count) more)
    (run : (f : ℕ → Bool) (low count more : ℕ) → ((number : ℕ) → low ≤ number → number < low + suc count → f number ≡ true)
    → (more ≡ 0) ⊎ (f (low + suc count) ≡ false)
    → ranges f low (suc count + more) ≡ range low (low + count) ∷ ranges f (low + suc count) more) where
  -- No message from a number on is missing.
  pub no_gap : (v : View) (from : ℕ) → HasNoGap v (max from v.next) → gaps_from v from ≡ []
  no_gap v from held =
      let low = max from v.next in
      let count = v.known - low in
      let all : count + 0 ≡ count = omega arith in
      sym (ap (ranges (lacks v.store) low) all)
      ∙ skip (lacks v.store) low count 0
      (λ number above below. there (finite.get v.store number) (held number above (omega (arith, below))))
      ∙ none (lacks v.store) (low + count)

  -- The gaps from the first one on: this one, and those after it.
  pub next_gap : (v : View) (from : ℕ) (gap : Gap) → IsNextGap v (max from v.next) gap
      → gaps_from v from ≡ range gap.first (gap.end - 1) ∷ gaps_from v gap.end
  next_gap v from gap is =
      let f = lacks v.store in
      let low = max from v.next in
      let before = gap.first - low in
      let count = gap.end - 1 - gap.first in
      let more = v.known - gap.end in
      let parts : before + (suc count + more) ≡ v.known - low = omega (arith, is.after, is.some, is.within) in
      let first : low + before ≡ gap.first = omega (arith, is.after) in
      let last : gap.first + count ≡ gap.end - 1 = omega (arith, is.some) in
      let end : gap.first + suc count ≡ gap.end = omega (arith, is.some) in
      let above : gap.end ≡ max gap.end v.next = omega (arith, is.after, is.some) in
      let stops : (more ≡ 0) ⊎ (f (gap.first + suc count) ≡ false) =
      elim is.stops [
        | inl all ↦ inl (omega (arith, all))
        | inr stored ↦ inr (ap f end ∙ there (finite.get v.store gap.end) stored)
      ] in
      sym (ap (ranges f low) parts)
      ∙ skip f low before (suc count + more)
      (λ number from below. there (finite.get v.store number) (is.held number from (omega (arith, below, first))))
      ∙ ap (λ (n : ℕ). ranges f n (suc count + more)) first
      ∙ run f gap.first count more
      (λ number from below. lacked (finite.get v.store number) (is.lacked number from (omega (arith, below, end)))) stops
      ∙ (λ i. range gap.first (last i) ∷ ranges f ((end ∙ above) i) (v.known - above i))
