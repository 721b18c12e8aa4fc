use Rattle.std.proofs.Common.{◌≡◌, ℕ, ◌+◌, ◌-◌, List, [], ◌∷◌, length, refl, subst, sym, ◌∙◌, arith}
use Rattle.std.specs.Prelude.{Option, None, Some}
use Rattle.std.proofs.lemmas.Option.{none-some}
use Rattle.mold_capture.specs.declared.verdict.Range.{Range}
use Rattle.mold_capture.specs.Seen.{Seen, seen_by}
use Rattle.mold_capture.specs.Verdict.{IsWholeSeen, ranges_of, missing_in}
use Rattle.std.proofs.lemmas.Bool.{eqb-true, eqb-false}
use Rattle.mold_capture.proofs.CheckerLemmas.{none_whole, whole_none}
use Rattle.mold_capture.proofs.checker.Checker.verdict.Goals as goal

no_ranges : (ranges : List Range) → length ranges ≡ 0 → ranges_of ranges ≡ []
no_ranges [] none = refl
no_ranges (r ∷ ranges) none = absurd (omega arith)

some_ranges : (ranges : List Range) → ranges_of ranges ≡ [] → length ranges ≡ 0
some_ranges [] none = refl
some_ranges (r ∷ ranges) none = absurd cc

pub returns-in-Some : goal.returns-in-Some
returns-in-Some c =
    let f = c.self.inside in
    let seen = seen_by f.session f.known f.ended f.carried in
    let items = c.in-Ok.missing.items in
    let count = eqb-true c.in-Ok.missing.len 0 (sym c.if-is_empty.ensures) in
    let none : length items ≡ 0 = omega (arith, count, c.in-Ok.missing.ok) in
    let first = c.self.invariant.first in
    let end : c.in-Some.end ≡ c.in-Some.end - 1 + 1 = omega (arith, c.self.invariant.ended c.in-Some.end c.in-Some.is, first) in
    subst (λ (s : Seen). IsWholeSeen s (c.in-Some.end - 1 + 1)) c.self.view_is
    (subst (IsWholeSeen seen) end
    (none_whole seen c.self.invariant c.in-Some.end c.in-Some.is (sym c.in-Ok.ensures ∙ no_ranges items none)))

-- What a verdict that isn't whole reports.
abbrev IsOpen : List Range → Option ℕ → Seen → Type 0
IsOpen items end seen =
    (ranges_of items ≡ missing_in seen) × (end ≡ seen.ended) × ((number : ℕ) → IsWholeSeen seen number → ⊥)

pub returns-in-None : goal.returns-in-None
returns-in-None c =
    let f = c.self.inside in
    let seen = seen_by f.session f.known f.ended f.carried in
    subst (IsOpen c.in-Ok.missing.items None) c.self.view_is
    (c.in-Ok.ensures, sym c.in-None.is, λ number whole. none-some number (sym c.in-None.is ∙ whole.ended))

pub returns-in-Some-2 : goal.returns-in-Some-2
returns-in-Some-2 c =
    let f = c.self.inside in
    let seen = seen_by f.session f.known f.ended f.carried in
    let items = c.in-Ok.missing.items in
    let some = eqb-false c.in-Ok.missing.len 0 (sym c.if-is_empty.ensures) in
    subst (IsOpen items (Some c.in-Some-2.end)) c.self.view_is (
      c.in-Ok.ensures,
      sym c.in-Some-2.is,
      λ number whole.
          let none = some_ranges items (c.in-Ok.ensures ∙ whole_none seen c.self.invariant number whole) in
          some (omega (arith, none, c.in-Ok.missing.ok)),
    )
