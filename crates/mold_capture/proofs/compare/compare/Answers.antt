use Rattle.std.proofs.Common.{◌≡◌, ◌||◌, Bool, true, false, ℕ, ◌+◌, List, length, not, refl, sym, ap, ◌∙◌, inl, inr, arith}
use Rattle.std.proofs.lemmas.Bool.{or_cases, or_parts, cases_Bool, true≢false, not-true, not-false}
use Rattle.mold_capture.specs.Refusal.{conflict}
use Rattle.mold_rule.specs.Held.{differs}
use Rattle.mold_capture.specs.Runs.{carried}
use Rattle.mold_capture.specs.Seen.{pairs_with}
use Rattle.mold_capture.proofs.KeepLemmas.{with_none, with_held, brings_first, conflict_next, copied_some, copied_none}
use Rattle.mold_capture.proofs.compare.compare.Goals as goal

is_new : (a b : Bool) → a ≡ false → (a || b) ≡ true → b ≡ true
is_new a b held is =
    elim (or_cases a b is) [
      | inl new ↦ absurd (true≢false (sym new ∙ held))
      | inr none ↦ none
    ]

pub loop-message-preserved : goal.loop-message-preserved
loop-message-preserved c =
    let pairs = carried c.args.runs.now c.args.kept.now in
    let old = c.loop-message.invariant in
    let steps = c.in-Some.ensures.steps in
    let number = c.loop-message.number in
    let message = c.in-Some.message.now in
    let rest = c.next.new.self in
    record {
      near = c.message_at-carried.ensures.near;
      counted = omega (arith, old.counted, ap (λ (t : List (List ℕ)). length t) steps);
      same =
          conflict_next pairs number (number + 1) message rest refl
          (ap (λ o. differs o message) (sym c.message_at-carried.ensures.message)
          ∙ sym c.is_other.ensures ∙ c.if-is_other.false)
          ∙ ap (conflict pairs number) (sym steps)
          ∙ old.same;
      all = λ none.
          let parts = or_parts c.loop-message.new c.is_none-new.result none in
          let found = copied_some c.message_at-carried.result (c.is_none-new.ensures ∙ ap not parts.1) in
          with_held pairs number (number + 1) message rest refl
          (found.0, sym c.message_at-carried.ensures.message ∙ found.1)
          ∙ ap (pairs_with pairs number) (sym steps)
          ∙ old.all parts.0;
      some = λ is.
          elim (cases_Bool c.loop-message.new) [
            | inl new ↦ old.some new
            | inr held ↦
                let none = is_new c.loop-message.new c.is_none-new.result held is in
                let found = copied_none c.message_at-carried.result (c.is_none-new.ensures ∙ ap not none) in
                λ same.
                brings_first pairs number message rest (sym c.message_at-carried.ensures.message ∙ found)
                (ap (pairs_with pairs number) (sym steps) ∙ old.all held ∙ same)
          ];
    }

pub returns-clause-new : goal.returns-clause-new
returns-clause-new c = λ some. c.loop-message.invariant.some (not-false c.loop-message.new some)

pub returns-clause-all : goal.returns-clause-all
returns-clause-all c = λ all.
    let pairs = carried c.args.runs.now c.args.kept.now in
    sym (c.loop-message.invariant.all (not-true c.loop-message.new all))
    ∙ ap (pairs_with pairs c.loop-message.number) c.in-None.ensures.steps.0
    ∙ with_none pairs c.loop-message.number
