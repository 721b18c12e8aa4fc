-- The verdict on datagrams, given what they state.
use Rattle.std.proofs.Common.{◌≡◌, ℕ, zero, suc, ◌+◌, ◌<◌, ◌≤◌, Bool, true, false, cond, List, refl, sym, ap, subst, ◌∙◌, arith}
use Rattle.std.proofs.Common.{add-one, inl, inr}
use Rattle.std.specs.Prelude.{Option, None, Some, is_none}
use Rattle.std.specs.FinMap as finite
use Rattle.std.proofs.lemmas.Bool.{cases_eq, eq-eqb, ne_eqb, true≢false}
use Rattle.mold_rule.specs.Ranges as lacking
use Rattle.mold_capture.specs.Outcome.{whole, incomplete, outcome_in}
use Rattle.mold_capture.specs.Seen.{Seen, Pairs}
use Rattle.mold_capture.specs.Verdict.{IsVerdict, IsWholeSeen, lacks, missing_in}
use Rattle.mold_capture.specs.declared.verdict.Verdict.{Verdict}
use Rattle.mold_capture.specs.declared.verdict.Verdict.TheVariants.{Whole as IsWhole, Incomplete}
use Rattle.mold_check.specs.CheckLines.{outcome_at}

-- A law of mold_rule: if each number is there, none is missing.
abbrev pub NoneLacks : Type 0
NoneLacks = (test : ℕ → Bool) (low count : ℕ) →
    ((number : ℕ) → low ≤ number → number < low + count → test number ≡ false) → lacking.lacking test low count ≡ 0

first_is : (lacks : Bool) (others : ℕ) → cond lacks 1 0 + others ≡ 0 → lacks ≡ false
first_is true others none = absurd (omega arith)
first_is false others none = refl

others_none : (lacks : Bool) (others : ℕ) → cond lacks 1 0 + others ≡ 0 → others ≡ 0
others_none true others none = absurd (omega arith)
others_none false others none = omega arith

-- If no number is missing, each is there.
lacking_none : (test : ℕ → Bool) (low count : ℕ) → lacking.lacking test low count ≡ 0 →
    (number : ℕ) → low ≤ number → number < low + count → test number ≡ false
unfolding lacking.lacking
lacking_none test low zero none number begins ends = absurd (omega arith)
lacking_none test low (suc count) none number begins ends =
    elim (cases_eq number low) [
      | inl same ↦ ap test same ∙ first_is (test low) (lacking.lacking test (suc low) count) none
      | inr other ↦
          lacking_none test (suc low) count (others_none (test low) (lacking.lacking test (suc low) count) none) number
          (omega (arith, other)) (omega arith)
    ]

there : (pairs : Pairs) (number : ℕ) → lacks pairs number ≡ false →
    (message : List ℕ) × (finite.get pairs number ≡ Some message)
there pairs number is = by_get (finite.get pairs number) refl
  where
    by_get : (found : Option (List ℕ)) → finite.get pairs number ≡ found →
        (message : List ℕ) × (finite.get pairs number ≡ Some message)
    by_get None same = absurd (true≢false (sym (ap is_none same) ∙ is))
    by_get (Some message) same = (message, same)

-- If the datagrams are whole, no number below the end is missing.
pub whole_at : NoneLacks → (seen : Seen) (messages : ℕ) → IsWholeSeen seen (suc messages) →
    lacking.lacking (lacks seen.pairs) 1 messages ≡ 0
whole_at law seen messages is =
    law (lacks seen.pairs) 1 messages
    (λ k low high. ap is_none (is.carried k low (omega arith)).1)

pub is_whole : (seen : Seen) (messages : ℕ) → seen.ended ≡ Some (suc messages) →
    lacking.lacking (lacks seen.pairs) 1 messages ≡ 0 → IsWholeSeen seen (suc messages)
is_whole seen messages ended none = record {
  ended = ended;
  carried = λ k low high. there seen.pairs k (lacking_none (lacks seen.pairs) 1 messages none k low (omega arith));
}

pub whole_outcome : NoneLacks → (seen : Seen) (messages : ℕ) → IsWholeSeen seen (suc messages) →
    whole messages ≡ outcome_at seen seen.ended
whole_outcome law seen messages is =
    ap (λ (b : Bool). cond b (whole messages) (incomplete (missing_in seen) (Some (suc messages))))
    (sym (eq-eqb _ 0 (whole_at law seen messages is)))
    ∙ ap (outcome_at seen) (sym is.ended)

pub incomplete_outcome : (seen : Seen) → ((number : ℕ) → IsWholeSeen seen number → ⊥) →
    incomplete (missing_in seen) seen.ended ≡ outcome_at seen seen.ended
incomplete_outcome seen other = by_end seen.ended refl
  where
    by_end : (end : Option ℕ) → seen.ended ≡ end → incomplete (missing_in seen) end ≡ outcome_at seen end
    by_end None is = refl
    by_end (Some zero) is = refl
    by_end (Some (suc messages)) is =
        ap (λ (b : Bool). cond b (whole messages) (incomplete (missing_in seen) (Some (suc messages))))
        (sym (ne_eqb _ 0 (λ none. other (suc messages) (is_whole seen messages is none))))

-- The outcome of a verdict.
pub verdict_at : NoneLacks → (seen : Seen) (v : Verdict) → IsVerdict v seen → outcome_in v ≡ outcome_at seen seen.ended
verdict_at law seen (IsWhole messages) is =
    whole_outcome law seen messages (subst (IsWholeSeen seen) (add-one messages) is)
verdict_at law seen (Incomplete missing end) is =
    ap (λ (ranges : List lacking.Range). incomplete ranges end) is.0
    ∙ ap (incomplete (missing_in seen)) is.1
    ∙ incomplete_outcome seen is.2
