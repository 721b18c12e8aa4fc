-- The lemmas of the laws.
use Rattle.std.proofs.Common.{◌≡◌, ℕ, ◌+◌, ◌≤◌, false, List, [], ◌∷◌, length, refl, sym, ◌∙◌, inl, inr, arith}
use Rattle.std.specs.Prelude.{None, nat_eq}
use Rattle.std.proofs.lemmas.Bool.{cases_lt, cond-false, cond-true, eq-eqb}
use Rattle.std.proofs.lemmas.Bool.Decides.{nat_tests}
use Rattle.std.proofs.lemmas.Option.{none-some}
use Rattle.mold_audit.specs.Kept.{AgreesWith, HasNoted, is_recent, kept, next_after, size_of}
use Rattle.mold_audit.specs.declared.audit.Audit.{Audit}
use Rattle.mold_audit.proofs.CheckLemmas.{none_below, none_past}
use Rattle.mold_audit.proofs.NoteLemmas.{next_limit}

never_recent : (size next number : ℕ) → size ≡ 0 → is_recent size next number ≡ false
never_recent size next number none = grind (arith, nat_tests, none)

off_kept : (a : Audit) (number : ℕ) → size_of a ≡ 0 → kept a number ≡ None
off_kept a number none = cond-false _ _ _ (never_recent (size_of a) a.next number none)

pub off_agrees : (a : Audit) (first : ℕ) (messages : List (List ℕ)) → size_of a ≡ 0 → AgreesWith a first messages
off_agrees a first messages none = λ number is. none-some is.delivered (sym (off_kept a number none) ∙ is.noted)

off_next :
    (size next first : ℕ) (messages : List (List ℕ)) → size ≡ 0 → next ≡ next_after size next first messages
off_next size next first [] none = refl
off_next size next first (message ∷ messages) none = sym (cond-true (nat_eq size 0) _ _ (eq-eqb size 0 none))

pub off_noted : (a : Audit) (first : ℕ) (messages : List (List ℕ)) → size_of a ≡ 0 → HasNoted a a first messages
off_noted a first messages none = record {
  size = refl;
  next = off_next (size_of a) a.next first messages none;
  digests = λ number.
      off_kept a number none
      ∙ sym (cond-false _ _ _ (never_recent (size_of a) a.next number none));
}

pub above_agrees : (a : Audit) (first : ℕ) (messages : List (List ℕ)) → a.next ≤ first → AgreesWith a first messages
above_agrees a first messages above = λ number is.
    elim (cases_lt number first) [
      | inl below ↦ none_below a first messages number below is
      | inr past ↦ none_past a first messages number (omega arith) is
    ]

pub next_within : (old new : Audit) (first : ℕ) (messages : List (List ℕ)) → old.next ≤ first →
    HasNoted old new first messages → new.next ≤ first + length messages
next_within old new first messages low is = omega (arith, is.next, next_limit (size_of old) old.next first messages low)
