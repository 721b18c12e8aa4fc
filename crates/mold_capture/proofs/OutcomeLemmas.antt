-- Datagrams have exactly one outcome.
use Rattle.std.proofs.Common.{◌≡◌, ◌⊎◌, inl, inr, ℕ, zero, suc, ◌+◌, ◌-◌, ◌<◌, ◌≤◌, List, [], ◌∷◌, length, take, drop, get_or}
use Rattle.std.proofs.Common.{refl, sym, ap, subst, ◌∙◌, arith}
use Rattle.std.specs.Prelude.{Option, None, Some, Ok}
use Rattle.std.specs.List.{All}
use Rattle.std.proofs.lemmas.List.{take-append-drop, take-take, take_all}
use Rattle.std.proofs.lemmas.Bool.{cases_order}
use Rattle.std.proofs.lemmas.Option.{none-some, same_Some}
use Rattle.mold_rule.specs.Ranges as lacking
use Rattle.mold_wire.specs.Block.{IsBytes}
use Rattle.mold_wire.specs.Packet.{Spells}
use Rattle.mold_wire.specs.Reading.{reading}
use Rattle.mold_wire.specs.declared.packet.Packet.{Packet}
use Rattle.mold_capture.specs.Consistent.{Consistent, Whole}
use Rattle.mold_capture.specs.Check.{IsRefusedAt}
use Rattle.mold_capture.specs.Outcome.{Outcome, whole, incomplete, refused, IsOutcome, outcome_in}
use Rattle.mold_rule.specs.declared.refusal.Refusal.TheVariants.{Malformed, WrongSession, SequenceZero, PastLast}
use Rattle.mold_rule.specs.declared.refusal.Refusal.TheVariants.{EndConflict, EndBelow, PastEnd, Conflict, Memory}
use Rattle.mold_capture.specs.declared.verdict.Verdict.{Verdict}
use Rattle.mold_capture.specs.declared.verdict.Verdict.TheVariants.{Whole as IsWhole, Incomplete}
use Rattle.mold_capture.specs.Refusal.{reason}
use Rattle.mold_capture.specs.Seen.{seen_of}
use Rattle.mold_capture.specs.Verdict.{IsVerdictOn, IsWholeSeen, missing_in, ranges_of}
use Rattle.mold_rule.specs.declared.refusal.Refusal.{Refusal}
use Rattle.mold_capture.proofs.CheckLemmas.{front_more, refused_for}
use Rattle.mold_capture.proofs.CheckerLemmas.{none_whole, whole_none}
use Rattle.mold_capture.proofs.ListLemmas.{ReadsBack}
use Rattle.mold_capture.proofs.RefusalLemmas.{RuleLaw}
use Rattle.mold_capture.proofs.SumLemmas.{sums_up, none_consistent, front_consistent, read_or_refused, accepted, one_whole, whole_received, received_whole}

-- Each prefix of consistent datagrams is consistent.
taken_consistent : (list : List (List ℕ)) (i : ℕ) → Consistent list → Consistent (take i list)
taken_consistent list i consistent =
    front_consistent (take i list) (drop i list) (subst Consistent (sym (take-append-drop i list)) consistent)

shorter_consistent : (list : List (List ℕ)) (i j : ℕ) → i ≤ j → Consistent (take j list) → Consistent (take i list)
shorter_consistent list i j within consistent =
    subst Consistent (take-take i j list within) (taken_consistent (take j list) i consistent)

whole_consistent : (list P : List (List ℕ)) → Whole list P → Consistent list
whole_consistent list P is = (is.session, P, is.explained)

-- A prefix that is longer than an inconsistent one isn't consistent.
not_both : (list : List (List ℕ)) (i j : ℕ) → i < j → (Consistent (take (i + 1) list) → ⊥) →
    Consistent (take j list) → ⊥
not_both list i j below not consistent = not (shorter_consistent list (i + 1) j (omega arith) consistent)

same_refusal : (list : List (List ℕ)) (i j : ℕ) (why other : Refusal) → i ≡ j →
    reason (take i list) (get_or list i []) ≡ Some why → reason (take j list) (get_or list j []) ≡ Some other
    → refused i why ≡ refused j other
same_refusal list i j why other same is so =
    let reasons = sym is ∙ ap (λ (k : ℕ). reason (take k list) (get_or list k [])) same ∙ so in
    (λ k. refused (same k) (same_Some why other reasons k))

-- Datagrams have at most one outcome.
pub one_outcome : ReadsBack → (list : List (List ℕ)) (a b : Outcome) → IsOutcome list a → IsOutcome list b → a ≡ b
one_outcome reads list (whole m) (whole n) p q =
    ap whole (sym p.1.1 ∙ ap (λ (l : List (List ℕ)). length l) (one_whole reads list p.0 q.0 p.1.0 q.1.0) ∙ q.1.1)
one_outcome reads list (whole m) (incomplete missing end) p q = absurd (q.3 p.0 p.1.0)
one_outcome reads list (whole m) (refused i why) p q =
    absurd (q.2 (taken_consistent list (i + 1) (whole_consistent list p.0 p.1.0)))
one_outcome reads list (incomplete missing end) (whole n) p q = absurd (p.3 q.0 q.1.0)
one_outcome reads list (incomplete missing end) (incomplete others last) p q =
    (λ k. incomplete ((p.1 ∙ sym q.1) k) ((p.2 ∙ sym q.2) k))
one_outcome reads list (incomplete missing end) (refused i why) p q = absurd (q.2 (taken_consistent list (i + 1) p.0))
one_outcome reads list (refused i why) (whole n) p q =
    absurd (p.2 (taken_consistent list (i + 1) (whole_consistent list q.0 q.1.0)))
one_outcome reads list (refused i why) (incomplete others last) p q = absurd (p.2 (taken_consistent list (i + 1) q.0))
one_outcome reads list (refused i why) (refused j other) p q =
    elim (cases_order i j) [
      | inl same ↦ same_refusal list i j why other same p.3 q.3
      | inr rest ↦ elim rest [
        | inl below ↦ absurd (not_both list i j below p.2 q.1)
        | inr above ↦ absurd (not_both list j i above q.2 p.1)
      ]
    ]

-- Bytes that are decoded as a packet are its encoding.
abbrev pub Spelled : Type 0
Spelled = (packet : Packet) (bytes : List ℕ) → IsBytes bytes → reading bytes ≡ Ok packet → Spells packet bytes

-- The first `i` datagrams are consistent, or the list has an outcome.
abbrev Goes : List (List ℕ) → ℕ → Type 0
Goes list i = Consistent (take i list) ⊎ ((outcome : Outcome) × IsOutcome list outcome)

goes_by : ReadsBack → RuleLaw → Spelled → (list : List (List ℕ)) (i : ℕ) → i < length list → IsBytes (get_or list i []) →
    Consistent (take i list) → (o : Option Refusal) → reason (take i list) (get_or list i []) ≡ o → Goes list (i + 1)
goes_by reads rule spelled list i within is_bytes consistent None is =
    let bytes = get_or list i [] in
    let found = read_or_refused (take i list) bytes is in
    inl (subst Consistent (sym (front_more list i bytes within refl))
    (accepted reads rule (take i list) bytes found.0 consistent (spelled found.0 bytes is_bytes found.1) is))
goes_by reads rule spelled list i within is_bytes consistent (Some why) is =
    inr (refused i why, refused_for reads rule list i (get_or list i []) why within refl consistent is)

one_more : (i : ℕ) → i + 1 ≡ suc i
one_more i = omega arith

goes_on : ReadsBack → RuleLaw → Spelled → (list : List (List ℕ)) → All IsBytes list → (i : ℕ) → i ≤ length list → Goes list i
goes_on reads rule spelled list all zero within = inl none_consistent
goes_on reads rule spelled list all (suc i) within =
    elim (goes_on reads rule spelled list all i (omega arith)) [
      | inl consistent ↦ subst (Goes list) (one_more i)
          (goes_by reads rule spelled list i (omega arith) (all i [] (omega arith)) consistent _ refl)
      | inr outcome ↦ inr outcome
    ]

not_nil : (r : lacking.Range) (ranges : List lacking.Range) → r ∷ ranges ≡ [] → ⊥
not_nil r ranges is = absurd cc

ends_by : ReadsBack → (list : List (List ℕ)) → Consistent list → (ended : Option ℕ) (missing : List lacking.Range) →
    (seen_of list).ended ≡ ended → missing_in (seen_of list) ≡ missing → (outcome : Outcome) × IsOutcome list outcome
ends_by reads list consistent None missing ends is = (
  incomplete missing None,
  (
    consistent,
    sym is,
    sym ends,
    λ P whole. none-some _ (sym ends ∙ (whole_received reads list P whole).ended),
  ),
)
ends_by reads list consistent (Some end) [] ends is =
    let sound = (sums_up reads list consistent).sound in
    let received = none_whole (seen_of list) sound end ends is in
    let number : end ≡ end - 1 + 1 = omega (arith, sound.first, sound.ended end ends) in
    (whole (end - 1), received_whole reads list consistent (end - 1) (subst (IsWholeSeen (seen_of list)) number received))
ends_by reads list consistent (Some end) (r ∷ missing) ends is =
    let sound = (sums_up reads list consistent).sound in (
      incomplete (r ∷ missing) (Some end),
      (
        consistent,
        sym is,
        sym ends,
        λ P whole.
            let none = whole_none (seen_of list) sound (length P + 1) (whole_received reads list P whole) in
            not_nil r missing (sym is ∙ none),
      ),
    )

-- Every list of datagrams has an outcome.
pub some_outcome : ReadsBack → RuleLaw → Spelled → (list : List (List ℕ)) → All IsBytes list →
    (outcome : Outcome) × IsOutcome list outcome
some_outcome reads rule spelled list all =
    elim (goes_on reads rule spelled list all (length list) (omega arith)) [
      | inl consistent ↦
          ends_by reads list (subst Consistent (take_all (length list) list (omega arith)) consistent) _ _ refl refl
      | inr outcome ↦ outcome
    ]

-- A verdict reports the outcome.
pub verdict_answers : ReadsBack → (list : List (List ℕ)) (v : Verdict) → IsVerdictOn v list → (outcome : Outcome) →
    IsOutcome list outcome → outcome_in v ≡ outcome
verdict_answers reads list (IsWhole messages) is outcome told = one_outcome reads list (whole messages) outcome is told
verdict_answers reads list (Incomplete missing end) is outcome told =
    one_outcome reads list (incomplete (ranges_of missing.items) end) outcome is told

-- A refusal reports the outcome, unless an allocation failed.
pub refused_answers : ReadsBack → (list : List (List ℕ)) (i : ℕ) (why : Refusal) → IsRefusedAt i why list →
    (outcome : Outcome) → IsOutcome list outcome → (why ≡ Memory) ⊎ (refused i why ≡ outcome)
refused_answers reads list i Memory is outcome told = inl refl
refused_answers reads list i (Malformed e) is outcome told = inr (one_outcome reads list (refused i _) outcome is told)
refused_answers reads list i WrongSession is outcome told = inr (one_outcome reads list (refused i _) outcome is told)
refused_answers reads list i SequenceZero is outcome told = inr (one_outcome reads list (refused i _) outcome is told)
refused_answers reads list i PastLast is outcome told = inr (one_outcome reads list (refused i _) outcome is told)
refused_answers reads list i (EndConflict e) is outcome told = inr (one_outcome reads list (refused i _) outcome is told)
refused_answers reads list i (EndBelow k) is outcome told = inr (one_outcome reads list (refused i _) outcome is told)
refused_answers reads list i (PastEnd e) is outcome told = inr (one_outcome reads list (refused i _) outcome is told)
refused_answers reads list i (Conflict n) is outcome told = inr (one_outcome reads list (refused i _) outcome is told)
