-- The outcome of a check of digested datagrams.
use Rattle.std.proofs.Common.{◌≡◌, ◌⊎◌, inl, inr, ℕ, ◌+◌, ◌-◌, ◌<◌, ◌≤◌, Bool, List, [], ◌∷◌, ◌++◌, length, take, get_or}
use Rattle.std.proofs.Common.{refl, sym, ap, subst, ◌∙◌, arith}
use Rattle.std.specs.Prelude.{Option, None, Some, is_none}
use Rattle.std.specs.List.{All}
use Rattle.std.specs.FinMap as finite
use Rattle.std.specs.Option.{option_map}
use Rattle.std.proofs.lemmas.List.{get_or-map, length-map, take-map, take_more}
use Rattle.std.proofs.lemmas.List.Elements.{All-take}
use Rattle.std.proofs.lemmas.Option.{none-some}
use Rattle.mold_wire.specs.Block.{IsBytes}
use Rattle.mold_rule.specs.Ranges as lacking
use Rattle.mold_rule.specs.declared.refusal.Refusal.{Refusal}
use Rattle.mold_rule.specs.declared.refusal.Refusal.TheVariants.{Conflict}
use Rattle.mold_capture.specs.Consistent.{Consistent, Whole}
use Rattle.mold_capture.specs.Outcome.{Outcome, whole, incomplete, refused, IsOutcome}
use Rattle.mold_capture.specs.Refusal.{reason}
use Rattle.mold_capture.specs.Seen.{seen_of}
use Rattle.mold_capture.specs.Verdict.{IsWholeSeen, lacks, missing_in}
use Rattle.mold_digest.specs.Conflicts.{IsNoConflict, IsWithoutConflict}
use Rattle.mold_digest.specs.Key.{digest}
use Rattle.mold_digest.specs.Digested.{digested, digested_list, digests}
use Rattle.mold_digest.proofs.DigestedLemmas.{ReadsBack}
use Rattle.mold_digest.proofs.SaidLemmas.{consistent_digested, mapped_some, whole_digested}
use Rattle.mold_digest.proofs.PacketLemmas.{IsSpelled, seen_digested}
use Rattle.mold_digest.proofs.ReasonLemmas.{reason_alike, refusal_cases}

-- The facts about checks and about ranges that the lemmas here need, as the laws of the lower crates state them.
pub record Laws : Type 0 where
  pub reads : ReadsBack
  pub spelled : IsSpelled
  pub refused : (list : List (List ℕ)) (bytes : List ℕ) → Consistent (list ++ bytes ∷ []) → reason list bytes ≡ None
  pub received : (list messages : List (List ℕ)) → Whole list messages →
      IsWholeSeen (seen_of list) (length messages + 1)
  pub whole : (list : List (List ℕ)) (count : ℕ) → Consistent list → IsWholeSeen (seen_of list) (count + 1) →
      (messages : List (List ℕ)) × (Whole list messages × (length messages ≡ count))
  pub same : (lacks other : ℕ → Bool) (low count : ℕ) →
      ((number : ℕ) → low ≤ number → number < low + count → lacks number ≡ other number) →
      lacking.ranges lacks low count ≡ lacking.ranges other low count

none_mapped : (f : List ℕ → List ℕ) (o : Option (List ℕ)) → is_none (option_map f o) ≡ is_none o
none_mapped f None = refl
none_mapped f (Some m) = refl

-- The same numbers are missing.
pub missing_digested : Laws → (key : List ℕ) (list : List (List ℕ)) → All IsBytes list →
    missing_in (seen_of (digested_list key list)) ≡ missing_in (seen_of list)
missing_digested laws key list fits =
    let alike = seen_digested laws.reads laws.spelled key list fits in
    let seen = seen_of list in
    let other = seen_of (digested_list key list) in
    ap (λ (n : ℕ). lacking.ranges (lacks other.pairs) 1 (n - 1)) alike.known
    ∙ laws.same (lacks other.pairs) (lacks seen.pairs) 1 (seen.known - 1)
    (λ q low high. ap (λ (o : Option (List ℕ)). is_none o) (alike.pairs q)
    ∙ none_mapped (digest key) (finite.get seen.pairs q))

-- Digested datagrams are whole only if the datagrams, once they are consistent, are whole.
whole_back : Laws → (key : List ℕ) (list : List (List ℕ)) → All IsBytes list → Consistent list → (P : List (List ℕ)) →
    Whole (digested_list key list) P → (messages : List (List ℕ)) × Whole list messages
whole_back laws key list fits consistent P is =
    let alike = seen_digested laws.reads laws.spelled key list fits in
    let seen = laws.received (digested_list key list) P is in
    let found = laws.whole list (length P) consistent (record {
      ended = sym alike.ended ∙ seen.ended;
      carried = λ k low high.
          let there = seen.carried k low high in
          let had = mapped_some (digest key) (finite.get (seen_of list).pairs k) there.0 (sym (alike.pairs k) ∙ there.1) in
          (had.0, had.1.0);
    }) in
    (found.0, found.1.0)

refused_digested : Laws → (key : List ℕ) (list : List (List ℕ)) (index : ℕ) (why : Refusal) → All IsBytes list →
    IsNoConflict why → IsOutcome list (refused index why) → IsOutcome (digested_list key list) (refused index why)
refused_digested laws key list index why fits plain is =
    let other = digested_list key list in
    let within : index < length other = omega (arith, is.0, length-map list (digested key)) in
    let front : take index other ≡ digested_list key (take index list) = take-map (digested key) index list in
    let at : get_or other index [] ≡ digested key (get_or list index []) =
    get_or-map (digested key) list index [] [] is.0 in
    let alike = reason_alike laws.reads laws.spelled key (take index list) (get_or list index [])
    (All-take IsBytes index list fits) (fits index [] is.0) in
    let reason_is : reason (take index other) (get_or other index []) ≡ Some why =
    (λ i. reason (front i) (at i)) ∙ alike.same why plain is.3 in (
      within,
      subst Consistent (sym front) (consistent_digested laws.reads key (take index list) is.1),
      λ more. none-some why (sym (laws.refused (take index other) (get_or other index [])
          (subst Consistent (take_more other index [] within) more)) ∙ reason_is),
      reason_is,
    )

-- Unless the datagrams are refused for a conflict, the digested ones have the same outcome.
pub outcome_digested : Laws → (key : List ℕ) (list : List (List ℕ)) (outcome : Outcome) → All IsBytes list →
    IsWithoutConflict outcome → IsOutcome list outcome → IsOutcome (digested_list key list) outcome
outcome_digested laws key list (whole count) fits plain is =
    (digests key is.0, (whole_digested laws.reads key list is.0 is.1.0, length-map is.0 (digest key) ∙ is.1.1))
outcome_digested laws key list (incomplete missing end) fits plain is = (
  consistent_digested laws.reads key list is.0,
  is.1 ∙ sym (missing_digested laws key list fits),
  is.2 ∙ sym (seen_digested laws.reads laws.spelled key list fits).ended,
  λ P whole.
      let found = whole_back laws key list fits is.0 P whole in
      is.3 found.0 found.1,
)
outcome_digested laws key list (refused index why) fits plain is = refused_digested laws key list index why fits plain is

outcome_cases : (outcome : Outcome) →
    IsWithoutConflict outcome ⊎ ((index number : ℕ) × (outcome ≡ refused index (Conflict number)))
outcome_cases (whole count) = inl tt
outcome_cases (incomplete missing end) = inl tt
outcome_cases (refused index why) =
    elim (refusal_cases why) [
      | inl plain ↦ inl plain
      | inr found ↦ inr (index, found.0, ap (refused index) found.1)
    ]

-- The outcome of the digested datagrams is that of the datagrams, unless these are refused for a conflict.
pub outcome_back : Laws →
    ((list : List (List ℕ)) → All IsBytes list → (outcome : Outcome) × IsOutcome list outcome) →
    ((list : List (List ℕ)) (one other : Outcome) → IsOutcome list one → IsOutcome list other → one ≡ other) →
    (key : List ℕ) (list : List (List ℕ)) (outcome : Outcome) → All IsBytes list →
    IsOutcome (digested_list key list) outcome →
    IsOutcome list outcome ⊎ ((index number : ℕ) × IsOutcome list (refused index (Conflict number)))
outcome_back laws some one key list outcome fits is =
    let found = some list fits in
    elim (outcome_cases found.0) [
      | inl plain ↦ inl (subst (IsOutcome list) (one (digested_list key list) found.0 outcome
          (outcome_digested laws key list found.0 fits plain found.1) is) found.1)
      | inr known ↦ inr (known.0, known.1, subst (IsOutcome list) known.2 found.1)
    ]
