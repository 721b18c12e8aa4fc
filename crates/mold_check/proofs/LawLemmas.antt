-- The computed outcome of datagrams is their outcome.
use Rattle.std.proofs.Common.{◌≡◌, ℕ, zero, suc, ◌+◌, Bool, true, false, cond, eqb, List, [], ◌∷◌, ◌++◌, length, take, get_or}
use Rattle.std.proofs.Common.{refl, sym, ap, subst, ◌∙◌, arith, append_assoc, append-nil, length-append, add-one, true≢false}
use Rattle.std.specs.Prelude.{Option, None, Some}
use Rattle.std.specs.List.{All}
use Rattle.std.proofs.lemmas.Bool.{eq-eqb, eqb-true}
use Rattle.std.proofs.lemmas.List.{get_or-append-add, take-append-le, take_all}
use Rattle.std.proofs.lemmas.List.Elements.{All-head, All-tail}
use Rattle.std.proofs.lemmas.Option.{none-some, same_Some}
use Rattle.mold_wire.specs.Block.{IsBytes}
use Rattle.mold_rule.specs.Ranges as lacking
use Rattle.mold_rule.specs.declared.refusal.Refusal.{Refusal}
use Rattle.mold_capture.specs.Consistent.{Consistent, Whole}
use Rattle.mold_capture.specs.Outcome.{Outcome, whole, incomplete, refused, IsOutcome}
use Rattle.mold_capture.specs.Refusal.{reason}
use Rattle.mold_capture.specs.Seen.{Seen, after, seen_of}
use Rattle.mold_capture.specs.Verdict.{IsWholeSeen, lacks, missing_in}
use Rattle.mold_check.specs.CheckLines.{index_raised, outcome_at, outcome_from, outcome_of, outcome_or}
use Rattle.mold_check.proofs.VerdictLemmas.{NoneLacks, is_whole, whole_at}

-- The laws of mold_capture and mold_rule that these proofs use.
pub record CaptureLaws : Type 0 where
  pub none : Consistent []
  pub accepted : (list : List (List ℕ)) (bytes : List ℕ) → Consistent list → IsBytes bytes →
      reason list bytes ≡ None → Consistent (list ++ bytes ∷ [])
  pub refused : (list : List (List ℕ)) (bytes : List ℕ) → Consistent (list ++ bytes ∷ []) → reason list bytes ≡ None
  pub after : (list : List (List ℕ)) (bytes : List ℕ) → Consistent (list ++ bytes ∷ []) →
      seen_of (list ++ bytes ∷ []) ≡ after (seen_of list) bytes
  pub received : (list messages : List (List ℕ)) → Whole list messages → IsWholeSeen (seen_of list) (length messages + 1)
  pub whole : (list : List (List ℕ)) (count : ℕ) → Consistent list → IsWholeSeen (seen_of list) (count + 1) →
      (messages : List (List ℕ)) × (Whole list messages × (length messages ≡ count))
  pub lacking : NoneLacks

-- ---- after the last datagram

told_end : CaptureLaws → (list messages : List (List ℕ)) (end : ℕ) → (seen_of list).ended ≡ Some end → Whole list messages →
    end ≡ suc (length messages)
told_end laws list messages end is so =
    same_Some _ _ (sym is ∙ (laws.received list messages so).ended ∙ ap Some (add-one (length messages)))

end_outcome : CaptureLaws → (list : List (List ℕ)) → Consistent list → (end : Option ℕ) → (seen_of list).ended ≡ end →
    IsOutcome list (outcome_at (seen_of list) end)
end_outcome laws list consistent None is =
    (consistent, refl, sym is, λ messages so. none-some _ (sym is ∙ (laws.received list messages so).ended))
end_outcome laws list consistent (Some zero) is =
    (consistent, refl, sym is, λ messages so. omega (arith, told_end laws list messages zero is so))
end_outcome laws list consistent (Some (suc count)) is =
    by_count (eqb (lacking.lacking (lacks (seen_of list).pairs) 1 count) 0) refl
  where
    by_count : (none : Bool) → eqb (lacking.lacking (lacks (seen_of list).pairs) 1 count) 0 ≡ none →
        IsOutcome list (cond none (whole count) (incomplete (missing_in (seen_of list)) (Some (suc count))))
    by_count true none =
        laws.whole list count consistent
        (subst (IsWholeSeen (seen_of list)) (sym (add-one count)) (is_whole (seen_of list) count is (eqb-true _ 0 none)))
    by_count false some = (
      consistent,
      refl,
      sym is,
      λ messages so.
          true≢false
          (sym (eq-eqb _ 0 (whole_at laws.lacking (seen_of list) count
          (subst (IsWholeSeen (seen_of list))
          (add-one (length messages) ∙ sym (told_end laws list messages (suc count) is so))
          (laws.received list messages so))))
          ∙ some),
    )

-- ---- datagram by datagram

-- The same outcome with `count` more datagrams before the others.
abbrev behind : ℕ → Outcome → Outcome
behind count (whole messages) = whole messages
behind count (incomplete missing end) = incomplete missing end
behind count (refused index why) = refused (count + index) why

behind_end : (count : ℕ) (seen : Seen) (end : Option ℕ) → outcome_at seen end ≡ behind count (outcome_at seen end)
behind_end count seen None = refl
behind_end count seen (Some zero) = refl
behind_end count seen (Some (suc messages)) = by_count _
  where
    by_count : (b : Bool) →
        cond b (whole messages) (incomplete (missing_in seen) (Some (suc messages)))
        ≡ behind count (cond b (whole messages) (incomplete (missing_in seen) (Some (suc messages))))
    by_count true = refl
    by_count false = refl

behind_one : (count more : ℕ) (outcome : Outcome) → more ≡ count + 1 → behind more outcome ≡ behind count (index_raised outcome)
behind_one count more (whole messages) is = refl
behind_one count more (incomplete missing end) is = refl
behind_one count more (refused index why) is =
    ap (λ (n : ℕ). refused n why) (let e : more + index ≡ count + suc index = omega arith in e)

front_taken : (front rest : List (List ℕ)) (count : ℕ) → count ≡ length front → take count (front ++ rest) ≡ front
front_taken front rest count is =
    take-append-le count front rest (omega arith) ∙ take_all count front (omega arith)

-- The next datagram is refused.
refused_behind : CaptureLaws → (front rest : List (List ℕ)) (bytes : List ℕ) (why : Refusal) → Consistent front →
    reason front bytes ≡ Some why → (count : ℕ) → count ≡ length front → IsOutcome (front ++ bytes ∷ rest) (refused count why)
refused_behind laws front rest bytes why consistent is count at =
    let list = front ++ bytes ∷ rest in
    let before : take count list ≡ front = front_taken front (bytes ∷ rest) count at in
    let this : get_or list count [] ≡ bytes =
    ap (λ (n : ℕ). get_or list n []) (let e : count ≡ length front + 0 = omega arith in e)
    ∙ get_or-append-add front (bytes ∷ rest) 0 []
    in
    let with_it : take (count + 1) list ≡ front ++ bytes ∷ [] =
    ap (take (count + 1)) (sym (append_assoc front (bytes ∷ []) rest))
    ∙ front_taken (front ++ bytes ∷ []) rest (count + 1) (let e = length-append front (bytes ∷ []) in omega (arith, e))
    in (
      (let e = length-append front (bytes ∷ rest) in omega (arith, e)),
      subst Consistent (sym before) consistent,
      λ more. none-some why (sym (laws.refused front bytes (subst Consistent with_it more)) ∙ is),
      ap (λ (f : List (List ℕ)). reason f (get_or list count [])) before ∙ ap (reason front) this ∙ is,
    )

-- The next datagram is refused, or the outcome is that of the datagrams after it.
next_behind : CaptureLaws → (front rest : List (List ℕ)) (bytes : List ℕ) (others : Outcome) (why : Option Refusal) →
    Consistent front → reason front bytes ≡ why
    → (why ≡ None → IsOutcome ((front ++ bytes ∷ []) ++ rest) (behind (length (front ++ bytes ∷ [])) others))
    → IsOutcome (front ++ bytes ∷ rest) (behind (length front) (outcome_or why others))
next_behind laws front rest bytes others (Some why) consistent is goes =
    refused_behind laws front rest bytes why consistent is (length front + 0) (omega arith)
next_behind laws front rest bytes others None consistent is goes =
    subst (λ (l : List (List ℕ)). IsOutcome l (behind (length front) (index_raised others)))
    (append_assoc front (bytes ∷ []) rest)
    (subst (IsOutcome ((front ++ bytes ∷ []) ++ rest))
    (behind_one (length front) (length (front ++ bytes ∷ [])) others (length-append front (bytes ∷ [])))
    (goes refl))

outcome_behind : CaptureLaws → (front rest : List (List ℕ)) → Consistent front → All IsBytes rest →
    IsOutcome (front ++ rest) (behind (length front) (outcome_from (seen_of front) rest))
unfolding outcome_from
outcome_behind laws front [] consistent are =
    subst (IsOutcome (front ++ []))
    (behind_end (length front) (seen_of front) (seen_of front).ended)
    (subst (λ (l : List (List ℕ)). IsOutcome l (outcome_at (seen_of front) (seen_of front).ended)) (sym (append-nil front))
    (end_outcome laws front consistent (seen_of front).ended refl))
outcome_behind laws front (bytes ∷ rest) consistent are =
    next_behind laws front rest bytes (outcome_from (after (seen_of front) bytes) rest) (reason front bytes) consistent refl
    (λ none.
    let more = laws.accepted front bytes consistent (All-head IsBytes bytes rest are) none in
    subst (λ (s : Seen). IsOutcome ((front ++ bytes ∷ []) ++ rest) (behind (length (front ++ bytes ∷ [])) (outcome_from s rest)))
    (laws.after front bytes more)
    (outcome_behind laws (front ++ bytes ∷ []) rest more (All-tail IsBytes bytes rest are)))

pub outcome_is : CaptureLaws → (list : List (List ℕ)) → All IsBytes list → IsOutcome list (outcome_of list)
outcome_is laws list are =
    subst (IsOutcome list) (none_in_front (outcome_of list)) (outcome_behind laws [] list laws.none are)
  where
    none_in_front : (outcome : Outcome) → behind 0 outcome ≡ outcome
    none_in_front (whole messages) = refl
    none_in_front (incomplete missing end) = refl
    none_in_front (refused index why) = ap (λ (n : ℕ). refused n why) (let e : 0 + index ≡ index = omega arith in e)
