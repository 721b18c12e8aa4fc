-- The remaining entries of an input that comes in pieces.
use Rattle.std.proofs.Common.{arith, ◌≡◌, ◌∙◌, ◌&&◌, Bool, false, not, true, ℕ, List, [], ◌++◌, length, length-append, Option, None, Some}
use Rattle.std.proofs.Common.{ap, refl, sym, subst, append_assoc, append-nil}
use Rattle.std.proofs.lemmas.List.{nil_from_length}
use Rattle.std.specs.Prelude.{unwrap_or}
use Rattle.std.specs.Io.KnownBytes.{Consumes, IsAtEnd}
use Rattle.mold_input.specs.Entries.{Entry}
use Rattle.mold_feeder.specs.Input.{KeepsRest, entries_after}

module _ (entries : List ℕ → List Entry) where
  -- A piece was added to a part: the whole entries, and then the other bytes.
  pub split_rest : (whole part old piece : List ℕ) (left : Option (List ℕ)) →
      ((more : List ℕ) → entries whole ++ entries (part ++ more) ≡ entries (old ++ (piece ++ more))) →
      entries_after entries (entries whole) part left ≡ entries_after entries [] (old ++ piece) left
  split_rest whole part old piece None same = refl
  split_rest whole part old piece (Some left) same =
      ap (λ (es : List Entry). Some es) (same left ∙ ap entries (sym (append_assoc old piece left)))

  nil_first : (first second : List ℕ) → first ++ second ≡ [] → first ≡ []
  nil_first first second is =
      nil_from_length first (omega (arith, ap (λ (t : List ℕ). length t) is, length-append first second))

  -- A piece was added.
  pub rest_kept : (unread source whole part after piece : List ℕ) (old mid : Option (List ℕ)) → unread ++ source ≡ [] →
      entries [] ≡ [] → Consumes old mid piece →
      entries_after entries (entries whole) after mid ≡ entries_after entries [] (part ++ piece) mid →
      KeepsRest (entries_after entries (entries (unread ++ source)) part old)
      (entries_after entries (entries (unread ++ whole)) after mid)
  rest_kept unread source whole part after piece None mid none nothing consumes same = tt
  rest_kept unread source whole part after piece (Some all) None none nothing consumes same = absurd consumes
  rest_kept unread source whole part after piece (Some all) (Some left) none nothing consumes same =
      ap (λ (t : List ℕ). entries (t ++ whole) ++ entries (after ++ left)) (nil_first unread source none)
      ∙ ap (λ (known : Option (List Entry)). unwrap_or known []) same
      ∙ ap entries (append_assoc part piece left ∙ ap (λ (t : List ℕ). part ++ t) (sym consumes))
      ∙ ap (λ (es : List Entry). es ++ entries (part ++ all)) (sym (ap entries none ∙ nothing))

  -- The same, if the reader and the source are those after the piece was added.
  pub rest_added : (unread now source whole part after piece : List ℕ) (old mid left : Option (List ℕ)) → now ≡ unread →
      left ≡ mid → unread ++ source ≡ [] → entries [] ≡ [] → Consumes old mid piece →
      entries_after entries (entries whole) after left ≡ entries_after entries [] (part ++ piece) mid →
      KeepsRest (entries_after entries (entries (unread ++ source)) part old)
      (entries_after entries (entries (now ++ whole)) after left)
  rest_added unread now source whole part after piece old mid left first second none nothing consumes same =
      let before = entries_after entries (entries (unread ++ source)) part old in
      subst (λ (t : List ℕ). KeepsRest before (entries_after entries (entries (t ++ whole)) after left)) (sym first)
      (subst (λ (l : Option (List ℕ)). KeepsRest before (entries_after entries (entries (unread ++ whole)) after l))
      (sym second)
      (rest_kept unread source whole part after piece old mid none nothing consumes
      (subst (λ (l : Option (List ℕ)). entries_after entries (entries whole) after l
      ≡ entries_after entries [] (part ++ piece) mid) second same)))

  end_known : (part left : List ℕ) → left ≡ [] → entries [] ≡ [] →
      entries part ++ entries ([] ++ left) ≡ [] ++ entries ((part ++ []) ++ left)
  end_known part left end nothing =
      ap (λ (t : List ℕ). entries part ++ entries t) end
      ∙ ap (λ (es : List Entry). entries part ++ es) nothing
      ∙ append-nil (entries part)
      ∙ ap entries (sym (append-nil part) ∙ sym (append-nil (part ++ [])))
      ∙ ap (λ (t : List ℕ). entries ((part ++ []) ++ t)) (sym end)

  -- At the end, the part of an entry is the last entry.
  pub end_split : (part : List ℕ) (left : Option (List ℕ)) → IsAtEnd left → entries [] ≡ [] →
      entries_after entries (entries part) [] left ≡ entries_after entries [] (part ++ []) left
  end_split part None end nothing = refl
  end_split part (Some left) end nothing = ap (λ (es : List Entry). Some es) (end_known part left end nothing)

  -- The source has ended.
  pub rest_ended : (unread source whole part after piece : List ℕ) (old left : Option (List ℕ)) →
      unread ++ source ≡ [] → entries [] ≡ [] → Consumes old left piece → length piece ≡ 0 → IsAtEnd left → whole ≡ part →
      after ≡ [] →
      KeepsRest (entries_after entries (entries (unread ++ source)) part old)
      (entries_after entries (entries (unread ++ whole)) after left)
  rest_ended unread source whole part after piece old left none nothing consumes empty end same over =
      rest_kept unread source whole part after piece old left none nothing consumes
      (ap (λ (t : List ℕ). entries_after entries (entries t) after left) same
      ∙ ap (λ (t : List ℕ). entries_after entries (entries part) t left) over
      ∙ end_split part left end nothing
      ∙ ap (λ (t : List ℕ). entries_after entries [] (part ++ t) left) (sym (nil_from_length piece empty)))

  pub nil_second : (first second : List ℕ) → first ++ second ≡ [] → second ≡ []
  nil_second first second is =
      nil_from_length second (omega (arith, ap (λ (t : List ℕ). length t) is, length-append first second))

-- An input that lacks entries is not ready.
pub lacks_ready : (ready ended : Bool) → (not ready && not ended) ≡ true → ready ≡ false
lacks_ready true ended lacks = absurd (cc)
lacks_ready false ended lacks = refl
