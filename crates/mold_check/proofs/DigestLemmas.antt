-- A check of digested datagrams.
use Rattle.std.proofs.Common.{◌≡◌, ℕ, ◌≤◌, List, [], ◌∷◌, refl, sym, ap, ◌∙◌, arith, inl, inr}
use Rattle.std.specs.Prelude.{◌⊎◌, Option, None, Some, codes, decimal, ◌^◌, ◌-◌}
use Rattle.mold_capture.specs.Outcome.{IsOutcome, Outcome, whole, incomplete, refused, outcome_in}
use Rattle.mold_capture.specs.Refusal.{refusal}
use Rattle.mold_capture.specs.Seen.{Seen, after}
use Rattle.mold_capture.specs.Verdict.{IsVerdict}
use Rattle.mold_capture.specs.declared.verdict.Verdict.{Verdict}
use Rattle.mold_devices.specs.Devices.{one_more}
use Rattle.mold_digest.specs.Digested.{digested, digested_list}
use Rattle.mold_rule.specs.declared.refusal.Refusal.{Refusal}
use Rattle.mold_rule.specs.declared.refusal.Refusal.TheVariants.{Conflict}
use Rattle.mold_text.specs.Line.{line_of}
use Rattle.mold_text.specs.Text.{refusal_words}
use Rattle.mold_check.specs.CheckLines.{index_raised, outcome_at, outcome_from, outcome_of, outcome_or}
use Rattle.mold_check.specs.DigestCheck.{digest_judging, digest_text, found_by_digest, judged_by_digest, numbered_by_digest}
use Rattle.mold_check.specs.Digested.{digested_beginning, digested_judging, digested_numbered}
use Rattle.mold_check.specs.EachCheck.{all_judged, with_numbers}
use Rattle.mold_check.specs.Judge.{Judging}
use Rattle.mold_check.specs.Judgement.{Judgement, added, added_to, all_added, judged_as, judgement_status, no_judgement, numbered_text}
use Rattle.mold_check.specs.Naming.{counted}
use Rattle.mold_check.specs.Report.{outcome_status, outcome_text}
use Rattle.mold_check.specs.declared.refused_datagram.RefusedDatagram.{RefusedDatagram}
use Rattle.mold_check.proofs.JudgementLemmas.{all_status, named_line, next_small, this_number, told_end, told_raised}
use Rattle.mold_check.proofs.VerdictLemmas.{NoneLacks, verdict_at}

-- What is printed by a check that refused nothing.
pub digest_verdict : NoneLacks → (j inner : Judgement) (seen : Seen) (before : Option RefusedDatagram) (v : Verdict)
    (names : ℕ → List ℕ) → inner ≡ j → before ≡ inner.refused → before ≡ None → seen ≡ inner.seen → IsVerdict v seen →
    (digest_text [] (outcome_in v) ≡ judged_by_digest names j) × (outcome_status (outcome_in v) ≡ judgement_status j)
digest_verdict law j inner seen before v names same found none has is = (
  ap (digest_text []) (verdict_at law seen v is)
      ∙ ap (λ (s : Seen). digest_text [] (outcome_at s s.ended)) has
      ∙ ap (found_by_digest names inner.seen) (sym none ∙ found)
      ∙ ap (judged_by_digest names) same,
  ap outcome_status (verdict_at law seen v is)
      ∙ ap (λ (s : Seen). outcome_status (outcome_at s s.ended)) has
      ∙ ap (λ (r : Option RefusedDatagram). judgement_status (record { seen = inner.seen; refused = r })) (sym none ∙ found)
      ∙ ap judgement_status same,
)

-- ---- all datagrams

-- What is printed about datagrams that follow others, of which the first has the number `number`.
abbrev met : List ℕ → ℕ → Seen → Option RefusedDatagram → List (List ℕ) → List ℕ
met word number seen (Some datagram) list =
    line_of (codes "refused" ∷ word ∷ decimal datagram.number ∷ refusal_words datagram.why)
met word number seen None list = numbered_by_digest word number (outcome_from seen list)

abbrev met_after : List ℕ → ℕ → Judgement → List (List ℕ) → List ℕ
met_after word number j list = met word number j.seen j.refused list

-- If two texts of an outcome agree without digests, they do by digest.
met_text : (word : List ℕ) (number : ℕ) (outcome : Outcome) → outcome_text [] outcome ≡ numbered_text word number outcome →
    digest_text [] outcome ≡ numbered_by_digest word number outcome
met_text word number (whole messages) is = refl
met_text word number (incomplete missing end) is = refl
met_text word number (refused index why) is = is

-- No datagram remains.
met_nothing : (word : List ℕ) (number : ℕ) (seen : Seen) (before : Option RefusedDatagram) →
    found_by_digest (counted word) seen before ≡ met word number seen before []
unfolding outcome_from
met_nothing word number seen (Some datagram) = sym (named_line word datagram.number (refusal_words datagram.why))
met_nothing word number seen None =
    met_text word number (outcome_at seen seen.ended) (ap (λ (p : List ℕ × ℕ). p.0) (told_end word number seen seen.ended))

-- An accepted datagram before the others raises the index of the refused one.
met_raised : (word : List ℕ) (number : ℕ) (outcome : Outcome) →
    numbered_by_digest word (one_more number) outcome ≡ numbered_by_digest word number (index_raised outcome)
met_raised word number (whole messages) = refl
met_raised word number (incomplete missing end) = refl
met_raised word number (refused index why) =
    ap (λ (p : List ℕ × ℕ). p.0) (told_raised word number (refused index why))

-- A datagram that is judged, given why it is refused.
met_judged : (word : List ℕ) (number : ℕ) (seen : Seen) (bytes : List ℕ) (list : List (List ℕ)) (why : Option Refusal) →
    number ≤ 2 ^ 64 - 1 →
    met_after word (one_more number) (judged_as seen number bytes why) list
    ≡ numbered_by_digest word number (outcome_or why (outcome_from (after seen bytes) list))
met_judged word number seen bytes list None small = met_raised word number (outcome_from (after seen bytes) list)
met_judged word number seen bytes list (Some why) small =
    ap (λ (n : ℕ). line_of (codes "refused" ∷ word ∷ decimal n ∷ refusal_words why))
    (this_number number (2 ^ 64 - 1) small)

met_datagram : (word : List ℕ) (number : ℕ) (seen : Seen) (before : Option RefusedDatagram) (bytes : List ℕ)
    (list : List (List ℕ)) → number ≤ 2 ^ 64 - 1 →
    met_after word (one_more number) (added_to seen before number bytes) list ≡ met word number seen before (bytes ∷ list)
unfolding outcome_from
met_datagram word number seen (Some datagram) bytes list small = refl
met_datagram word number seen None bytes list small =
    met_judged word number seen bytes list (refusal seen bytes) small

met_all : (word : List ℕ) (number : ℕ) (j : Judgement) (list : List (List ℕ)) → number ≤ 2 ^ 64 - 1 →
    judged_by_digest (counted word) (all_added j number list) ≡ met_after word number j list
unfolding all_added
met_all word number j [] small = met_nothing word number j.seen j.refused
met_all word number j (bytes ∷ list) small =
    met_all word (one_more number) (added_to j.seen j.refused number bytes) list (next_small number)
    ∙ met_datagram word number j.seen j.refused bytes list small

-- ---- digested datagrams

-- The judge has the digested datagrams.
pub digested_all : {S : Type 0} (judging : Judging S) (key : List ℕ) (s : S) (list : List (ℕ × List ℕ)) →
    (all_judged (digested_judging judging) (record { key = key; judge = s }) list).judge
    ≡ all_judged judging s (digested_numbered key list)
unfolding all_judged
digested_all judging key s [] = refl
digested_all judging key s (datagram ∷ list) =
    digested_all judging key (judging.added s datagram.0 (digested key datagram.1)) list

-- A judge of one session has the digested datagrams with their numbers.
numbered_all : (key : List ℕ) (j : Judgement) (number : ℕ) (list : List (List ℕ)) →
    all_judged digest_judging j (digested_numbered key (with_numbers number list))
    ≡ all_added j number (digested_list key list)
unfolding all_judged all_added with_numbers
numbered_all key j number [] = refl
numbered_all key j number (bytes ∷ list) =
    numbered_all key (added j number (digested key bytes)) (one_more number) list

-- The judgement of the digested datagrams.
judgement_all : (key : List ℕ) (list : List (List ℕ)) →
    (all_judged (digested_judging digest_judging) (digested_beginning key digest_judging) (with_numbers 1 list)).judge
    ≡ all_added no_judgement 1 (digested_list key list)
judgement_all key list =
    digested_all digest_judging key no_judgement (with_numbers 1 list) ∙ numbered_all key no_judgement 1 list

pub digested_text : (key word : List ℕ) (list : List (List ℕ)) →
    (digested_judging digest_judging).text (counted word)
    (all_judged (digested_judging digest_judging) (digested_beginning key digest_judging) (with_numbers 1 list))
    ≡ numbered_by_digest word 1 (outcome_of (digested_list key list))
digested_text key word list =
    ap (judged_by_digest (counted word)) (judgement_all key list)
    ∙ met_all word 1 no_judgement (digested_list key list) (omega arith)

pub digested_status : (key : List ℕ) (list : List (List ℕ)) →
    (digested_judging digest_judging).status
    (all_judged (digested_judging digest_judging) (digested_beginning key digest_judging) (with_numbers 1 list))
    ≡ outcome_status (outcome_of (digested_list key list))
digested_status key list = ap judgement_status (judgement_all key list) ∙ all_status (digested_list key list)

-- ---- the outcome of the datagrams

pub outcome_or_conflict : {list : List (List ℕ)} (one other : Outcome) →
    ((one other : Outcome) → IsOutcome list one → IsOutcome list other → one ≡ other) → IsOutcome list other →
    (IsOutcome list one ⊎ ((index number : ℕ) × IsOutcome list (refused index (Conflict number)))) →
    (one ≡ other) ⊎ ((index number : ℕ) × (other ≡ refused index (Conflict number)))
outcome_or_conflict one other unique own (inl is) = inl (unique one other is own)
outcome_or_conflict one other unique own (inr is) =
    inr (is.0, is.1, unique other (refused is.0 (Conflict is.1)) own is.2)
