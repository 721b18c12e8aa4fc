-- What a check of datagrams prints.
use Rattle.std.proofs.Common.{◌≡◌, ℕ, zero, suc, ◌+◌, ◌≤◌, Bool, true, false, cond, List, [], ◌∷◌, ◌++◌, refl, sym, ap, subst, ◌∙◌, arith, append_assoc, append-nil, true≢false}
use Rattle.std.specs.Prelude.{Option, None, Some, is_some, Result, Ok, Err, IfOk, codes, decimal, min, ◌==◌, ◌^◌, ◌-◌}
use Rattle.std.specs.Io.KnownBytes.{Appends}
use Rattle.std.specs.List.{flat_map}
use Rattle.mold_capture.specs.Outcome.{Outcome, whole, incomplete, refused, outcome_in}
use Rattle.mold_capture.specs.Refusal.{refusal}
use Rattle.mold_capture.specs.Seen.{Seen, after}
use Rattle.mold_capture.specs.Verdict.{IsVerdict, lacks, missing_in}
use Rattle.mold_capture.specs.declared.verdict.Verdict.{Verdict}
use Rattle.mold_devices.specs.Devices.{one_more}
use Rattle.mold_devices.specs.declared.fault.CommandFault.{CommandFault}
use Rattle.mold_rule.specs.Ranges as lacking
use Rattle.mold_rule.specs.declared.refusal.Refusal.{Refusal}
use Rattle.mold_text.specs.Line.{after_space, joined, line_of}
use Rattle.mold_text.specs.Text.{refusal_words, refused_line}
use Rattle.mold_check.specs.CheckLines.{index_raised, outcome_at, outcome_from, outcome_of, outcome_or}
use Rattle.mold_check.specs.Judgement.{Judgement, added_to, all_added, found_status, found_text, judged_as, named_text}
use Rattle.mold_check.specs.Judgement.{judgement_status, judgement_text, no_judgement, numbered_text}
use Rattle.mold_check.specs.Naming.{counted}
use Rattle.mold_check.specs.Report.{outcome_status, outcome_text}
use Rattle.mold_check.specs.declared.refused_datagram.RefusedDatagram.{RefusedDatagram}
use Rattle.mold_check.proofs.VerdictLemmas.{NoneLacks, verdict_at}

-- ---- the text and the status of a check

-- What is printed by a check that refused nothing.
pub found_verdict : NoneLacks → (j : Judgement) (seen : Seen) (before : Option RefusedDatagram) (v : Verdict)
    (names : ℕ → List ℕ) → record { seen = seen; refused = before } ≡ j → before ≡ None → IsVerdict v seen →
    (outcome_text [] (outcome_in v) ≡ named_text names j) × (outcome_status (outcome_in v) ≡ judgement_status j)
found_verdict law j seen before v names same none is = (
  ap (outcome_text []) (verdict_at law seen v is)
      ∙ ap (found_text names seen) (sym none)
      ∙ ap (named_text names) same,
  ap outcome_status (verdict_at law seen v is) ∙ ap (found_status seen) (sym none) ∙ ap judgement_status same,
)

pub none_refused : (refused : Option RefusedDatagram) → is_some refused ≡ false → refused ≡ None
none_refused None h = refl
none_refused (Some datagram) h = absurd (true≢false h)

-- The same text and status, in other terms.
pub told_as : (old new : Option (List ℕ)) (r : Result ℕ CommandFault) (start text other : List ℕ) (status so : ℕ) →
    text ≡ other → status ≡ so → IfOk r (λ s. Appends old new (start ++ text) × (s ≡ status)) →
    IfOk r (λ s. Appends old new (start ++ other) × (s ≡ so))
told_as old new (Ok s) start text other status so is ends told =
    (subst (λ (t : List ℕ). Appends old new (start ++ t)) is told.0, told.1 ∙ ends)
told_as old new (Err e) start text other status so is ends told = tt

-- ---- names

-- The line of a refusal, from its words or from the name of the datagram.
pub named_line : (word : List ℕ) (number : ℕ) (words : List (List ℕ)) →
    line_of (codes "refused" ∷ word ∷ decimal number ∷ words) ≡ refused_line (counted word number ∷ words)
unfolding joined
named_line word number words =
    ap (λ (d : List ℕ). codes "refused" ++ (codes " " ++ (word ++ (codes " " ++ (d ++ flat_map after_space words)))) ++ codes "\n")
    (sym (append-nil (decimal number)))
    ∙ ap (λ (t : List ℕ). codes "refused" ++ (codes " " ++ t) ++ codes "\n")
    (sym (append_assoc word (codes " " ++ (decimal number ++ [])) (flat_map after_space words)))

-- ---- all datagrams

-- What is printed about datagrams that follow others, of which the first has the number `number`.
abbrev told : List ℕ → ℕ → Seen → Option RefusedDatagram → List (List ℕ) → List ℕ × ℕ
told word number seen (Some datagram) list =
    (line_of (codes "refused" ∷ word ∷ decimal datagram.number ∷ refusal_words datagram.why), 2)
told word number seen None list =
    (numbered_text word number (outcome_from seen list), outcome_status (outcome_from seen list))

abbrev told_after : List ℕ → ℕ → Judgement → List (List ℕ) → List ℕ × ℕ
told_after word number j list = told word number j.seen j.refused list

pub told_end : (word : List ℕ) (number : ℕ) (seen : Seen) (end : Option ℕ) →
    ◌≡◌ {A = List ℕ × ℕ} (outcome_text [] (outcome_at seen end), outcome_status (outcome_at seen end))
    (numbered_text word number (outcome_at seen end), outcome_status (outcome_at seen end))
told_end word number seen None = refl
told_end word number seen (Some zero) = refl
told_end word number seen (Some (suc messages)) = by_count (lacking.lacking (lacks seen.pairs) 1 messages == 0)
  where
    by_count : (b : Bool) →
        ◌≡◌ {A = List ℕ × ℕ} (
          outcome_text [] (cond b (whole messages) (incomplete (missing_in seen) (Some (suc messages)))),
          outcome_status (cond b (whole messages) (incomplete (missing_in seen) (Some (suc messages)))),
        ) (
          numbered_text word number (cond b (whole messages) (incomplete (missing_in seen) (Some (suc messages)))),
          outcome_status (cond b (whole messages) (incomplete (missing_in seen) (Some (suc messages)))),
        )
    by_count true = refl
    by_count false = refl

-- No datagram remains.
told_nothing : (word : List ℕ) (number : ℕ) (seen : Seen) (before : Option RefusedDatagram) →
    ◌≡◌ {A = List ℕ × ℕ} (found_text (counted word) seen before, found_status seen before)
    (told word number seen before [])
unfolding outcome_from
told_nothing word number seen (Some datagram) =
    ap (λ (t : List ℕ). (t, 2)) (sym (named_line word datagram.number (refusal_words datagram.why)))
told_nothing word number seen None = told_end word number seen seen.ended

next_number : (number index most : ℕ) → min (min (number + 1) most + index) most ≡ min (number + suc index) most
next_number number index most = omega arith

pub this_number : (number most : ℕ) → number ≤ most → number ≡ min (number + 0) most
this_number number most small = omega arith

-- An accepted datagram before the others raises the index of the refused one.
pub told_raised : (word : List ℕ) (number : ℕ) (outcome : Outcome) →
    ◌≡◌ {A = List ℕ × ℕ} (numbered_text word (one_more number) outcome, outcome_status outcome)
    (numbered_text word number (index_raised outcome), outcome_status (index_raised outcome))
told_raised word number (whole messages) = refl
told_raised word number (incomplete missing end) = refl
told_raised word number (refused index why) =
    ap (λ (n : ℕ). (line_of (codes "refused" ∷ word ∷ decimal n ∷ refusal_words why), 2))
    (next_number number index (2 ^ 64 - 1))

-- A datagram that is judged, given why it is refused.
told_judged : (word : List ℕ) (number : ℕ) (seen : Seen) (bytes : List ℕ) (list : List (List ℕ)) (why : Option Refusal) →
    number ≤ 2 ^ 64 - 1 →
    told_after word (one_more number) (judged_as seen number bytes why) list
    ≡ (
      numbered_text word number (outcome_or why (outcome_from (after seen bytes) list)),
      outcome_status (outcome_or why (outcome_from (after seen bytes) list)),
    )
told_judged word number seen bytes list None small = told_raised word number (outcome_from (after seen bytes) list)
told_judged word number seen bytes list (Some why) small =
    ap (λ (n : ℕ). (line_of (codes "refused" ∷ word ∷ decimal n ∷ refusal_words why), 2))
    (this_number number (2 ^ 64 - 1) small)

told_datagram : (word : List ℕ) (number : ℕ) (seen : Seen) (before : Option RefusedDatagram) (bytes : List ℕ)
    (list : List (List ℕ)) → number ≤ 2 ^ 64 - 1 →
    told_after word (one_more number) (added_to seen before number bytes) list ≡ told word number seen before (bytes ∷ list)
unfolding outcome_from
told_datagram word number seen (Some datagram) bytes list small = refl
told_datagram word number seen None bytes list small =
    told_judged word number seen bytes list (refusal seen bytes) small

pub next_small : (number : ℕ) → one_more number ≤ 2 ^ 64 - 1
next_small number = omega arith

told_all : (word : List ℕ) (number : ℕ) (j : Judgement) (list : List (List ℕ)) → number ≤ 2 ^ 64 - 1 →
    (judgement_text word (all_added j number list), judgement_status (all_added j number list))
    ≡ told_after word number j list
unfolding all_added
told_all word number j [] small = told_nothing word number j.seen j.refused
told_all word number j (bytes ∷ list) small =
    told_all word (one_more number) (added_to j.seen j.refused number bytes) list (next_small number)
    ∙ told_datagram word number j.seen j.refused bytes list small

pub all_text : (word : List ℕ) (list : List (List ℕ)) →
    judgement_text word (all_added no_judgement 1 list) ≡ numbered_text word 1 (outcome_of list)
all_text word list = ap (λ (p : List ℕ × ℕ). p.0) (told_all word 1 no_judgement list (omega arith))

pub all_status : (list : List (List ℕ)) →
    judgement_status (all_added no_judgement 1 list) ≡ outcome_status (outcome_of list)
all_status list = ap (λ (p : List ℕ × ℕ). p.1) (told_all [] 1 no_judgement list (omega arith))
