-- What a check of lines reports, line by line.
use Rattle.std.proofs.Common.{◌≡◌, ℕ, zero, suc, ◌+◌, Bool, true, false, cond, List, [], ◌∷◌, ◌++◌, length}
use Rattle.std.proofs.Common.{refl, sym, ap, subst, ◌∙◌, arith, append_assoc}
use Rattle.std.specs.Prelude.{Option, None, Some, Result, Ok, Err, IfSome, IfOk, is_some, codes, decimal, ◌==◌, ◌^◌, ◌-◌, min}
use Rattle.std.specs.Io.KnownBytes.{Appends, prepend_known}
use Rattle.hex.specs.Hex.{decode_of}
use Rattle.hex.specs.declared.error.FromHexError.{FromHexError}
use Rattle.mold_capture.specs.Outcome.{Outcome, whole, incomplete, refused}
use Rattle.mold_capture.specs.Refusal.{refusal}
use Rattle.mold_capture.specs.Seen.{Seen, after}
use Rattle.mold_capture.specs.Verdict.{lacks, missing_in}
use Rattle.mold_devices.specs.Devices.{AppendsPrefix, one_more}
use Rattle.mold_devices.specs.declared.fault.CommandFault.{CommandFault}
use Rattle.mold_devices.specs.Lines.{lines_of, GivesLine}
use Rattle.mold_rule.specs.Ranges as lacking
use Rattle.mold_rule.specs.declared.refusal.Refusal.{Refusal}
use Rattle.mold_text.specs.Line.{line_of}
use Rattle.mold_text.specs.Text.{refused_line}
use Rattle.mold_check.specs.CheckLines.{outcome_at, outcome_from, outcome_or, index_raised, numbered, spelled_before}
use Rattle.mold_check.specs.CheckLines.{datagrams_of, not_hex_or, not_hex, line_name, names_of, count_line}
use Rattle.mold_check.specs.CheckLines.{lines_report, lines_status, check_text, check_status}
use Rattle.mold_check.specs.Checking.{Checking, beginning, judged_digits, judged_after, taken, all_taken}
use Rattle.mold_check.specs.Checking.{judged_text, judged_status, checking_text, checking_status, not_hex_text}
use Rattle.mold_check.specs.Judge.{Judging}
use Rattle.mold_check.specs.Judgement.{Judgement, datagram_judging, judged_as, no_judgement, refused_text}
use Rattle.mold_check.specs.Naming.{counted}
use Rattle.mold_check.proofs.JudgementLemmas.{named_line}
use Rattle.mold_check.specs.declared.refused_datagram.RefusedDatagram.{RefusedDatagram}

-- ---- what is reported about lines, and the status

abbrev told_of : List (List ℕ) → Outcome → Option ℕ → List ℕ × ℕ
told_of names outcome line = (lines_report names outcome line, lines_status outcome line)

-- What is reported about lines that follow checked ones.
abbrev told_behind : Seen → Option RefusedDatagram → Option ℕ → List (ℕ × List ℕ) → List ℕ × ℕ
told_behind seen before (Some number) lines = (refused_line (line_name number ∷ codes "NotHex" ∷ []), 2)
told_behind seen (Some datagram) None lines = (refused_text (counted (codes "line")) datagram, 2)
told_behind seen None None lines = told_of (names_of lines) (outcome_from seen (datagrams_of lines)) (not_hex lines)

abbrev told_next : Judgement × Option ℕ → List (ℕ × List ℕ) → List ℕ × ℕ
told_next judged lines = told_behind judged.0.seen judged.0.refused judged.1 lines

-- An accepted datagram before the others isn't reported.
told_one_behind : (name : List ℕ) (names : List (List ℕ)) (outcome : Outcome) (line : Option ℕ) →
    told_of names outcome line ≡ told_of (name ∷ names) (index_raised outcome) line
told_one_behind name names (whole messages) None = refl
told_one_behind name names (whole messages) (Some number) = refl
told_one_behind name names (incomplete missing end) None = refl
told_one_behind name names (incomplete missing end) (Some number) = refl
told_one_behind name names (refused index why) None = refl
told_one_behind name names (refused index why) (Some number) = refl

-- If a line isn't hexadecimal, it is reported instead of a verdict.
told_not_hex : (names : List (List ℕ)) (seen : Seen) (end : Option ℕ) (number : ℕ) →
    (refused_line (line_name number ∷ codes "NotHex" ∷ []), 2) ≡ told_of names (outcome_at seen end) (Some number)
told_not_hex names seen None number = refl
told_not_hex names seen (Some zero) number = refl
told_not_hex names seen (Some (suc messages)) number =
    by_count (lacking.lacking (lacks seen.pairs) 1 messages == 0)
  where
    by_count : (b : Bool) →
        (refused_line (line_name number ∷ codes "NotHex" ∷ []), 2)
        ≡ told_of names (cond b (whole messages) (incomplete (missing_in seen) (Some (suc messages)))) (Some number)
    by_count true = refl
    by_count false = refl

-- A line that encodes a datagram.
told_bytes : (seen : Seen) (number : ℕ) (bytes : List ℕ) (lines : List (ℕ × List ℕ)) (why : Option Refusal) →
    told_next (judged_as seen number bytes why, None) lines
    ≡ told_of (line_name number ∷ names_of lines) (outcome_or why (outcome_from (after seen bytes) (datagrams_of lines)))
    (not_hex lines)
told_bytes seen number bytes lines None =
    told_one_behind (line_name number) (names_of lines) (outcome_from (after seen bytes) (datagrams_of lines)) (not_hex lines)
told_bytes seen number bytes lines (Some why) = by_line (not_hex lines)
  where
    by_line : (line : Option ℕ) →
        told_next (judged_as seen number bytes (Some why), None) lines
        ≡ told_of (line_name number ∷ names_of lines) (refused 0 why) line
    by_line None = refl
    by_line (Some other) = refl

-- A line that isn't empty, given its decoded digits.
told_digits : (seen : Seen) (number : ℕ) (r : Result (List ℕ) FromHexError) (lines : List (ℕ × List ℕ)) →
    told_next (judged_digits datagram_judging (record { seen = seen; refused = None }) number r) lines
    ≡ told_of (line_name number ∷ names_of lines) (outcome_from seen (spelled_before r (datagrams_of lines)))
    (not_hex_or number r (not_hex lines))
unfolding outcome_from
told_digits seen number (Ok bytes) lines = told_bytes seen number bytes lines (refusal seen bytes)
told_digits seen number (Err error) lines =
    told_not_hex (line_name number ∷ names_of lines) seen seen.ended number

told_line : (seen : Seen) (before : Option RefusedDatagram) (hex : Option ℕ) (number : ℕ) (digits : List ℕ)
    (lines : List (ℕ × List ℕ)) →
    told_next (judged_after datagram_judging (record { seen = seen; refused = before }) hex (is_some before) number digits) lines
    ≡ told_behind seen before hex ((number, digits) ∷ lines)
unfolding names_of datagrams_of not_hex
told_line seen before (Some line) number digits lines = refl
told_line seen (Some datagram) None number digits lines = refl
told_line seen None None number digits lines = told_digits seen number (decode_of digits) lines

-- No line remains.
told_nothing : (seen : Seen) (before : Option RefusedDatagram) (hex : Option ℕ) → (
  judged_text datagram_judging (record { seen = seen; refused = before }) hex,
  judged_status datagram_judging (record { seen = seen; refused = before }) hex,
) ≡ told_behind seen before hex []
unfolding names_of datagrams_of not_hex outcome_from
told_nothing seen before (Some number) =
    ap (λ (t : List ℕ). (t, 2)) (named_line (codes "line") number (codes "NotHex" ∷ []))
told_nothing seen (Some datagram) None = refl
told_nothing seen None None = refl

-- ---- all lines

judged_all : (s : Checking Judgement) (lines : List (List ℕ)) →
    told_next ((all_taken datagram_judging s lines).judge, (all_taken datagram_judging s lines).not_hex) []
    ≡ told_next (s.judge, s.not_hex) (numbered s.next lines)
unfolding all_taken taken numbered
judged_all s [] = refl
judged_all s ([] ∷ lines) = judged_all (taken datagram_judging s []) lines
judged_all s ((byte ∷ bytes) ∷ lines) =
    judged_all (taken datagram_judging s (byte ∷ bytes)) lines
    ∙ told_line s.judge.seen s.judge.refused s.not_hex s.next (byte ∷ bytes) (numbered (one_more s.next) lines)

count_more : (datagrams behind most : ℕ) → min (min (datagrams + 1) most + behind) most ≡ min (datagrams + suc behind) most
count_more datagrams behind most = omega arith

count_all : {S : Type 0} (judging : Judging S) (s : Checking S) (lines : List (List ℕ)) →
    min (all_taken judging s lines).datagrams (2 ^ 64 - 1)
    ≡ min (s.datagrams + length (numbered s.next lines)) (2 ^ 64 - 1)
unfolding all_taken taken numbered
count_all judging s [] = ap (λ (n : ℕ). min n (2 ^ 64 - 1)) (let e : s.datagrams ≡ s.datagrams + 0 = omega arith in e)
count_all judging s ([] ∷ lines) = count_all judging (taken judging s []) lines
count_all judging s ((byte ∷ bytes) ∷ lines) =
    count_all judging (taken judging s (byte ∷ bytes)) lines
    ∙ count_more s.datagrams (length (numbered (one_more s.next) lines)) (2 ^ 64 - 1)

-- The line with the number of datagrams, for the whole input.
pub count_input : {S : Type 0} (judging : Judging S) (input : List ℕ) →
    count_line (all_taken judging (beginning judging) (lines_of input)).datagrams
    ≡ count_line (length (numbered 1 (lines_of input)))
count_input judging input =
    ap (λ (n : ℕ). line_of (codes "datagrams" ∷ decimal n ∷ []))
    (count_all judging (beginning judging) (lines_of input)
    ∙ ap (λ (n : ℕ). min n (2 ^ 64 - 1))
    (let e : 0 + length (numbered 1 (lines_of input)) ≡ length (numbered 1 (lines_of input)) = omega arith in e))

-- The state after the whole input.
abbrev after_input : List ℕ → Checking Judgement
after_input input = all_taken datagram_judging (beginning datagram_judging) (lines_of input)

-- What is reported for the whole input.
told_input : (input : List ℕ) → (
  judged_text datagram_judging (after_input input).judge (after_input input).not_hex,
  judged_status datagram_judging (after_input input).judge (after_input input).not_hex,
)
    ≡ told_next (no_judgement, None) (numbered 1 (lines_of input))
told_input input =
    let all = after_input input in
    told_nothing all.judge.seen all.judge.refused all.not_hex ∙ judged_all (beginning datagram_judging) (lines_of input)

pub input_text : (input : List ℕ) → checking_text datagram_judging (after_input input) ≡ check_text input
unfolding check_text
input_text input =
    let all = after_input input in
    ap (λ (t : List ℕ). t ++ judged_text datagram_judging all.judge all.not_hex) (count_input datagram_judging input)
    ∙ ap (λ (p : List ℕ × ℕ). count_line (length (numbered 1 (lines_of input))) ++ p.0) (told_input input)

pub input_status : (input : List ℕ) → checking_status datagram_judging (after_input input) ≡ check_status input
unfolding check_status
input_status input = ap (λ (p : List ℕ × ℕ). p.1) (told_input input)

-- ---- lines that were taken

-- Of the known input, some lines were taken. The remaining lines lead to the same state as all lines do.
abbrev pub TakenSoFar : {S : Type 0} → Judging S → Checking S → Checking S → Option (List ℕ) → Option (List ℕ) → Type 0
TakenSoFar judging start now None left = Unit {0}
TakenSoFar judging start now (Some input) None = ⊥
TakenSoFar judging start now (Some input) (Some left) =
    all_taken judging start (lines_of input) ≡ all_taken judging now (lines_of left)

-- No line was taken.
pub taken_none : {S : Type 0} (judging : Judging S) (start now : Checking S) (known : Option (List ℕ)) (rest : List ℕ) →
    rest ≡ [] → now ≡ start → TakenSoFar judging start now known (prepend_known rest known)
taken_none judging start now None rest none is = tt
taken_none {S} judging start now (Some input) rest none is =
    ap (λ (s : Checking S). all_taken judging s (lines_of input)) (sym is)
    ∙ ap (λ (r : List ℕ). all_taken judging now (lines_of (r ++ input))) (sym none)

-- One more line was taken.
pub taken_more : {S : Type 0} (judging : Judging S) (start now next : Checking S) (known left behind : Option (List ℕ))
    (line : List ℕ) → TakenSoFar judging start now known left → GivesLine left behind true line →
    next ≡ taken judging now line → TakenSoFar judging start next known behind
unfolding all_taken
taken_more judging start now next None left behind line so gives is = tt
taken_more judging start now next (Some input) None behind line so gives is = absurd so
taken_more judging start now next (Some input) (Some xs) None line so gives is = absurd gives
taken_more {S} judging start now next (Some input) (Some xs) (Some ys) line so gives is =
    so ∙ ap (all_taken judging now) gives ∙ ap (λ (s : Checking S). all_taken judging s (lines_of ys)) (sym is)

-- All lines were taken.
pub taken_all : {S : Type 0} (judging : Judging S) (start now : Checking S) (known left behind : Option (List ℕ))
    (line : List ℕ) → TakenSoFar judging start now known left → GivesLine left behind false line →
    IfSome known (λ input. now ≡ all_taken judging start (lines_of input))
unfolding all_taken
taken_all judging start now None left behind line so gives = tt
taken_all judging start now (Some input) None behind line so gives = absurd so
taken_all judging start now (Some input) (Some xs) None line so gives = absurd gives
taken_all judging start now (Some input) (Some xs) (Some ys) line so gives =
    sym (so ∙ ap (λ (bytes : List ℕ). all_taken judging now (lines_of bytes)) gives)

-- ---- texts

-- The whole text after the text at the start.
pub told_text : (start text : List ℕ) (count : ℕ) (told other : List ℕ) → start ≡ [] → text ≡ start ++ count_line count →
    told ≡ other → text ++ told ≡ count_line count ++ other
told_text start text count told other none is same =
    ap (λ (t : List ℕ). t ++ told) (is ∙ ap (λ (t : List ℕ). t ++ count_line count) none)
    ∙ ap (λ (t : List ℕ). count_line count ++ t) same

pub told_whole : (old new : Option (List ℕ)) (r : Result ℕ CommandFault) (text other : List ℕ) (status so : ℕ) →
    text ≡ other → status ≡ so → IfOk r (λ s. Appends old new text × (s ≡ status)) → IfOk r (λ s. Appends old new other × (s ≡ so))
told_whole old new (Ok s) text other status so is ends told = (subst (Appends old new) is told.0, told.1 ∙ ends)
told_whole old new (Err e) text other status so is ends told = tt

-- What is printed if a line is not hexadecimal, from the parts of the state.
pub early_text : {S : Type 0} (judging : Judging S) (s : Checking S) (next datagrams : ℕ) (judge : S) (hex : Option ℕ)
    (number : ℕ) (start text : List ℕ) →
    record { next = next; datagrams = datagrams; judge = judge; not_hex = hex } ≡ s → hex ≡ Some number → start ≡ [] →
    text ≡ start ++ count_line datagrams →
    (text ++ judging.early (counted (codes "line")) judge) ++ not_hex_text number ≡ checking_text judging s
early_text judging s next datagrams judge hex number start text view is none counts =
    append_assoc text (judging.early (counted (codes "line")) judge) (not_hex_text number)
    ∙ told_text start text datagrams _ _ none counts
    (ap (λ (h : Option ℕ). judged_text judging judge h) (sym is))
    ∙ ap (checking_text judging) view

-- ---- the whole input

pub lines_whole : (old new known : Option (List ℕ)) (s : Checking Judgement) (r : Result ℕ CommandFault) →
    IfSome known (λ input. s ≡ after_input input)
    → IfOk r (λ status. Appends old new (checking_text datagram_judging s) × (status ≡ checking_status datagram_judging s))
    → IfOk r (λ status. IfSome known (λ input. Appends old new (check_text input) × (status ≡ check_status input)))
lines_whole old new None s (Ok status) taken told = tt
lines_whole old new (Some input) s (Ok status) taken told = (
  subst (Appends old new) (ap (checking_text datagram_judging) taken ∙ input_text input) told.0,
  told.1 ∙ ap (checking_status datagram_judging) taken ∙ input_status input,
)
lines_whole old new known s (Err e) taken told = tt

pub lines_front : (old new known : Option (List ℕ)) (s : Checking Judgement) →
    IfSome known (λ input. s ≡ after_input input) → AppendsPrefix old new (checking_text datagram_judging s)
    → IfSome known (λ input. AppendsPrefix old new (check_text input))
lines_front old new None s taken told = tt
lines_front old new (Some input) s taken told =
    subst (AppendsPrefix old new) (ap (checking_text datagram_judging) taken ∙ input_text input) told
