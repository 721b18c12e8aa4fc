-- What a check of several sessions prints, as a function of all datagrams.
use Rattle.std.proofs.Common.{◌≡◌, ℕ, suc, ◌+◌, ◌≤◌, false, cond, List, [], ◌∷◌, ◌++◌, map, length, refl, sym, ap, ◌∙◌, arith, append-nil}
use Rattle.std.specs.Prelude.{Option, None, Some, Result, Ok, Err, codes, min, ◌^◌, ◌-◌}
use Rattle.std.specs.List.{flat_map}
use Rattle.hex.specs.Hex.{decode_of}
use Rattle.hex.specs.declared.error.FromHexError.{FromHexError}
use Rattle.mold_capture.specs.Outcome.{Outcome, whole, incomplete, refused}
use Rattle.mold_capture.specs.Refusal.{refusal}
use Rattle.mold_capture.specs.Seen.{Seen, after}
use Rattle.mold_devices.specs.Devices.{one_more}
use Rattle.mold_devices.specs.Lines.{lines_of}
use Rattle.mold_rule.specs.declared.refusal.Refusal.{Refusal}
use Rattle.mold_check.specs.CheckLines.{count_line, index_raised, not_hex, not_hex_or, numbered, outcome_from, outcome_of}
use Rattle.mold_check.specs.CheckLines.{outcome_or}
use Rattle.mold_check.specs.Checking.{Checking, all_taken, beginning, checking_status, checking_text, judged_after}
use Rattle.mold_check.specs.Checking.{judged_digits, judged_status, judged_text, taken}
use Rattle.mold_check.specs.EachCheck.{EachState, all_judged, each_judging, each_text, entries_statuses, entries_text}
use Rattle.mold_check.specs.EachCheck.{entry_status_by, entry_text, greatest_status, key_of, more_refused, none_text}
use Rattle.mold_check.specs.EachCheck.{of_session, same_key, same_name, session_line, session_status, session_text, sessions_of}
use Rattle.mold_check.specs.EachCheck.{sessions_status, sessions_text}
use Rattle.mold_check.specs.EachLines.{each_lines_status, each_lines_status_by, each_lines_text, not_hex_line}
use Rattle.mold_check.specs.EachLines.{numbered_before, numbered_datagrams}
use Rattle.mold_check.specs.Judge.{Judging}
use Rattle.mold_check.specs.Judgement.{Judgement, datagram_judging, judged_as, judgement_status, named_text, no_judgement}
use Rattle.mold_check.specs.Judgement.{refused_text}
use Rattle.mold_check.specs.Naming.{counted}
use Rattle.mold_check.specs.Report.{outcome_status, outcome_text}
use Rattle.mold_check.specs.declared.refused_datagram.RefusedDatagram.{RefusedDatagram}
use Rattle.mold_check.specs.declared.session_key.SessionKey.{SessionKey}
use Rattle.mold_wire.specs.declared.limits.TheConstants.{MAX_NUMBER}
use Rattle.mold_wire.specs.declared.session.Session.{Session}
use Rattle.mold_check.proofs.EachLemmas.{same_key_law}
use Rattle.mold_check.proofs.GroupLemmas.{Grouping, all_stepped, entry_in, folded, own, stepped_are}
use Rattle.mold_check.proofs.LineLemmas.{count_input}

-- ---- one session

-- What is printed about datagrams that follow others.
abbrev told : (ℕ → List ℕ) → Seen → Option RefusedDatagram → List (ℕ × List ℕ) → List ℕ × ℕ
told names seen (Some datagram) list = (refused_text names datagram, 2)
told names seen None list = (
  outcome_text (map (λ d. names d.0) list) (outcome_from seen (map (λ d. d.1) list)),
  outcome_status (outcome_from seen (map (λ d. d.1) list)),
)

-- An accepted datagram before the others is not reported.
told_raised : (name : List ℕ) (names : List (List ℕ)) (outcome : Outcome) →
    ◌≡◌ {A = List ℕ × ℕ} (outcome_text names outcome, outcome_status outcome)
    (outcome_text (name ∷ names) (index_raised outcome), outcome_status (index_raised outcome))
told_raised name names (whole messages) = refl
told_raised name names (incomplete missing end) = refl
told_raised name names (refused index why) = refl

told_judged : (names : ℕ → List ℕ) (seen : Seen) (number : ℕ) (bytes : List ℕ) (list : List (ℕ × List ℕ))
    (why : Option Refusal) →
    told names (judged_as seen number bytes why).seen (judged_as seen number bytes why).refused list
    ≡ (
      outcome_text (names number ∷ map (λ d. names d.0) list)
          (outcome_or why (outcome_from (after seen bytes) (map (λ d. d.1) list))),
      outcome_status (outcome_or why (outcome_from (after seen bytes) (map (λ d. d.1) list))),
    )
told_judged names seen number bytes list None =
    told_raised (names number) (map (λ d. names d.0) list) (outcome_from (after seen bytes) (map (λ d. d.1) list))
told_judged names seen number bytes list (Some why) = refl

told_next : (names : ℕ → List ℕ) (seen : Seen) (before : Option RefusedDatagram) (d : ℕ × List ℕ) (list : List (ℕ × List ℕ)) →
    told names (datagram_judging.added (record { seen = seen; refused = before }) d.0 d.1).seen
    (datagram_judging.added (record { seen = seen; refused = before }) d.0 d.1).refused list
    ≡ told names seen before (d ∷ list)
unfolding outcome_from
told_next names seen (Some datagram) d list = refl
told_next names seen None d list = told_judged names seen d.0 d.1 list (refusal seen d.1)

told_nothing : (names : ℕ → List ℕ) (seen : Seen) (before : Option RefusedDatagram) →
    ◌≡◌ {A = List ℕ × ℕ} (
      named_text names (record { seen = seen; refused = before }),
      judgement_status (record { seen = seen; refused = before }),
    ) (told names seen before [])
unfolding outcome_from
told_nothing names seen (Some datagram) = refl
told_nothing names seen None = refl

told_all : (names : ℕ → List ℕ) (j : Judgement) (list : List (ℕ × List ℕ)) →
    ◌≡◌ {A = List ℕ × ℕ} (
      named_text names (all_judged datagram_judging j list),
      judgement_status (all_judged datagram_judging j list),
    ) (told names j.seen j.refused list)
unfolding all_judged
told_all names j [] = told_nothing names j.seen j.refused
told_all names j (d ∷ list) =
    told_all names (datagram_judging.added j d.0 d.1) list ∙ told_next names j.seen j.refused d list

pub named_text_is : (names : ℕ → List ℕ) (list : List (ℕ × List ℕ)) →
    named_text names (all_judged datagram_judging no_judgement list)
    ≡ outcome_text (map (λ d. names d.0) list) (outcome_of (map (λ d. d.1) list))
named_text_is names list = ap (λ (p : List ℕ × ℕ). p.0) (told_all names no_judgement list)

pub named_status_is : (list : List (ℕ × List ℕ)) →
    judgement_status (all_judged datagram_judging no_judgement list) ≡ outcome_status (outcome_of (map (λ d. d.1) list))
named_status_is list = ap (λ (p : List ℕ × ℕ). p.1) (told_all (λ number. []) no_judgement list)

-- ---- all sessions

abbrev sessions : {S : Type 0} → Judging S → Grouping SessionKey S (ℕ × List ℕ)
sessions judging = record {
  same = same_key;
  law = same_key_law;
  start = judging.begins;
  step = λ d s. judging.added s d.0 d.1;
  key = λ d. key_of d.1;
}

-- The number of datagrams that do not encode a packet, counted one by one.
abbrev counted_none : ℕ → List (ℕ × List ℕ) → ℕ
counted_none count [] = count
counted_none count (d ∷ list) = counted_none (more_refused (key_of d.1).session count) list

judged_stepped : {S : Type 0} (judging : Judging S) (s : EachState S) (list : List (ℕ × List ℕ)) →
    all_judged (each_judging judging) s list
    ≡ record { entries = all_stepped (sessions judging) s.entries list; refused = counted_none s.refused list }
unfolding all_judged
judged_stepped judging s [] = refl
judged_stepped judging s (d ∷ list) = judged_stepped judging ((each_judging judging).added s d.0 d.1) list

abbrev none_key : SessionKey
none_key = record { session = None }

count_more : (count others : ℕ) → min (one_more count + others) (2 ^ 64 - 1) ≡ min (count + suc others) (2 ^ 64 - 1)
count_more count others = omega arith

count_next : (session : Option Session) (count : ℕ) (d : ℕ × List ℕ) (list : List (ℕ × List ℕ)) →
    min (more_refused session count + length list) (2 ^ 64 - 1)
    ≡ min (count + length (cond (same_name session None) (d ∷ list) list)) (2 ^ 64 - 1)
count_next None count d list = count_more count (length list)
count_next (Some session) count d list = refl

more_small : (session : Option Session) (count : ℕ) → count ≤ 2 ^ 64 - 1 → more_refused session count ≤ 2 ^ 64 - 1
more_small None count small = omega arith
more_small (Some session) count small = small

none_counted : (count : ℕ) (list : List (ℕ × List ℕ)) → count ≤ 2 ^ 64 - 1 →
    counted_none count list ≡ min (count + length (of_session none_key list)) (2 ^ 64 - 1)
unfolding of_session same_key
none_counted count [] small = omega (arith, small)
none_counted count (d ∷ list) small =
    none_counted (more_refused (key_of d.1).session count) list (more_small (key_of d.1).session count small)
    ∙ count_next (key_of d.1).session count d (of_session none_key list)

none_count : (list : List (ℕ × List ℕ)) → counted_none 0 list ≡ min (length (of_session none_key list)) MAX_NUMBER
none_count list =
    none_counted 0 list (omega arith)
    ∙ ap (λ (n : ℕ). min n (2 ^ 64 - 1))
    (let e : 0 + length (of_session none_key list) ≡ length (of_session none_key list) = omega arith in e)

judged_folded : {S : Type 0} (judging : Judging S) (s : S) (list : List (ℕ × List ℕ)) →
    folded (sessions judging) s list ≡ all_judged judging s list
unfolding all_judged
judged_folded judging s [] = refl
judged_folded judging s (d ∷ list) = judged_folded judging (judging.added s d.0 d.1) list

-- The state of a session.
own_state : (key : SessionKey) (list : List (ℕ × List ℕ)) →
    folded (sessions datagram_judging) no_judgement (own (sessions datagram_judging) key list)
    ≡ all_judged datagram_judging no_judgement (of_session key list)
unfolding of_session
own_state key list = judged_folded datagram_judging no_judgement (own (sessions datagram_judging) key list)

text_one : (names : ℕ → List ℕ) (list : List (ℕ × List ℕ)) (session : Option Session) →
    entry_text datagram_judging names (counted_none 0 list) (entry_in (sessions datagram_judging) list (record { session = session }))
    ≡ session_text names list (record { session = session })
text_one names list None = ap none_text (none_count list)
text_one names list (Some session) =
    ap (λ (t : List ℕ). session_line session ++ t)
    (ap (named_text names) (own_state (record { session = Some session }) list)
    ∙ named_text_is names (of_session (record { session = Some session }) list))

text_in : (names : ℕ → List ℕ) (list : List (ℕ × List ℕ)) (keys : List SessionKey) →
    entries_text datagram_judging names (counted_none 0 list) (map (entry_in (sessions datagram_judging) list) keys)
    ≡ flat_map (session_text names list) keys
text_in names list [] = refl
text_in names list (key ∷ keys) =
    let one = text_one names list key.session in
    let others = text_in names list keys in
    (λ i. one i ++ others i)

status_one : (list : List (ℕ × List ℕ)) (session : Option Session) →
    entry_status_by datagram_judging session (entry_in (sessions datagram_judging) list (record { session = session })).1
    ≡ session_status list (record { session = session })
status_one list None = refl
status_one list (Some session) =
    ap judgement_status (own_state (record { session = Some session }) list)
    ∙ named_status_is (of_session (record { session = Some session }) list)

statuses_in : (list : List (ℕ × List ℕ)) (keys : List SessionKey) →
    entries_statuses datagram_judging (map (entry_in (sessions datagram_judging) list) keys)
    ≡ map (session_status list) keys
statuses_in list [] = refl
statuses_in list (key ∷ keys) =
    let one = status_one list key.session in
    let others = statuses_in list keys in
    (λ i. one i ∷ others i)

abbrev State : Type 0
State = EachState Judgement

-- Before the first datagram.
abbrev no_state : State
no_state = record { entries = []; refused = 0 }

pub each_text_is : (names : ℕ → List ℕ) (list : List (ℕ × List ℕ)) →
    each_text datagram_judging names (all_judged (each_judging datagram_judging) no_state list) ≡ sessions_text names list
each_text_is names list =
    ap (each_text datagram_judging names) (judged_stepped datagram_judging no_state list)
    ∙ ap (entries_text datagram_judging names (counted_none 0 list)) (stepped_are (sessions datagram_judging) list)
    ∙ text_in names list (sessions_of list)

pub each_status_is : (list : List (ℕ × List ℕ)) →
    greatest_status (entries_statuses datagram_judging (all_judged (each_judging datagram_judging) no_state list).entries)
    ≡ sessions_status list
each_status_is list =
    ap (λ (s : State). greatest_status (entries_statuses datagram_judging s.entries))
    (judged_stepped datagram_judging no_state list)
    ∙ ap (λ (entries : List (SessionKey × Judgement)). greatest_status (entries_statuses datagram_judging entries))
    (stepped_are (sessions datagram_judging) list)
    ∙ ap greatest_status (statuses_in list (sessions_of list))

-- ---- lines

abbrev after_lines : {S : Type 0} → Judging S → S → Option ℕ → List (ℕ × List ℕ) → S × Option ℕ
after_lines judging s (Some number) lines = (s, Some number)
after_lines judging s None lines = (all_judged judging s (numbered_datagrams lines), not_hex lines)

digits_next : {S : Type 0} (judging : Judging S) (s : S) (number : ℕ) (r : Result (List ℕ) FromHexError)
    (lines : List (ℕ × List ℕ)) →
    after_lines judging (judged_digits judging s number r).0 (judged_digits judging s number r).1 lines
    ≡ (
      all_judged judging s (numbered_before number r (numbered_datagrams lines)),
      not_hex_or number r (not_hex lines),
    )
unfolding all_judged
digits_next judging s number (Ok bytes) lines = refl
digits_next judging s number (Err error) lines = refl

line_next : {S : Type 0} (judging : Judging S) (s : S) (hex : Option ℕ) (number : ℕ) (digits : List ℕ)
    (lines : List (ℕ × List ℕ)) →
    after_lines judging (judged_after judging s hex false number digits).0
    (judged_after judging s hex false number digits).1 lines
    ≡ after_lines judging s hex ((number, digits) ∷ lines)
unfolding numbered_datagrams not_hex
line_next judging s (Some line) number digits lines = refl
line_next judging s None number digits lines = digits_next judging s number (decode_of digits) lines

no_line : {S : Type 0} (judging : Judging S) (s : S) (hex : Option ℕ) →
    ◌≡◌ {A = S × Option ℕ} (s, hex) (after_lines judging s hex [])
unfolding numbered_datagrams not_hex all_judged
no_line judging s (Some number) = refl
no_line judging s None = refl

lines_after : (s : Checking State) (lines : List (List ℕ)) →
    ◌≡◌ {A = State × Option ℕ} (
      (all_taken (each_judging datagram_judging) s lines).judge,
      (all_taken (each_judging datagram_judging) s lines).not_hex,
    ) (after_lines (each_judging datagram_judging) s.judge s.not_hex (numbered s.next lines))
unfolding all_taken taken numbered
lines_after s [] = no_line (each_judging datagram_judging) s.judge s.not_hex
lines_after s ([] ∷ lines) = lines_after (taken (each_judging datagram_judging) s []) lines
lines_after s ((byte ∷ bytes) ∷ lines) =
    lines_after (taken (each_judging datagram_judging) s (byte ∷ bytes)) lines
    ∙ line_next (each_judging datagram_judging) s.judge s.not_hex s.next (byte ∷ bytes) (numbered (one_more s.next) lines)

text_by : (list : List (ℕ × List ℕ)) (hex : Option ℕ) →
    judged_text (each_judging datagram_judging) (all_judged (each_judging datagram_judging) no_state list) hex
    ≡ sessions_text (counted (codes "line")) list ++ not_hex_line hex
text_by list None =
    each_text_is (counted (codes "line")) list ∙ sym (append-nil (sessions_text (counted (codes "line")) list))
text_by list (Some number) = ap (λ (t : List ℕ). t ++ not_hex_line (Some number)) (each_text_is (counted (codes "line")) list)

status_by : (list : List (ℕ × List ℕ)) (hex : Option ℕ) →
    judged_status (each_judging datagram_judging) (all_judged (each_judging datagram_judging) no_state list) hex
    ≡ each_lines_status_by list hex
status_by list None = each_status_is list
status_by list (Some number) = refl

pub each_input_text : (input : List ℕ) →
    checking_text (each_judging datagram_judging)
    (all_taken (each_judging datagram_judging) (beginning (each_judging datagram_judging)) (lines_of input))
    ≡ each_lines_text input
each_input_text input =
    let judging = each_judging datagram_judging in
    let s = all_taken judging (beginning judging) (lines_of input) in
    ap (λ (t : List ℕ). t ++ judged_text judging s.judge s.not_hex) (count_input judging input)
    ∙ ap (λ (t : List ℕ). count_line (length (numbered 1 (lines_of input))) ++ t)
    (ap (λ (p : State × Option ℕ). judged_text judging p.0 p.1) (lines_after (beginning judging) (lines_of input))
    ∙ text_by (numbered_datagrams (numbered 1 (lines_of input))) (not_hex (numbered 1 (lines_of input))))

pub each_input_status : (input : List ℕ) →
    checking_status (each_judging datagram_judging)
    (all_taken (each_judging datagram_judging) (beginning (each_judging datagram_judging)) (lines_of input))
    ≡ each_lines_status input
each_input_status input =
    let judging = each_judging datagram_judging in
    ap (λ (p : State × Option ℕ). judged_status judging p.0 p.1) (lines_after (beginning judging) (lines_of input))
    ∙ status_by (numbered_datagrams (numbered 1 (lines_of input))) (not_hex (numbered 1 (lines_of input)))
