-- A check of captures, file by file.
use Rattle.std.proofs.Common.{◌≡◌, ℕ, suc, ◌+◌, ◌≤◌, Bool, true, false, ◌||◌, List, [], ◌∷◌, ◌++◌, length, refl, sym, ap, ◌∙◌, arith, append_assoc, append-nil}
use Rattle.std.specs.Prelude.{◌^◌, ◌-◌, min, is_some, codes, if◌then◌else◌}
use Rattle.std.specs.List.{filter}
use Rattle.mold_check.specs.CheckLines.{outcome_of}
use Rattle.mold_check.specs.EachCheck.{all_judged, each_judging, sessions_status, sessions_text, with_numbers}
use Rattle.mold_check.specs.Judge.{Judging}
use Rattle.mold_check.specs.Judgement.{Judgement, all_added, datagram_judging, judgement_status, judgement_text, no_judgement}
use Rattle.mold_check.specs.Judgement.{numbered_text}
use Rattle.mold_check.specs.Naming.{counted as named_by}
use Rattle.mold_check.specs.Report.{outcome_status}
use Rattle.mold_devices.specs.Devices.{one_more}
use Rattle.mold_frame.specs.Carried.{Carried}
use Rattle.mold_frame.specs.Link.{carried}
use Rattle.mold_pcap.specs.Captures.{Frame, capture_of}
use Rattle.mold_capture_commands.specs.Captures.{counts_of, faults_text, founds_of, has_fault, number_of, payloads}
use Rattle.mold_capture_commands.specs.Checking.{CaptureFile, CheckState, all_files_taken, check_status, check_text, file_begun, file_taken}
use Rattle.mold_capture_commands.specs.Checking.{frames_of, no_captures}
use Rattle.mold_capture_commands.specs.FrameChecking.{all_taken, beginning, founds, taken}
use Rattle.mold_capture_commands.specs.RefusedAt.{LocatedState, all_located, frame_located}
use Rattle.mold_capture_commands.specs.Captures.{captures_status, captures_text, each_captures_status, each_captures_text}
use Rattle.mold_capture_commands.specs.Counts.{counts_text, is_partial, is_passed, is_skipped, is_unread, more_if, no_counts}
use Rattle.mold_capture_commands.specs.Faults.{fault_text}
use Rattle.mold_capture_commands.specs.Filter.{Found, Passed, Skipped, Partial, Unread, found}
use Rattle.mold_capture_commands.specs.declared.filter.CaptureFilter.{CaptureFilter}
use Rattle.mold_capture_commands.specs.declared.counts.CaptureCounts.{CaptureCounts}
use Rattle.mold_capture_commands.specs.declared.frame_check.FrameCheck.{FrameCheck}

-- ---- a frame

-- What a frame counts as that was read.
pub found_frame : (filter : CaptureFilter) (frame : Frame) (f : Found) (c : Carried) (link : ℕ) (bytes : List ℕ) →
    f ≡ found filter c → c ≡ carried link bytes → link ≡ frame.link → bytes ≡ frame.bytes →
    f ≡ found filter (carried frame.link frame.bytes)
found_frame filter frame f c link bytes is read at all =
    is ∙ ap (found filter) (read ∙ ap (λ (l : ℕ). carried l bytes) at ∙ ap (carried frame.link) all)

-- ---- the law: a list of frames

-- The number of frames of a kind, counted one by one.
abbrev pub folded : (Found → Bool) → ℕ → List Found → ℕ
folded test count [] = count
folded test count (found ∷ list) = folded test (more_if (test found) count) list

next_count : (count others most : ℕ) → min (min (count + 1) most + others) most ≡ min (count + suc others) most
next_count count others most = omega arith

more_small : (b : Bool) (count : ℕ) → count ≤ 2 ^ 64 - 1 → more_if b count ≤ 2 ^ 64 - 1
more_small true count small = omega arith
more_small false count small = small

folded_first : (b : Bool) (test : Found → Bool) (first : Found) (count : ℕ) (list : List Found) → test first ≡ b →
    min (more_if b count + length (filter test list)) (2 ^ 64 - 1) ≡ min (count + length (filter test (first ∷ list))) (2 ^ 64 - 1)
folded_first true test first count list is =
    next_count count (length (filter test list)) (2 ^ 64 - 1)
    ∙ ap (λ (b : Bool). min (count + length (if b then first ∷ filter test list else filter test list)) (2 ^ 64 - 1)) (sym is)
folded_first false test first count list is =
    ap (λ (b : Bool). min (count + length (if b then first ∷ filter test list else filter test list)) (2 ^ 64 - 1)) (sym is)

folded_is : (test : Found → Bool) (count : ℕ) (list : List Found) → count ≤ 2 ^ 64 - 1 →
    folded test count list ≡ min (count + length (filter test list)) (2 ^ 64 - 1)
folded_is test count [] small = omega (arith, small)
folded_is test count (first ∷ list) small =
    folded_is test (more_if (test first) count) list (more_small (test first) count small)
    ∙ folded_first (test first) test first count list refl

folded_all : (test : Found → Bool) (list : List Found) → folded test 0 list ≡ number_of test list
folded_all test list =
    folded_is test 0 list (omega arith)
    ∙ ap (λ (n : ℕ). min n (2 ^ 64 - 1))
    (let e : 0 + length (filter test list) ≡ length (filter test list) = omega arith in e)

-- The numbers of frames of each kind, counted one by one.
abbrev pub all_folded : CaptureCounts → List Found → CaptureCounts
all_folded counts list = record {
  datagrams = folded is_passed counts.datagrams list;
  skipped = folded is_skipped counts.skipped list;
  partial = folded is_partial counts.partial list;
  unread = folded is_unread counts.unread list;
}

pub all_folded_are : (list : List Found) → all_folded no_counts list ≡ counts_of list
all_folded_are list =
    ap (λ (n : ℕ). record { datagrams = n; skipped = folded is_skipped 0 list; partial = folded is_partial 0 list; unread = folded is_unread 0 list })
    (folded_all is_passed list)
    ∙ ap (λ (n : ℕ). record { datagrams = number_of is_passed list; skipped = n; partial = folded is_partial 0 list; unread = folded is_unread 0 list })
    (folded_all is_skipped list)
    ∙ ap (λ (n : ℕ). record { datagrams = number_of is_passed list; skipped = number_of is_skipped list; partial = n; unread = folded is_unread 0 list })
    (folded_all is_partial list)
    ∙ ap (λ (n : ℕ). record { datagrams = number_of is_passed list; skipped = number_of is_skipped list; partial = number_of is_partial list; unread = n })
    (folded_all is_unread list)

counts_folded : {S : Type 0} (judging : Judging S) (s : FrameCheck S) (list : List Found) →
    (all_taken judging s list).counts ≡ all_folded s.counts list
unfolding all_taken
counts_folded judging s [] = refl
counts_folded judging s (first ∷ list) = counts_folded judging (taken judging s first) list

counts_are : {S : Type 0} (judging : Judging S) (list : List Found) →
    (all_taken judging (beginning judging.begins) list).counts ≡ counts_of list
counts_are judging list = counts_folded judging (beginning judging.begins) list ∙ all_folded_are list

judgement_is : (s : FrameCheck Judgement) (list : List Found) →
    (all_taken datagram_judging s list).judge ≡ all_added s.judge (one_more s.counts.datagrams) (payloads list)
unfolding all_taken all_added payloads
judgement_is s [] = refl
judgement_is s (Passed datagram ∷ list) = judgement_is (taken datagram_judging s (Passed datagram)) list
judgement_is s (Skipped ∷ list) = judgement_is (taken datagram_judging s Skipped) list
judgement_is s (Partial ∷ list) = judgement_is (taken datagram_judging s Partial) list
judgement_is s (Unread ∷ list) = judgement_is (taken datagram_judging s Unread) list

-- The judge after the frames, whatever it finds.
judge_is : {S : Type 0} (judging : Judging S) (s : FrameCheck S) (list : List Found) →
    (all_taken judging s list).judge
    ≡ all_judged judging s.judge (with_numbers (one_more s.counts.datagrams) (payloads list))
unfolding all_taken all_judged with_numbers payloads
judge_is judging s [] = refl
judge_is judging s (Passed datagram ∷ list) = judge_is judging (taken judging s (Passed datagram)) list
judge_is judging s (Skipped ∷ list) = judge_is judging (taken judging s Skipped) list
judge_is judging s (Partial ∷ list) = judge_is judging (taken judging s Partial) list
judge_is judging s (Unread ∷ list) = judge_is judging (taken judging s Unread) list

-- ---- the law: a list of files

taken_append : {S : Type 0} (judging : Judging S) (s : FrameCheck S) (list more : List Found) →
    all_taken judging s (list ++ more) ≡ all_taken judging (all_taken judging s list) more
unfolding all_taken
taken_append judging s [] more = refl
taken_append judging s (first ∷ list) more = taken_append judging (taken judging s first) list more

-- The check of the frames does not depend on where they are.
check_is : {S : Type 0} (judging : Judging S) (filter : CaptureFilter) (s : LocatedState S) (frames : List Frame) →
    (all_located judging filter s frames).check ≡ all_taken judging s.check (founds filter frames)
unfolding all_taken all_located
check_is judging filter s [] = refl
check_is judging filter s (frame ∷ frames) = check_is judging filter (frame_located judging filter s frame) frames

pub frames_are : {S : Type 0} (judging : Judging S) (filter : CaptureFilter) (s : CheckState S) (files : List CaptureFile) →
    frames_of (all_files_taken judging filter s files) ≡ all_taken judging (frames_of s) (founds_of filter files)
unfolding all_taken all_files_taken
frames_are judging filter s [] = refl
frames_are {S} judging filter s (file ∷ files) =
    frames_are judging filter (file_taken judging filter s file.name file.bytes) files
    ∙ ap (λ (f : FrameCheck S). all_taken judging f (founds_of filter files))
    (check_is judging filter (file_begun s file.name) (capture_of file.bytes).frames)
    ∙ sym (taken_append judging (frames_of s) (founds filter (capture_of file.bytes).frames) (founds_of filter files))

faults_are : {S : Type 0} (judging : Judging S) (filter : CaptureFilter) (s : CheckState S) (files : List CaptureFile) →
    (all_files_taken judging filter s files).faults ≡ s.faults ++ faults_text files
unfolding all_files_taken
faults_are judging filter s [] = sym (append-nil s.faults)
faults_are judging filter s (file ∷ files) =
    faults_are judging filter (file_taken judging filter s file.name file.bytes) files
    ∙ append_assoc s.faults (fault_text file.name (capture_of file.bytes).fault) (faults_text files)

or_or : (a b c : Bool) → ((a || b) || c) ≡ (a || (b || c))
or_or true b c = refl
or_or false b c = refl

or_none : (a : Bool) → a ≡ (a || false)
or_none true = refl
or_none false = refl

at_fault_is : {S : Type 0} (judging : Judging S) (filter : CaptureFilter) (s : CheckState S) (files : List CaptureFile) →
    (all_files_taken judging filter s files).at_fault ≡ (s.at_fault || has_fault files)
unfolding all_files_taken
at_fault_is judging filter s [] = or_none s.at_fault
at_fault_is judging filter s (file ∷ files) =
    at_fault_is judging filter (file_taken judging filter s file.name file.bytes) files
    ∙ or_or s.at_fault (is_some (capture_of file.bytes).fault) (has_fault files)

-- The laws of mold_check that these proofs use.
abbrev pub TextLaw : Type 0
TextLaw = (word : List ℕ) (list : List (List ℕ)) →
    judgement_text word (all_added no_judgement 1 list) ≡ numbered_text word 1 (outcome_of list)

abbrev pub StatusLaw : Type 0
StatusLaw = (list : List (List ℕ)) → judgement_status (all_added no_judgement 1 list) ≡ outcome_status (outcome_of list)

abbrev pub EachTextLaw : Type 0
EachTextLaw = (names : ℕ → List ℕ) (list : List (ℕ × List ℕ)) →
    (each_judging datagram_judging).text names (all_judged (each_judging datagram_judging) (each_judging datagram_judging).begins list) ≡ sessions_text names list

abbrev pub EachStatusLaw : Type 0
EachStatusLaw = (list : List (ℕ × List ℕ)) →
    (each_judging datagram_judging).status (all_judged (each_judging datagram_judging) (each_judging datagram_judging).begins list) ≡ sessions_status list

-- The state after the files.
abbrev after_files : {S : Type 0} → Judging S → CaptureFilter → List CaptureFile → CheckState S
after_files judging filter files = all_files_taken judging filter (no_captures judging) files

counts_all : {S : Type 0} (judging : Judging S) (filter : CaptureFilter) (files : List CaptureFile) →
    (after_files judging filter files).counts ≡ counts_of (founds_of filter files)
counts_all {S} judging filter files =
    ap (λ (f : FrameCheck S). f.counts) (frames_are judging filter (no_captures judging) files)
    ∙ counts_are judging (founds_of filter files)

judgement_all : (filter : CaptureFilter) (files : List CaptureFile) →
    (after_files datagram_judging filter files).judge ≡ all_added no_judgement 1 (payloads (founds_of filter files))
judgement_all filter files =
    ap (λ (f : FrameCheck Judgement). f.judge) (frames_are datagram_judging filter (no_captures datagram_judging) files)
    ∙ judgement_is (beginning datagram_judging.begins) (founds_of filter files)

judge_all : {S : Type 0} (judging : Judging S) (filter : CaptureFilter) (files : List CaptureFile) →
    (after_files judging filter files).judge
    ≡ all_judged judging judging.begins (with_numbers 1 (payloads (founds_of filter files)))
judge_all {S} judging filter files =
    ap (λ (f : FrameCheck S). f.judge) (frames_are judging filter (no_captures judging) files)
    ∙ judge_is judging (beginning judging.begins) (founds_of filter files)

-- The text, given what the judge prints.
text_with : {S : Type 0} (judging : Judging S) (filter : CaptureFilter) (files : List CaptureFile) (text : List ℕ) →
    judging.text (named_by (codes "datagram")) (after_files judging filter files).judge ≡ text →
    check_text judging (after_files judging filter files)
    ≡ (counts_text (counts_of (founds_of filter files)) ++ faults_text files) ++ text
text_with judging filter files text is =
    let s = after_files judging filter files in
    let told = judging.text (named_by (codes "datagram")) s.judge in
    ap (λ (c : CaptureCounts). (counts_text c ++ s.faults) ++ told) (counts_all judging filter files)
    ∙ ap (λ (f : List ℕ). (counts_text (counts_of (founds_of filter files)) ++ f) ++ told)
    (faults_are judging filter (no_captures judging) files)
    ∙ ap (λ (t : List ℕ). (counts_text (counts_of (founds_of filter files)) ++ faults_text files) ++ t) is

-- The status, given that of the judge.
status_with : {S : Type 0} (judging : Judging S) (filter : CaptureFilter) (files : List CaptureFile) (status : ℕ) →
    judging.status (after_files judging filter files).judge ≡ status →
    check_status judging (after_files judging filter files) ≡ (if has_fault files then 2 else status)
status_with judging filter files status is =
    let s = after_files judging filter files in
    ap (λ (b : Bool). if b then 2 else judging.status s.judge) (at_fault_is judging filter (no_captures judging) files)
    ∙ ap (λ (n : ℕ). if has_fault files then 2 else n) is

pub text_is : TextLaw → (filter : CaptureFilter) (files : List CaptureFile) →
    check_text datagram_judging (after_files datagram_judging filter files) ≡ captures_text filter files
text_is law filter files =
    text_with datagram_judging filter files _
    (ap (judgement_text (codes "datagram")) (judgement_all filter files)
    ∙ law (codes "datagram") (payloads (founds_of filter files)))

pub status_is : StatusLaw → (filter : CaptureFilter) (files : List CaptureFile) →
    check_status datagram_judging (after_files datagram_judging filter files) ≡ captures_status filter files
status_is law filter files =
    status_with datagram_judging filter files _
    (ap judgement_status (judgement_all filter files) ∙ law (payloads (founds_of filter files)))

pub each_text_is : EachTextLaw → (filter : CaptureFilter) (files : List CaptureFile) →
    check_text (each_judging datagram_judging) (after_files (each_judging datagram_judging) filter files)
    ≡ each_captures_text filter files
each_text_is law filter files =
    let judging = each_judging datagram_judging in
    text_with judging filter files _
    (ap (judging.text (named_by (codes "datagram"))) (judge_all judging filter files)
    ∙ law (named_by (codes "datagram")) (with_numbers 1 (payloads (founds_of filter files))))

pub each_status_is : EachStatusLaw → (filter : CaptureFilter) (files : List CaptureFile) →
    check_status (each_judging datagram_judging) (after_files (each_judging datagram_judging) filter files)
    ≡ each_captures_status filter files
each_status_is law filter files =
    let judging = each_judging datagram_judging in
    status_with judging filter files _
    (ap judging.status (judge_all judging filter files) ∙ law (with_numbers 1 (payloads (founds_of filter files))))
