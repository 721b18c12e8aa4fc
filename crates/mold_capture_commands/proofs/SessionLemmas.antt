-- The sessions of captures, file by file.
use Rattle.std.proofs.Common.{◌≡◌, ℕ, Bool, true, false, ◌||◌, List, [], ◌∷◌, ◌++◌, length, inl, inr, refl, sym, ap, ◌∙◌, append_assoc, append-nil}
use Rattle.std.specs.Prelude.{Option, None, Some, IfSome, is_some, if◌then◌else◌}
use Rattle.std.specs.Io.KnownBytes.{prepend_known}
use Rattle.mold_frame.specs.Addresses.{HasAddresses, IsAddress}
use Rattle.mold_frame.specs.Carried.{Carried, Datagram, Whole, Fragment, Cut, Other}
use Rattle.mold_frame.specs.Carried.{Unread as UnreadLink}
use Rattle.mold_frame.specs.Link.{carried}
use Rattle.mold_pcap.specs.Captures.{Frame, capture_of, captured}
use Rattle.mold_pcap.specs.Formats.{FormatState, at_start}
use Rattle.mold_pcap.specs.Reading.{GivesEnd, GivesFrame}
use Rattle.mold_pcap.specs.declared.fault.CaptureFault.{CaptureFault}
use Rattle.mold_capture_commands.specs.Captures.{faults_text, founds_of, has_fault}
use Rattle.mold_capture_commands.specs.Checking.{CaptureFile}
use Rattle.mold_capture_commands.specs.FrameChecking.{founds}
use Rattle.mold_capture_commands.specs.Counts.{others_text}
use Rattle.mold_capture_commands.specs.Faults.{fault_text}
use Rattle.mold_capture_commands.specs.Filter.{Found, Passed, Skipped, Partial, found, passes, passes_target}
use Rattle.mold_capture_commands.specs.SessionState.{CountsPart, HasTarget, SessionState, all_counted, all_sessions_taken, frame_counted, lines_text}
use Rattle.mold_capture_commands.specs.SessionState.{no_sessions, nothing_counted, sessions_taken, state_status, state_text}
use Rattle.mold_capture_commands.specs.Sessions.{sessions_status, sessions_text}
use Rattle.mold_capture_commands.specs.declared.filter.CaptureFilter.{CaptureFilter}
use Rattle.mold_capture_commands.specs.declared.session_frames.SessionFrames.{SessionFrames}
use Rattle.mold_capture_commands.proofs.CheckLemmas.{all_folded, all_folded_are}
use Rattle.mold_capture_commands.proofs.LineLemmas.{pairs_are}

-- ---- frames that were counted

-- The frames so far were counted, and the rest of them follow.
pub record CountedOf (filter : CaptureFilter) (start now : SessionFrames) (whole rest : List Frame) : Type 0 where
  pub list : List Frame
  pub parts : whole ≡ list ++ rest
  pub counted : now ≡ all_counted start (founds filter list)

-- The same for a capture, if it is known.
abbrev pub CountedSoFar : CaptureFilter → SessionFrames → SessionFrames → Option (List ℕ) → FormatState → Option (List ℕ) → Type 0
CountedSoFar filter start now None format left = Unit {0}
CountedSoFar filter start now (Some input) format None = ⊥
CountedSoFar filter start now (Some input) format (Some left) =
    CountedOf filter start now (capture_of input).frames (captured format left).frames
    × ((capture_of input).fault ≡ (captured format left).fault)

-- No frame was counted.
pub counted_none : (filter : CaptureFilter) (start : SessionFrames) (known : Option (List ℕ)) (format : FormatState)
    (rest : List ℕ) → format ≡ at_start → rest ≡ [] → CountedSoFar filter start start known format (prepend_known rest known)
unfolding all_counted
counted_none filter start None format rest is none = tt
counted_none filter start (Some input) format rest is none = (
  record {
    list = [];
    parts =
        ap (λ (b : List ℕ). (captured at_start b).frames) (ap (λ (r : List ℕ). r ++ input) (sym none))
        ∙ ap (λ (f : FormatState). (captured f (rest ++ input)).frames) (sym is);
    counted = refl;
  },
  ap (λ (b : List ℕ). (captured at_start b).fault) (ap (λ (r : List ℕ). r ++ input) (sym none))
      ∙ ap (λ (f : FormatState). (captured f (rest ++ input)).fault) (sym is),
)

counted_append : (s : SessionFrames) (list more : List Found) →
    all_counted s (list ++ more) ≡ all_counted (all_counted s list) more
unfolding all_counted
counted_append s [] more = refl
counted_append s (first ∷ list) more = counted_append (frame_counted s first) list more

founds_append : (filter : CaptureFilter) (list more : List Frame) →
    founds filter (list ++ more) ≡ founds filter list ++ founds filter more
founds_append filter [] more = refl
founds_append filter (first ∷ list) more =
    ap (λ (l : List Found). found filter (carried first.link first.bytes) ∷ l) (founds_append filter list more)

-- One more frame was counted.
pub counted_more : (filter : CaptureFilter) (start now next : SessionFrames) (known left behind : Option (List ℕ))
    (format later : FormatState) (frame : Frame) → CountedSoFar filter start now known format left →
    GivesFrame format left frame later behind → next ≡ frame_counted now (found filter (carried frame.link frame.bytes)) →
    CountedSoFar filter start next known later behind
unfolding all_counted
counted_more filter start now next None left behind format later frame so gives is = tt
counted_more filter start now next (Some input) None behind format later frame so gives is = absurd so
counted_more filter start now next (Some input) (Some xs) None format later frame so gives is = absurd gives
counted_more filter start now next (Some input) (Some xs) (Some ys) format later frame so gives is = (
  record {
    list = so.0.list ++ (frame ∷ []);
    parts =
        so.0.parts
        ∙ ap (λ c. so.0.list ++ c.frames) gives
        ∙ sym (append_assoc so.0.list (frame ∷ []) (captured later ys).frames);
    counted =
        is
        ∙ ap (λ (s : SessionFrames). frame_counted s (found filter (carried frame.link frame.bytes))) so.0.counted
        ∙ sym (counted_append start (founds filter so.0.list) (found filter (carried frame.link frame.bytes) ∷ []))
        ∙ ap (all_counted start) (sym (founds_append filter so.0.list (frame ∷ [])));
  },
  so.1 ∙ ap (λ c. c.fault) gives,
)

-- All frames were counted.
pub counted_all : (filter : CaptureFilter) (start now : SessionFrames) (known left : Option (List ℕ)) (format : FormatState)
    (fault : Option CaptureFault) → CountedSoFar filter start now known format left → GivesEnd format left fault →
    IfSome known (λ input. (now ≡ all_counted start (founds filter (capture_of input).frames)) × (fault ≡ (capture_of input).fault))
counted_all filter start now None left format fault so gives = tt
counted_all filter start now (Some input) None format fault so gives = absurd so
counted_all filter start now (Some input) (Some xs) format fault so gives = (
  so.0.counted
      ∙ ap (λ (l : List Frame). all_counted start (founds filter l))
      (sym (so.0.parts ∙ ap (λ c. so.0.list ++ c.frames) gives ∙ append-nil so.0.list)),
  sym (so.1 ∙ ap (λ c. c.fault) gives),
)

-- The frames so far were counted, and a read failed.
pub counted_part : (filter : CaptureFilter) (start now : SessionFrames) (known left : Option (List ℕ)) (format : FormatState) →
    CountedSoFar filter start now known format left →
    IfSome known (λ input. CountsPart filter start now (capture_of input).frames)
counted_part filter start now None left format so = tt
counted_part filter start now (Some input) None format so = absurd so
counted_part filter start now (Some input) (Some xs) format so = record {
  list = so.0.list;
  rest = (captured format xs).frames;
  parts = so.0.parts;
  counted = so.0.counted;
}

-- ---- the destination of a datagram

chosen_target : (b : Bool) (datagram : Datagram) → IsAddress datagram.target →
    HasTarget (if b then Passed datagram else Skipped)
chosen_target true datagram is = is
chosen_target false datagram is = tt

part_target : (b : Bool) → HasTarget (if b then Partial else Skipped)
part_target true = tt
part_target false = tt

same_length : (target source : List ℕ) → IsAddress source → length target ≡ length source → IsAddress target
same_length target source (inl four) same = inl (same ∙ four)
same_length target source (inr sixteen) same = inr (same ∙ sixteen)

pub found_target : (filter : CaptureFilter) (c : Carried) → HasAddresses c → HasTarget (found filter c)
found_target filter (Whole datagram) has =
    chosen_target (passes filter datagram) datagram (same_length datagram.target datagram.source has.0 has.1)
found_target filter (Fragment target) has = part_target (passes_target filter target.port target.address)
found_target filter (Cut target) has = part_target (passes_target filter target.port target.address)
found_target filter Other has = tt
found_target filter UnreadLink has = tt

-- ---- the law: a list of files

frames_all : (filter : CaptureFilter) (s : SessionState) (files : List CaptureFile) →
    (all_sessions_taken filter s files).frames ≡ all_counted s.frames (founds_of filter files)
unfolding all_counted all_sessions_taken
frames_all filter s [] = refl
frames_all filter s (file ∷ files) =
    frames_all filter (sessions_taken filter s file.name file.bytes) files
    ∙ sym (counted_append s.frames (founds filter (capture_of file.bytes).frames) (founds_of filter files))

counts_folded : (s : SessionFrames) (list : List Found) → (all_counted s list).counts ≡ all_folded s.counts list
unfolding all_counted
counts_folded s [] = refl
counts_folded s (first ∷ list) = counts_folded (frame_counted s first) list

faults_all : (filter : CaptureFilter) (s : SessionState) (files : List CaptureFile) →
    (all_sessions_taken filter s files).faults ≡ s.faults ++ faults_text files
unfolding all_sessions_taken
faults_all filter s [] = sym (append-nil s.faults)
faults_all filter s (file ∷ files) =
    faults_all filter (sessions_taken filter s file.name file.bytes) files
    ∙ append_assoc s.faults (fault_text file.name (capture_of file.bytes).fault) (faults_text files)

or_or : (a b c : Bool) → ((a || b) || c) ≡ (a || (b || c))
or_or true b c = refl
or_or false b c = refl

or_none : (a : Bool) → a ≡ (a || false)
or_none true = refl
or_none false = refl

at_fault_all : (filter : CaptureFilter) (s : SessionState) (files : List CaptureFile) →
    (all_sessions_taken filter s files).at_fault ≡ (s.at_fault || has_fault files)
unfolding all_sessions_taken
at_fault_all filter s [] = or_none s.at_fault
at_fault_all filter s (file ∷ files) =
    at_fault_all filter (sessions_taken filter s file.name file.bytes) files
    ∙ or_or s.at_fault (is_some (capture_of file.bytes).fault) (has_fault files)

pub text_is : (filter : CaptureFilter) (files : List CaptureFile) →
    state_text (all_sessions_taken filter no_sessions files) ≡ sessions_text filter files
text_is filter files =
    let list = founds_of filter files in
    let frames = frames_all filter no_sessions files in
    let lines = ap (λ (s : SessionFrames). lines_text s.lines) frames ∙ pairs_are list in
    let others = ap (λ (s : SessionFrames). others_text s.counts) frames
    ∙ ap others_text (counts_folded nothing_counted list ∙ all_folded_are list) in
    let faults = faults_all filter no_sessions files in
    (λ i. lines i ++ (others i ++ faults i))

pub status_is : (filter : CaptureFilter) (files : List CaptureFile) →
    state_status (all_sessions_taken filter no_sessions files) ≡ sessions_status files
status_is filter files = ap (λ (b : Bool). if b then 2 else 0) (at_fault_all filter no_sessions files)
