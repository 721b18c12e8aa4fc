-- The text of a capture, frame by frame.
use Rattle.std.proofs.Common.{◌≡◌, ◌∙◌, ℕ, Bool, true, false, ◌||◌, List, [], ◌∷◌, ◌++◌, Option, None, Some, refl, sym, ap, subst, append_assoc, append-nil}
use Rattle.std.specs.Prelude.{IfSome, is_some, if◌then◌else◌}
use Rattle.std.specs.Io.KnownBytes.{Appends, prepend_known}
use Rattle.std.proofs.KnownBytes.{Appends-nil, Appends-trans}
use Rattle.mold_devices.specs.Devices.{AppendsPrefix}
use Rattle.mold_devices.specs.Writing.{Moves}
use Rattle.mold_devices.proofs.DeviceLemmas.{front_after, front_more}
use Rattle.mold_pcap.specs.Captures.{Capture, Frame, after_frame, capture_of, captured}
use Rattle.mold_pcap.specs.Formats.{FormatState, at_start}
use Rattle.mold_pcap.specs.Reading.{GivesEnd, GivesFrame}
use Rattle.mold_pcap.specs.declared.fault.CaptureFault.{CaptureFault}
use Rattle.mold_capture_commands.specs.Captures.{faults_text, has_fault}
use Rattle.mold_capture_commands.specs.CaptureShow.{ShowState, all_files_shown, capture_shown, nothing_shown, show_captures_status, show_captures_text, show_status, shown_text, shows_refused}
use Rattle.mold_capture_commands.specs.Checking.{CaptureFile}
use Rattle.mold_capture_commands.specs.Faults.{fault_text}
use Rattle.mold_capture_commands.specs.CaptureShow.{ending_of, frame_refused, frame_text, frames_refused, frames_text}
use Rattle.mold_capture_commands.specs.declared.filter.CaptureFilter.{CaptureFilter}
use Rattle.mold_capture_commands.specs.declared.frame_show.Ending.{Ending}
use Rattle.mold_capture_commands.specs.declared.frame_show.Unsent.{Unsent}

-- A moment of a run: what the sink holds, the text that is not written yet, whether a datagram was refused.
pub record Moment : Type 0 where
  pub held : Option (List ℕ)
  pub text : List ℕ
  pub refused : Bool

-- The moment with this text and flag.
abbrev pub moment : Option (List ℕ) → Unsent → Moment
moment held unsent = record { held = held; text = unsent.text.items; refused = unsent.refused }

-- The text of the whole capture is what was written, the unwritten text, and that of the remaining frames.
pub record PrintedOf (filter : CaptureFilter) (held : Option (List ℕ)) (now : Moment) (whole rest : Capture) : Type 0 where
  pub written : List ℕ
  pub sent : Appends held now.held written
  pub parts : frames_text filter whole.frames ≡ written ++ (now.text ++ frames_text filter rest.frames)
  pub asked : frames_refused filter whole.frames ≡ (now.refused || frames_refused filter rest.frames)
  pub fault : whole.fault ≡ rest.fault

-- The same if the capture is known.
abbrev pub PrintedFor : CaptureFilter → Option (List ℕ) → Moment → Option (List ℕ) → FormatState → Option (List ℕ) → Type 0
PrintedFor filter held now None format left = Unit {0}
PrintedFor filter held now (Some input) format None = ⊥
PrintedFor filter held now (Some input) format (Some left) = PrintedOf filter held now (capture_of input) (captured format left)

pub record PrintedSoFar (filter : CaptureFilter) (held : Option (List ℕ)) (now : Moment) (known : Option (List ℕ))
    (format : FormatState) (left : Option (List ℕ)) : Type 0 where
  pub printed : PrintedFor filter held now known format left

-- Before the first frame.
pub printed_none : (filter : CaptureFilter) (held : Option (List ℕ)) (text : List ℕ) (known : Option (List ℕ))
    (format : FormatState) (rest : List ℕ) → text ≡ [] → format ≡ at_start → rest ≡ [] →
    PrintedSoFar filter held (record { held = held; text = text; refused = false }) known format (prepend_known rest known)
printed_none filter held text None format rest empty is none = record { printed = tt }
printed_none filter held text (Some input) format rest empty is none =
    let same : capture_of input ≡ captured format (rest ++ input) =
    ap (λ (b : List ℕ). captured at_start (b ++ input)) (sym none)
    ∙ ap (λ (f : FormatState). captured f (rest ++ input)) (sym is) in
    record {
      printed = record {
        written = [];
        sent = Appends-nil held;
        parts = ap (λ (c : Capture). frames_text filter c.frames) same
            ∙ ap (λ (t : List ℕ). t ++ frames_text filter (captured format (rest ++ input)).frames) (sym empty);
        asked = ap (λ (c : Capture). frames_refused filter c.frames) same;
        fault = ap (λ (c : Capture). c.fault) same;
      };
    }

or_or : (a b c : Bool) → (a || (b || c)) ≡ ((a || b) || c)
or_or true b c = refl
or_or false b c = refl

more_of : (filter : CaptureFilter) (held : Option (List ℕ)) (now next : Moment) (whole rest later : Capture) (frame : Frame) →
    PrintedOf filter held now whole rest → rest ≡ after_frame frame later → next.held ≡ now.held →
    next.text ≡ now.text ++ frame_text filter frame → next.refused ≡ (now.refused || frame_refused filter frame) →
    PrintedOf filter held next whole later
more_of filter held now next whole rest later frame so gives same text refused = record {
  written = so.written;
  sent = subst (λ (h : Option (List ℕ)). Appends held h so.written) (sym same) so.sent;
  parts =
      so.parts
      ∙ ap (λ (c : Capture). so.written ++ (now.text ++ frames_text filter c.frames)) gives
      ∙ ap (λ (t : List ℕ). so.written ++ t)
      (sym (append_assoc now.text (frame_text filter frame) (frames_text filter later.frames)))
      ∙ ap (λ (t : List ℕ). so.written ++ (t ++ frames_text filter later.frames)) (sym text);
  asked =
      so.asked
      ∙ ap (λ (c : Capture). now.refused || frames_refused filter c.frames) gives
      ∙ or_or now.refused (frame_refused filter frame) (frames_refused filter later.frames)
      ∙ ap (λ (b : Bool). b || frames_refused filter later.frames) (sym refused);
  fault = so.fault ∙ ap (λ (c : Capture). c.fault) gives;
}

more_for : (filter : CaptureFilter) (held : Option (List ℕ)) (now next : Moment) (known left behind : Option (List ℕ))
    (format later : FormatState) (frame : Frame) → PrintedFor filter held now known format left →
    GivesFrame format left frame later behind → next.held ≡ now.held →
    next.text ≡ now.text ++ frame_text filter frame → next.refused ≡ (now.refused || frame_refused filter frame) →
    PrintedFor filter held next known later behind
more_for filter held now next None left behind format later frame so gives same text refused = tt
more_for filter held now next (Some input) None behind format later frame so gives same text refused = absurd so
more_for filter held now next (Some input) (Some xs) None format later frame so gives same text refused = absurd gives
more_for filter held now next (Some input) (Some xs) (Some ys) format later frame so gives same text refused =
    more_of filter held now next (capture_of input) (captured format xs) (captured later ys) frame so gives same text refused

-- One more frame was printed.
pub printed_more : (filter : CaptureFilter) (held : Option (List ℕ)) (now next : Moment) (known left behind : Option (List ℕ))
    (format later : FormatState) (frame : Frame) → PrintedSoFar filter held now known format left →
    GivesFrame format left frame later behind → next.held ≡ now.held →
    next.text ≡ now.text ++ frame_text filter frame → next.refused ≡ (now.refused || frame_refused filter frame) →
    PrintedSoFar filter held next known later behind
printed_more filter held now next known left behind format later frame so gives same text refused = record {
  printed = more_for filter held now next known left behind format later frame so.printed gives same text refused;
}

moved_for : (filter : CaptureFilter) (held : Option (List ℕ)) (now next : Moment) (known left : Option (List ℕ))
    (format : FormatState) → PrintedFor filter held now known format left → Moves now.held next.held now.text next.text →
    next.refused ≡ now.refused → PrintedFor filter held next known format left
moved_for filter held now next None left format so moves same = tt
moved_for filter held now next (Some input) None format so moves same = absurd so
moved_for filter held now next (Some input) (Some xs) format so moves same =
    let rest = frames_text filter (captured format xs).frames in
    record {
      written = so.written ++ moves.front;
      sent = Appends-trans held now.held next.held so.written moves.front so.sent moves.appended;
      parts =
          so.parts
          ∙ ap (λ (t : List ℕ). so.written ++ (t ++ rest)) moves.parts
          ∙ ap (λ (t : List ℕ). so.written ++ t) (append_assoc moves.front next.text rest)
          ∙ sym (append_assoc so.written moves.front (next.text ++ rest));
      asked = so.asked ∙ ap (λ (b : Bool). b || frames_refused filter (captured format xs).frames) (sym same);
      fault = so.fault;
    }

-- A prefix of the unwritten text was written.
pub printed_moved : (filter : CaptureFilter) (held : Option (List ℕ)) (now next : Moment) (known left : Option (List ℕ))
    (format : FormatState) → PrintedSoFar filter held now known format left →
    Moves now.held next.held now.text next.text → next.refused ≡ now.refused →
    PrintedSoFar filter held next known format left
printed_moved filter held now next known left format so moves same =
    record { printed = moved_for filter held now next known left format so.printed moves same }

front_for : (filter : CaptureFilter) (held new : Option (List ℕ)) (now : Moment) (known left : Option (List ℕ))
    (format : FormatState) → PrintedFor filter held now known format left → AppendsPrefix now.held new now.text →
    IfSome known (λ input. AppendsPrefix held new (frames_text filter (capture_of input).frames))
front_for filter held new now None left format so front = tt
front_for filter held new now (Some input) None format so front = absurd so
front_for filter held new now (Some input) (Some xs) format so front =
    let rest = frames_text filter (captured format xs).frames in
    subst (AppendsPrefix held new) (sym so.parts)
    (front_after held now.held new so.written (now.text ++ rest) so.sent (front_more now.held new now.text rest front))

-- A prefix of the text of the capture was written.
pub printed_front : (filter : CaptureFilter) (held new : Option (List ℕ)) (now : Moment) (known left : Option (List ℕ))
    (format : FormatState) → PrintedSoFar filter held now known format left → AppendsPrefix now.held new now.text →
    IfSome known (λ input. AppendsPrefix held new (frames_text filter (capture_of input).frames))
printed_front filter held new now known left format so front =
    front_for filter held new now known left format so.printed front

or_none : (a : Bool) → (a || false) ≡ a
or_none true = refl
or_none false = refl

all_for : (filter : CaptureFilter) (held new : Option (List ℕ)) (now : Moment) (known left : Option (List ℕ))
    (format : FormatState) (fault : Option CaptureFault) → PrintedFor filter held now known format left →
    GivesEnd format left fault → Appends now.held new now.text →
    IfSome known (λ input. Appends held new (frames_text filter (capture_of input).frames)
    × (◌≡◌ {A = Ending} (record { refused = now.refused; fault = fault }) (ending_of filter (capture_of input))))
all_for filter held new now None left format fault so gives sent = tt
all_for filter held new now (Some input) None format fault so gives sent = absurd so
all_for filter held new now (Some input) (Some xs) format fault so gives sent =
    let asked : frames_refused filter (capture_of input).frames ≡ now.refused =
    so.asked ∙ ap (λ (c : Capture). now.refused || frames_refused filter c.frames) gives ∙ or_none now.refused in
    let why : (capture_of input).fault ≡ fault = so.fault ∙ ap (λ (c : Capture). c.fault) gives in (
      subst (Appends held new)
          (sym (so.parts
          ∙ ap (λ (c : Capture). so.written ++ (now.text ++ frames_text filter c.frames)) gives
          ∙ ap (λ (t : List ℕ). so.written ++ t) (append-nil now.text)))
          (Appends-trans held now.held new so.written now.text so.sent sent),
      sym (ap (λ (b : Bool). record { refused = b; fault = (capture_of input).fault }) asked
          ∙ ap (λ (f : Option CaptureFault). record { refused = now.refused; fault = f }) why),
    )

-- The whole text of the capture was written.
pub printed_all : (filter : CaptureFilter) (held new : Option (List ℕ)) (now : Moment) (known left : Option (List ℕ))
    (format : FormatState) (fault : Option CaptureFault) → PrintedSoFar filter held now known format left →
    GivesEnd format left fault → Appends now.held new now.text →
    IfSome known (λ input. Appends held new (frames_text filter (capture_of input).frames)
    × (◌≡◌ {A = Ending} (record { refused = now.refused; fault = fault }) (ending_of filter (capture_of input))))
printed_all filter held new now known left format fault so gives sent =
    all_for filter held new now known left format fault so.printed gives sent

-- ---- the law: a list of files

files_faults : (filter : CaptureFilter) (s : ShowState) (files : List CaptureFile) →
    (all_files_shown filter s files).faults ≡ s.faults ++ faults_text files
unfolding all_files_shown
files_faults filter s [] = sym (append-nil s.faults)
files_faults filter s (file ∷ files) =
    files_faults filter (capture_shown filter s file.name (capture_of file.bytes)) files
    ∙ append_assoc s.faults (fault_text file.name (capture_of file.bytes).fault) (faults_text files)

files_refused : (filter : CaptureFilter) (s : ShowState) (files : List CaptureFile) →
    (all_files_shown filter s files).refused ≡ (s.refused || shows_refused filter files)
unfolding all_files_shown
files_refused filter s [] = sym (or_none s.refused)
files_refused filter s (file ∷ files) =
    files_refused filter (capture_shown filter s file.name (capture_of file.bytes)) files
    ∙ sym (or_or s.refused (frames_refused filter (capture_of file.bytes).frames) (shows_refused filter files))

files_at_fault : (filter : CaptureFilter) (s : ShowState) (files : List CaptureFile) →
    (all_files_shown filter s files).at_fault ≡ (s.at_fault || has_fault files)
unfolding all_files_shown
files_at_fault filter s [] = sym (or_none s.at_fault)
files_at_fault filter s (file ∷ files) =
    files_at_fault filter (capture_shown filter s file.name (capture_of file.bytes)) files
    ∙ sym (or_or s.at_fault (is_some (capture_of file.bytes).fault) (has_fault files))

pub show_text_is : (filter : CaptureFilter) (files : List CaptureFile) →
    shown_text filter files ++ (all_files_shown filter nothing_shown files).faults ≡ show_captures_text filter files
show_text_is filter files = ap (λ (t : List ℕ). shown_text filter files ++ t) (files_faults filter nothing_shown files)

pub show_status_is : (filter : CaptureFilter) (files : List CaptureFile) →
    show_status (all_files_shown filter nothing_shown files) ≡ show_captures_status filter files
show_status_is filter files =
    let s = all_files_shown filter nothing_shown files in
    ap (λ (b : Bool). if b || s.at_fault then 2 else 0) (files_refused filter nothing_shown files)
    ∙ ap (λ (b : Bool). if shows_refused filter files || b then 2 else 0) (files_at_fault filter nothing_shown files)
