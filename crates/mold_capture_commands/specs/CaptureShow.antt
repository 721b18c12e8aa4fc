-- What `mold show --capture` prints for its files.
use Rattle.std.specs.Prelude.{ℕ, ◌||◌, Bool, true, false, List, [], ◌∷◌, ◌++◌, is_some, if◌then◌else◌}
use Rattle.std.specs.List.{flat_map, list_any}
use Rattle.mold_frame.specs.Link.{carried}
use Rattle.mold_pcap.specs.Captures.{Capture, Frame, capture_of}
use Rattle.mold_capture_commands.specs.Captures.{faults_text, has_fault}
use Rattle.mold_capture_commands.specs.Checking.{CaptureFile}
use Rattle.mold_capture_commands.specs.Faults.{fault_text, unread_text}
use Rattle.mold_capture_commands.specs.Filter.{found}
use Rattle.mold_capture_commands.specs.Shown.{found_refused, found_text}
use Rattle.mold_capture_commands.specs.declared.filter.CaptureFilter.{CaptureFilter}
use Rattle.mold_capture_commands.specs.declared.frame_show.Ending.{Ending}

-- What is printed for a frame.
abbrev pub frame_text : CaptureFilter → Frame → List ℕ
frame_text filter frame = found_text frame.time (found filter (carried frame.link frame.bytes))

-- Whether a frame has a datagram that passes and is refused.
abbrev pub frame_refused : CaptureFilter → Frame → Bool
frame_refused filter frame = found_refused (found filter (carried frame.link frame.bytes))

-- What is printed for frames.
abbrev pub frames_text : CaptureFilter → List Frame → List ℕ
frames_text filter frames = flat_map (frame_text filter) frames

-- Whether a datagram of the frames is refused.
abbrev pub frames_refused : CaptureFilter → List Frame → Bool
frames_refused filter frames = list_any (frame_refused filter) frames

-- What is known after a capture: whether a datagram was refused, and the fault of the capture.
abbrev pub ending_of : CaptureFilter → Capture → Ending
ending_of filter capture = record { refused = frames_refused filter capture.frames; fault = capture.fault }

-- ---- the state of a `CaptureShow`

-- Whether a datagram was refused, and the lines of the files at fault.
pub record ShowState : Type 0 where
  pub refused : Bool
  pub faults : List ℕ
  pub at_fault : Bool

-- Before the first file.
abbrev pub nothing_shown : ShowState
nothing_shown = record { refused = false; faults = []; at_fault = false }

-- The state after one more capture, which has this name.
abbrev pub capture_shown : CaptureFilter → ShowState → List ℕ → Capture → ShowState
capture_shown filter s name capture = record {
  refused = s.refused || frames_refused filter capture.frames;
  faults = s.faults ++ fault_text name capture.fault;
  at_fault = s.at_fault || is_some capture.fault;
}

-- The state after a capture with this name, which can't be read from this byte on.
abbrev pub capture_unread : ShowState → List ℕ → ℕ → ShowState
capture_unread s name at = record { refused = s.refused; faults = s.faults ++ unread_text name at; at_fault = true }

-- The state after the files.
unfoldable pub all_files_shown : CaptureFilter → ShowState → List CaptureFile → ShowState
all_files_shown filter s [] = s
all_files_shown filter s (file ∷ files) =
    all_files_shown filter (capture_shown filter s file.name (capture_of file.bytes)) files

-- The exit status after the last file.
abbrev pub show_status : ShowState → ℕ
show_status s = if s.refused || s.at_fault then 2 else 0

-- ---- the files as a whole

-- What is printed for the datagrams of the files.
abbrev pub shown_text : CaptureFilter → List CaptureFile → List ℕ
shown_text filter files = flat_map (λ file. frames_text filter (capture_of file.bytes).frames) files

-- What is printed for the files: their datagrams, and the lines of the files at fault.
abbrev pub show_captures_text : CaptureFilter → List CaptureFile → List ℕ
show_captures_text filter files = shown_text filter files ++ faults_text files

-- Whether a datagram of the files is refused.
abbrev pub shows_refused : CaptureFilter → List CaptureFile → Bool
shows_refused filter files = list_any (λ file. frames_refused filter (capture_of file.bytes).frames) files

-- The exit status: 2 if a datagram is refused or a file is at fault, otherwise 0.
abbrev pub show_captures_status : CaptureFilter → List CaptureFile → ℕ
show_captures_status filter files = if shows_refused filter files || has_fault files then 2 else 0
