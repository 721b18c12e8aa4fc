-- The state of a check of captures, whose datagrams are judged by any judge.
use Rattle.std.specs.Prelude.{◌≡◌, ℕ, ◌==◌, ◌&&◌, ◌||◌, not, Bool, true, false, List, [], ◌∷◌, ◌++◌, codes, is_some, if◌then◌else◌}
use Rattle.mold_check.specs.Judge.{Judging}
use Rattle.mold_check.specs.Naming.{counted as named_by}
use Rattle.mold_pcap.specs.Captures.{Capture, Frame, capture_of}
use Rattle.mold_capture_commands.specs.Counts.{counts_text, no_counts}
use Rattle.mold_capture_commands.specs.Faults.{fault_text, unread_text}
use Rattle.mold_capture_commands.specs.RefusedAt.{LocatedState, all_located, no_sessions_seen}
use Rattle.mold_capture_commands.specs.Targets.{TargetState, no_targets}
use Rattle.mold_capture_commands.specs.declared.counts.CaptureCounts.{CaptureCounts}
use Rattle.mold_capture_commands.specs.declared.filter.CaptureFilter.{CaptureFilter}
use Rattle.mold_capture_commands.specs.declared.frame_check.FrameCheck.{FrameCheck}
use Rattle.mold_capture_commands.specs.declared.several.SessionsSeen.{SessionsSeen}

-- The state of a `CaptureCheck`: the counts, the judge, the destinations, the line of the refused datagram, the
-- sessions, and the lines of the files at fault.
pub record CheckState (S : Type 0) : Type 0 where
  pub counts : CaptureCounts
  pub judge : S
  pub targets : TargetState
  pub place : List ℕ
  pub sessions : SessionsSeen
  pub faults : List ℕ
  pub at_fault : Bool

-- Before the first file, over a judge in this state.
abbrev pub no_captures_over : {S : Type 0} → S → CheckState S
no_captures_over judge = record {
  counts = no_counts;
  judge = judge;
  targets = no_targets;
  place = [];
  sessions = no_sessions_seen;
  faults = [];
  at_fault = false;
}

-- Before the first file, over a new judge.
abbrev pub no_captures : {S : Type 0} → Judging S → CheckState S
no_captures judging = no_captures_over judging.begins

-- The state of the frames.
abbrev pub frames_of : {S : Type 0} → CheckState S → FrameCheck S
frames_of s = record { counts = s.counts; judge = s.judge; targets = s.targets }

-- The state of the frames before those of a file with this name.
abbrev pub file_begun : {S : Type 0} → CheckState S → List ℕ → LocatedState S
file_begun s name =
    record { check = frames_of s; name = name; frame = 0; place = s.place; sessions = s.sessions }

-- The state after one more file, with these frames and this fault.
abbrev pub capture_taken : {S : Type 0} → CheckState S → LocatedState S → List ℕ → Capture → CheckState S
capture_taken s frames name capture = record {
  counts = frames.check.counts;
  judge = frames.check.judge;
  targets = frames.check.targets;
  place = frames.place;
  sessions = frames.sessions;
  faults = s.faults ++ fault_text name capture.fault;
  at_fault = s.at_fault || is_some capture.fault;
}

-- The state after one more file, which has this name and these bytes.
abbrev pub file_taken : {S : Type 0} → Judging S → CaptureFilter → CheckState S → List ℕ → List ℕ → CheckState S
file_taken judging filter s name bytes =
    capture_taken s (all_located judging filter (file_begun s name) (capture_of bytes).frames) name (capture_of bytes)

-- The state after these frames of a file of which a read failed.
abbrev pub part_taken : {S : Type 0} → CheckState S → LocatedState S → CheckState S
part_taken s frames = record {
  counts = frames.check.counts;
  judge = frames.check.judge;
  targets = frames.check.targets;
  place = frames.place;
  sessions = frames.sessions;
  faults = s.faults;
  at_fault = s.at_fault;
}

-- Of the frames of a file with this name, those up to some frame were taken.
pub record TakesPart {S : Type 0} (judging : Judging S) (filter : CaptureFilter) (old new : CheckState S)
    (name : List ℕ) (frames : List Frame) : Type 0 where
  pub list : List Frame
  pub rest : List Frame
  pub parts : frames ≡ list ++ rest
  pub taken : new ≡ part_taken old (all_located judging filter (file_begun old name) list)

-- The state after a file with this name, which can't be read from this byte on. What was read of it counts before.
abbrev pub file_unread : {S : Type 0} → CheckState S → List ℕ → ℕ → CheckState S
file_unread s name at = record {
  counts = s.counts;
  judge = s.judge;
  targets = s.targets;
  place = s.place;
  sessions = s.sessions;
  faults = s.faults ++ unread_text name at;
  at_fault = true;
}

-- A file: its name and its bytes.
pub record CaptureFile : Type 0 where
  pub name : List ℕ
  pub bytes : List ℕ

-- The state after the files.
unfoldable pub all_files_taken : {S : Type 0} → Judging S → CaptureFilter → CheckState S → List CaptureFile → CheckState S
all_files_taken judging filter s [] = s
all_files_taken judging filter s (file ∷ files) =
    all_files_taken judging filter (file_taken judging filter s file.name file.bytes) files

-- What is printed after the last file. The judge names a datagram by its number among those that pass.
abbrev pub check_text : {S : Type 0} → Judging S → CheckState S → List ℕ
check_text judging s = (counts_text s.counts ++ s.faults) ++ judging.text (named_by (codes "datagram")) s.judge

-- Whether a session is whole although partial datagrams were left out.
abbrev pub leaves_out_partial : {S : Type 0} → Judging S → CheckState S → Bool
leaves_out_partial judging s = not (s.counts.partial == 0) && judging.whole s.judge

-- The exit status after the last file.
abbrev pub check_status : {S : Type 0} → Judging S → CheckState S → ℕ
check_status judging s = if s.at_fault then 2 else judging.status s.judge
