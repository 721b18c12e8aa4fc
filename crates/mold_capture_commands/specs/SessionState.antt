-- The state of a `Sessions`.
use Rattle.std.specs.Prelude.{◌≡◌, ℕ, ◌||◌, Bool, true, false, min, max, List, [], ◌∷◌, ◌++◌, is_some, if◌then◌else◌}
use Rattle.std.specs.Prelude.{None, Result, ⊤}
use Rattle.std.specs.List.{flat_map}
use Rattle.mold_devices.specs.Devices.{one_more}
use Rattle.mold_frame.specs.Addresses.{IsAddress}
use Rattle.mold_pcap.specs.Captures.{Capture, Frame, capture_of}
use Rattle.mold_wire.specs.Reading.{reading}
use Rattle.mold_wire.specs.declared.error.DecodeError.{DecodeError}
use Rattle.mold_wire.specs.declared.packet.Packet.{Packet}
use Rattle.mold_capture_commands.specs.Checking.{CaptureFile}
use Rattle.mold_capture_commands.specs.FrameChecking.{founds}
use Rattle.mold_capture_commands.specs.Counts.{counted, more_if, no_counts, others_text}
use Rattle.mold_capture_commands.specs.Faults.{fault_text, unread_text}
use Rattle.mold_capture_commands.specs.Filter.{Found, Passed, Skipped, Partial, Unread}
use Rattle.mold_capture_commands.specs.Pairs.{carried_numbers, end_numbers, greatest, is_heartbeat, joint, last}
use Rattle.mold_capture_commands.specs.Pairs.{later, least, pair_of, same_pair}
use Rattle.mold_capture_commands.specs.Sessions.{pair_text}
use Rattle.mold_capture_commands.specs.declared.filter.CaptureFilter.{CaptureFilter}
use Rattle.mold_capture_commands.specs.declared.pair.Pair.{Pair}
use Rattle.mold_capture_commands.specs.declared.pair_tally.PairTally.{PairTally}
use Rattle.mold_capture_commands.specs.declared.session_frames.SessionFrames.{SessionFrames}

-- What is counted of no datagram.
abbrev pub no_tally : PairTally
no_tally = record { datagrams = 0; first = None; last = None; heartbeats = 0; end = None }

-- What is counted with one more datagram.
abbrev pub tally_more : PairTally → Result Packet DecodeError → PairTally
tally_more tally read = record {
  datagrams = one_more tally.datagrams;
  first = joint min tally.first (least (carried_numbers read));
  last = joint max tally.last (greatest (carried_numbers read));
  heartbeats = more_if (is_heartbeat read) tally.heartbeats;
  end = joint later tally.end (last (end_numbers read));
}

-- The pairs with one more datagram. A new pair is the last one.
unfoldable pub lines_more : List (Pair × PairTally) → Pair → Result Packet DecodeError → List (Pair × PairTally)
lines_more [] pair read = (pair, tally_more no_tally read) ∷ []
lines_more (line ∷ lines) pair read =
    if same_pair pair line.0
    then (line.0, tally_more line.1 read) ∷ lines
    else line ∷ lines_more lines pair read

-- The pairs after one more frame.
abbrev pub lines_with : List (Pair × PairTally) → Found → List (Pair × PairTally)
lines_with lines (Passed datagram) = lines_more lines (pair_of datagram) (reading datagram.payload)
lines_with lines Skipped = lines
lines_with lines Partial = lines
lines_with lines Unread = lines

-- A datagram that passes has an address of 4 or 16 bytes as its destination.
abbrev pub HasTarget : Found → Type 0
HasTarget (Passed datagram) = IsAddress datagram.target
HasTarget Skipped = ⊤
HasTarget Partial = ⊤
HasTarget Unread = ⊤

-- Before the first frame.
abbrev pub nothing_counted : SessionFrames
nothing_counted = record { counts = no_counts; lines = [] }

-- What is counted after one more frame.
abbrev pub frame_counted : SessionFrames → Found → SessionFrames
frame_counted s found = record { counts = counted s.counts found; lines = lines_with s.lines found }

-- What is counted after the frames.
unfoldable pub all_counted : SessionFrames → List Found → SessionFrames
all_counted s [] = s
all_counted s (found ∷ list) = all_counted (frame_counted s found) list

-- Of these frames, those up to some frame were counted.
pub record CountsPart (filter : CaptureFilter) (old new : SessionFrames) (frames : List Frame) : Type 0 where
  pub list : List Frame
  pub rest : List Frame
  pub parts : frames ≡ list ++ rest
  pub counted : new ≡ all_counted old (founds filter list)

-- The state of a `Sessions`: what is counted of the frames, and the lines of the files at fault.
pub record SessionState : Type 0 where
  pub frames : SessionFrames
  pub faults : List ℕ
  pub at_fault : Bool

-- Before the first file.
abbrev pub no_sessions : SessionState
no_sessions = record { frames = nothing_counted; faults = []; at_fault = false }

-- The state after one more file, which leads to these counts and pairs.
abbrev pub sessions_with : SessionState → SessionFrames → List ℕ → Capture → SessionState
sessions_with s frames name capture = record {
  frames = frames;
  faults = s.faults ++ fault_text name capture.fault;
  at_fault = s.at_fault || is_some capture.fault;
}

-- The state after one more file, which has this name and these bytes.
abbrev pub sessions_taken : CaptureFilter → SessionState → List ℕ → List ℕ → SessionState
sessions_taken filter s name bytes =
    sessions_with s (all_counted s.frames (founds filter (capture_of bytes).frames)) name (capture_of bytes)

-- Of the frames of a file, those up to some frame were counted.
pub record SessionsPart (filter : CaptureFilter) (old new : SessionState) (frames : List Frame) : Type 0 where
  pub part : CountsPart filter old.frames new.frames frames
  pub faults : new.faults ≡ old.faults
  pub at_fault : new.at_fault ≡ old.at_fault

-- The state after a file with this name, which can't be read from this byte on. What was read of it counts before.
abbrev pub sessions_unread : SessionState → List ℕ → ℕ → SessionState
sessions_unread s name at = record { frames = s.frames; faults = s.faults ++ unread_text name at; at_fault = true }

-- The state after the files.
unfoldable pub all_sessions_taken : CaptureFilter → SessionState → List CaptureFile → SessionState
all_sessions_taken filter s [] = s
all_sessions_taken filter s (file ∷ files) =
    all_sessions_taken filter (sessions_taken filter s file.name file.bytes) files

-- The lines of the pairs.
abbrev pub lines_text : List (Pair × PairTally) → List ℕ
lines_text lines = flat_map (λ line. pair_text line.0 line.1) lines

-- What is printed after the last file.
abbrev pub state_text : SessionState → List ℕ
state_text s = lines_text s.frames.lines ++ (others_text s.frames.counts ++ s.faults)

-- The exit status after the last file.
abbrev pub state_status : SessionState → ℕ
state_status s = if s.at_fault then 2 else 0
