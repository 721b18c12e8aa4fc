-- Where the refused datagram of a check of captures is, and whether the captures have several sessions.
use Rattle.std.specs.Prelude.{◌≡◌, ℕ, ◌&&◌, ◌||◌, Bool, false, not, List, [], ◌∷◌, ◌++◌, codes, decimal}
use Rattle.std.specs.Prelude.{Option, None, Some, if◌then◌else◌}
use Rattle.std.specs.Str.{bytes_eq}
use Rattle.mold_check.specs.Judge.{Judging}
use Rattle.mold_devices.specs.Devices.{one_more}
use Rattle.mold_frame.specs.Carried.{Datagram}
use Rattle.mold_frame.specs.Link.{carried}
use Rattle.mold_pcap.specs.Captures.{Frame}
use Rattle.mold_pcap.specs.declared.time.FrameTime.{FrameTime}
use Rattle.mold_wire.specs.Reading.{reading}
use Rattle.mold_wire.specs.declared.session.Session.{Session}
use Rattle.mold_capture_commands.specs.Address.{endpoint_text}
use Rattle.mold_capture_commands.specs.FrameChecking.{beginning, taken}
use Rattle.mold_capture_commands.specs.Filter.{Found, Passed, Skipped, Partial, Unread, found}
use Rattle.mold_capture_commands.specs.Pairs.{session_read}
use Rattle.mold_capture_commands.specs.Shown.{time_text}
use Rattle.mold_capture_commands.specs.declared.filter.CaptureFilter.{CaptureFilter}
use Rattle.mold_capture_commands.specs.declared.frame_check.FrameCheck.{FrameCheck}
use Rattle.mold_capture_commands.specs.declared.several.SessionsSeen.{SessionsSeen}

-- ---- the line

-- The number of the datagram, and that of its frame.
abbrev pub frame_words : ℕ → ℕ → List ℕ
frame_words number frame = (codes "datagram " ++ decimal number) ++ (codes " is frame " ++ decimal frame)

-- The time of the frame.
abbrev pub time_words : Option FrameTime → List ℕ
time_words time = codes " at " ++ time_text time

-- The destination of the datagram.
abbrev pub target_words : Datagram → List ℕ
target_words datagram = codes " to " ++ endpoint_text datagram.target datagram.target_port

-- The name of the file, and the end of the line.
abbrev pub name_words : List ℕ → List ℕ
name_words name = codes " of " ++ (name ++ codes "\n")

-- The line of a datagram: `datagram K is frame F at TIME to ADDR of NAME`.
unfoldable pub place_line : ℕ → ℕ → Option FrameTime → Datagram → List ℕ → List ℕ
place_line number frame time datagram name =
    (frame_words number frame ++ time_words time) ++ (target_words datagram ++ name_words name)

-- ---- several sessions

-- Whether both are sessions, and differ.
abbrev pub is_other : Option Session → Option Session → Bool
is_other None other = false
is_other (Some first) None = false
is_other (Some first) (Some other) = not (bytes_eq first.0 other.0)

-- The session of the first packet, if there was one before.
abbrev pub first_session : Option Session → Option Session → Option Session
first_session None session = session
first_session (Some first) session = Some first

-- Before the first datagram.
abbrev pub no_sessions_seen : SessionsSeen
no_sessions_seen = record { first = None; several = false }

-- After one more datagram, given its session, and whether the judge has decided. An accepted datagram has the session
-- of those before it, so only the refused one and later ones can have another.
abbrev pub session_seen : SessionsSeen → Bool → Option Session → SessionsSeen
session_seen s decided session = record {
  first = first_session s.first session;
  several = s.several || (decided && is_other s.first session);
}

-- ---- frame by frame

-- The state of a check that knows where the refused datagram is: the name of the current file, its frames so far, the
-- line of the refused datagram, and the sessions.
pub record LocatedState (S : Type 0) : Type 0 where
  pub check : FrameCheck S
  pub name : List ℕ
  pub frame : ℕ
  pub place : List ℕ
  pub sessions : SessionsSeen

-- Before the first frame, over a judge in this state.
abbrev pub nothing_located : {S : Type 0} → S → LocatedState S
nothing_located judge =
    record { check = beginning judge; name = []; frame = 0; place = []; sessions = no_sessions_seen }

-- Before the first frame of a file with this name.
abbrev pub name_begun : {S : Type 0} → LocatedState S → List ℕ → LocatedState S
name_begun s name = record { check = s.check; name = name; frame = 0; place = s.place; sessions = s.sessions }

-- Whether the judge has decided after one more frame.
abbrev pub decided_by : {S : Type 0} → Judging S → FrameCheck S → Found → Bool
decided_by judging check found = judging.decided (taken judging check found).judge

-- The line of a datagram by which the judge decides. Only a refusal decides.
abbrev pub place_of : {S : Type 0} → Judging S → LocatedState S → Option FrameTime → Found → List ℕ
place_of judging s time (Passed datagram) =
    if decided_by judging s.check (Passed datagram) && not (judging.decided s.check.judge)
    then place_line (one_more s.check.counts.datagrams) (one_more s.frame) time datagram s.name
    else []
place_of judging s time Skipped = []
place_of judging s time Partial = []
place_of judging s time Unread = []

-- The sessions after one more frame.
abbrev pub sessions_after : {S : Type 0} → Judging S → LocatedState S → Found → SessionsSeen
sessions_after judging s (Passed datagram) =
    session_seen s.sessions (decided_by judging s.check (Passed datagram)) (session_read (reading datagram.payload))
sessions_after judging s Skipped = s.sessions
sessions_after judging s Partial = s.sessions
sessions_after judging s Unread = s.sessions

-- The state after one more frame with this time, which counts as this.
abbrev pub located : {S : Type 0} → Judging S → LocatedState S → Option FrameTime → Found → LocatedState S
located judging s time found = record {
  check = taken judging s.check found;
  name = s.name;
  frame = one_more s.frame;
  place = s.place ++ place_of judging s time found;
  sessions = sessions_after judging s found;
}

-- The state after one more frame.
abbrev pub frame_located : {S : Type 0} → Judging S → CaptureFilter → LocatedState S → Frame → LocatedState S
frame_located judging filter s frame = located judging s frame.time (found filter (carried frame.link frame.bytes))

-- The state after the frames.
unfoldable pub all_located : {S : Type 0} → Judging S → CaptureFilter → LocatedState S → List Frame → LocatedState S
all_located judging filter s [] = s
all_located judging filter s (frame ∷ frames) = all_located judging filter (frame_located judging filter s frame) frames

-- Of these frames, those up to some frame were taken.
pub record LocatesPart {S : Type 0} (judging : Judging S) (filter : CaptureFilter) (old new : LocatedState S)
    (frames : List Frame) : Type 0 where
  pub list : List Frame
  pub rest : List Frame
  pub parts : frames ≡ list ++ rest
  pub taken : new ≡ all_located judging filter old list
