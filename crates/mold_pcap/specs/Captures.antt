-- What a capture has.
use Rattle.std.specs.Prelude.{ℕ, zero, suc, ◌-◌, Bool, true, false, List, [], ◌∷◌, length, take, drop, Option, None}
use Rattle.std.specs.Prelude.{Some}
use Rattle.std.specs.Prelude.{nat_lt, ◌==◌, if◌then◌else◌}
use Rattle.mold_pcap.specs.Formats.{FormatState, at_start, ends}
use Rattle.mold_pcap.specs.Looks.{format_after, look, used_by}
use Rattle.mold_pcap.specs.Numbers.{number}
use Rattle.mold_pcap.specs.Times.{time_of}
use Rattle.mold_pcap.specs.declared.fault.CaptureFault.{CaptureFault}
use Rattle.mold_pcap.specs.declared.fault.CaptureFault.TheVariants.{BadBlock, Cut}
use Rattle.mold_pcap.specs.declared.look.Look.{Look}
use Rattle.mold_pcap.specs.declared.look.Look.TheVariants.{Short, Refused, Ended, Passed, Other, Framed}
use Rattle.mold_pcap.specs.declared.place.Place.{Place}
use Rattle.mold_pcap.specs.declared.time.FrameTime.{FrameTime}

-- A frame of a capture.
pub record Frame : Type 0 where
  -- the link type
  pub link : ℕ
  pub time : Option FrameTime
  pub bytes : List ℕ

-- The frame at a place of a part.
abbrev pub frame_at : Place → List ℕ → Frame
frame_at place bytes =
    record { link = place.link; time = time_of place.stamp; bytes = take place.len (drop place.start bytes) }

-- What a capture has: its frames, and why it does not go on, if it does not end after a part.
pub record Capture : Type 0 where
  pub frames : List Frame
  pub fault : Option CaptureFault

-- The capture without frames, with or without a fault.
abbrev pub no_frames : Option CaptureFault → Capture
no_frames fault = record { frames = []; fault = fault }

-- The capture with one more frame before its own.
abbrev pub after_frame : Frame → Capture → Capture
after_frame frame capture = record { frames = frame ∷ capture.frames; fault = capture.fault }

-- No bytes are there.
abbrev pub is_nil : List ℕ → Bool
is_nil [] = true
is_nil (byte ∷ bytes) = false

-- A block of another kind, with this total length, and the capture after it. The length is also in its last four bytes.
abbrev pub other_block : FormatState → ℕ → List ℕ → Capture → Capture
other_block format total bytes later =
    if nat_lt (length bytes) total then no_frames (Some (Cut format.at))
    else if number format.order 4 (drop (total - 4) bytes) == total then later
    else no_frames (Some (BadBlock format.at))

-- What a capture has from a part on, of which `later` comes after it.
abbrev pub captured_by : FormatState → List ℕ → Look → Capture → Capture
captured_by format bytes (Short need) later = no_frames (ends format.kind format.at (is_nil bytes))
captured_by format bytes (Refused why) later = no_frames (Some why)
captured_by format bytes Ended later = no_frames None
captured_by format bytes (Passed next used) later = later
captured_by format bytes (Other total) later = other_block format total bytes later
captured_by format bytes (Framed place used) later = after_frame (frame_at place bytes) later

-- What a capture has in at most this many parts.
abbrev pub captured_in : ℕ → FormatState → List ℕ → Capture
captured_in zero format bytes = no_frames (ends format.kind format.at (is_nil bytes))
captured_in (suc steps) format bytes = captured_by format bytes (look format bytes)
    (captured_in steps (format_after format (look format bytes)) (drop (used_by (look format bytes)) bytes))

-- What the rest of a capture has. A part has one byte or more.
unfoldable pub captured : FormatState → List ℕ → Capture
captured format bytes = captured_in (length bytes) format bytes

-- What a capture has.
abbrev pub capture_of : List ℕ → Capture
capture_of bytes = captured at_start bytes
