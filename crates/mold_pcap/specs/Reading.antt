-- How a capture is read frame by frame.
use Rattle.std.specs.Prelude.{◌≡◌, ℕ, ◌+◌, ◌<◌, ◌≤◌, List, [], length, drop, Option, None, Some, IfSome, Result, Ok}
use Rattle.std.specs.Prelude.{Err, ⊤}
use Rattle.std.specs.Io.KnownBytes.{prepend_known}
use Rattle.mold_devices.specs.Devices.{one_more}
use Rattle.mold_devices.specs.Lines.{work_left}
use Rattle.mold_pcap.specs.Captures.{Frame, after_frame, captured, frame_at, no_frames}
use Rattle.mold_pcap.specs.Formats.{FormatState}
use Rattle.mold_pcap.specs.declared.fault.CaptureError.{CaptureError}
use Rattle.mold_pcap.specs.declared.fault.CaptureError.TheVariants.{Read, Fault}
use Rattle.mold_pcap.specs.declared.fault.CaptureFault.{CaptureFault}
use Rattle.mold_pcap.specs.declared.kind.Kind.TheVariants.{Spent}
use Rattle.mold_pcap.specs.declared.step.Step.{Step}
use Rattle.mold_pcap.specs.declared.step.Step.TheVariants as step

-- The state of a reader.
pub record ReaderState : Type 0 where
  pub format : FormatState
  -- the frame that was read last, empty before the first one
  pub frame : Frame
  -- the bytes that were read from the source and belong to later parts
  pub rest : List ℕ

-- No frame: an empty one without a time.
abbrev pub no_frame : Frame
no_frame = record { link = 0; time = None; bytes = [] }

-- The reader reads nothing any more.
pub record IsSpent (reader : ReaderState) : Type 0 where
  pub spent : reader.format.kind ≡ Spent
  pub none : reader.frame ≡ no_frame

-- The capture goes on as another one. If its bytes are not known, the relation states nothing.
abbrev pub Leads : FormatState → Option (List ℕ) → FormatState → Option (List ℕ) → Type 0
Leads format None later left = ⊤
Leads format (Some bytes) later None = ⊥
Leads format (Some bytes) later (Some rest) = captured format bytes ≡ captured later rest

-- The next frame of the capture, and what it has after that.
abbrev pub GivesFrame : FormatState → Option (List ℕ) → Frame → FormatState → Option (List ℕ) → Type 0
GivesFrame format None frame later left = ⊤
GivesFrame format (Some bytes) frame later None = ⊥
GivesFrame format (Some bytes) frame later (Some rest) = captured format bytes ≡ after_frame frame (captured later rest)

-- The capture has no further frame. It ends, or it has a fault.
abbrev pub GivesEnd : FormatState → Option (List ℕ) → Option CaptureFault → Type 0
GivesEnd format known fault = IfSome known (λ bytes. captured format bytes ≡ no_frames fault)

-- The error is a failed read, or the fault of the capture, which has no further frame.
abbrev pub GivesFault : FormatState → Option (List ℕ) → CaptureError → Type 0
GivesFault format known Read = ⊤
GivesFault format known (Fault why) = GivesEnd format known (Some why)

-- The count of the source's failures after an error: one more for `Read`, otherwise unchanged.
abbrev pub CountsError : ℕ → ℕ → CaptureError → Type 0
CountsError old new Read = new ≡ one_more old
CountsError old new (Fault why) = new ≡ old

-- The count of the source's failures after a call: one more if the call returned `Read`, otherwise unchanged.
abbrev pub CountsCapture : {T : Type 0} → ℕ → ℕ → Result T CaptureError → Type 0
CountsCapture old new (Ok _) = new ≡ old
CountsCapture old new (Err error) = CountsError old new error

-- What one part of the capture gives: nothing but the parts after it, its end, or a frame, with which the window
-- begins.
abbrev pub IsStep : Step → FormatState → Option (List ℕ) → FormatState → List ℕ → Option (List ℕ) → Type 0
IsStep step.More format known later window left = Leads format known later (prepend_known window left)
IsStep step.End format known later window left = GivesEnd format known None
IsStep (step.Frame place used) format known later window left =
    GivesFrame format known (frame_at place window) later (prepend_known (drop used window) left)

-- A frame is in the window.
abbrev pub HasFrame : Step → List ℕ → Type 0
HasFrame step.More window = ⊤
HasFrame step.End window = ⊤
HasFrame (step.Frame place used) window = (used ≤ length window) × (place.start + place.len ≤ used)

-- After a part there is less work than `before`.
abbrev pub HasWorked : Step → ℕ → List ℕ → ℕ → Type 0
HasWorked step.More bound window before = work_left bound window < before
HasWorked step.End bound window before = ⊤
HasWorked (step.Frame place used) bound window before = work_left bound (drop used window) < before
