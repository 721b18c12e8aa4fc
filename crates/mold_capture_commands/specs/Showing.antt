-- How the frames of a capture are printed one by one.
use Rattle.std.specs.Prelude.{◌≡◌, ◌||◌, ⊤, ◌<◌, ℕ, List, ◌++◌, Option}
use Rattle.mold_devices.specs.Lines.{work_left}
use Rattle.mold_pcap.specs.Captures.{Frame}
use Rattle.mold_pcap.specs.Formats.{FormatState}
use Rattle.mold_pcap.specs.Reading.{GivesEnd, GivesFrame}
use Rattle.mold_capture_commands.specs.CaptureShow.{frame_refused, frame_text}
use Rattle.mold_capture_commands.specs.declared.filter.CaptureFilter.{CaptureFilter}
use Rattle.mold_capture_commands.specs.declared.frame_show.Next.{Next}
use Rattle.mold_capture_commands.specs.declared.frame_show.Next.TheVariants.{Printed, Ended}
use Rattle.mold_capture_commands.specs.declared.frame_show.Unsent.{Unsent}

-- The text of the frame was appended, and its datagram counts as refused if it is.
pub record HasPrinted (filter : CaptureFilter) (frame : Frame) (old new : Unsent) : Type 0 where
  pub text : new.text.items ≡ old.text.items ++ frame_text filter frame
  pub refused : new.refused ≡ (old.refused || frame_refused filter frame)

-- The next frame of the capture was printed, or the capture has no further frame.
abbrev pub IsNext : Next → CaptureFilter → FormatState → Option (List ℕ) → Frame → FormatState → Option (List ℕ) →
    Unsent → Unsent → Type 0
IsNext Printed filter format known frame later left old new =
    GivesFrame format known frame later left × HasPrinted filter frame old new
IsNext (Ended fault) filter format known frame later left old new = GivesEnd format known fault × (new ≡ old)

-- There is less work than `before` if a frame was printed.
abbrev pub HasLess : Next → ℕ → List ℕ → ℕ → Type 0
HasLess Printed bound rest before = work_left bound rest < before
HasLess (Ended fault) bound rest before = ⊤
