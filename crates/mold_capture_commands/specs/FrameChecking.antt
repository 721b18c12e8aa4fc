-- A check of the frames of captures, whose datagrams are judged by any judge.
use Rattle.std.specs.Prelude.{ℕ, Bool, List, [], ◌∷◌, map}
use Rattle.mold_check.specs.Judge.{Judging}
use Rattle.mold_devices.specs.Devices.{one_more}
use Rattle.mold_frame.specs.Link.{carried}
use Rattle.mold_pcap.specs.Captures.{Frame}
use Rattle.mold_capture_commands.specs.Counts.{counted, no_counts}
use Rattle.mold_capture_commands.specs.Filter.{Found, Passed, Skipped, Partial, Unread, found}
use Rattle.mold_capture_commands.specs.Targets.{TargetState, aimed, destination_of, no_targets}
use Rattle.mold_capture_commands.specs.declared.filter.CaptureFilter.{CaptureFilter}
use Rattle.mold_capture_commands.specs.declared.frame_check.FrameCheck.{FrameCheck}

-- Before the first frame, over a judge in this state.
abbrev pub beginning : {S : Type 0} → S → FrameCheck S
beginning judge = record { counts = no_counts; judge = judge; targets = no_targets }

-- The judge after one more frame. A datagram that passes has the number of such datagrams so far.
abbrev pub judged : {S : Type 0} → Judging S → S → ℕ → Found → S
judged judging judge number (Passed datagram) = judging.added judge number datagram.payload
judged judging judge number Skipped = judge
judged judging judge number Partial = judge
judged judging judge number Unread = judge

-- What is kept of the destinations after one more frame, given whether the judge had decided before and after it.
abbrev pub sent_to : TargetState → Bool → Bool → Found → TargetState
sent_to targets before after (Passed datagram) = aimed targets before after (destination_of datagram)
sent_to targets before after Skipped = targets
sent_to targets before after Partial = targets
sent_to targets before after Unread = targets

-- The state after one more frame.
abbrev pub taken : {S : Type 0} → Judging S → FrameCheck S → Found → FrameCheck S
taken judging s found = record {
  counts = counted s.counts found;
  judge = judged judging s.judge (one_more s.counts.datagrams) found;
  targets =
      sent_to s.targets (judging.decided s.judge)
      (judging.decided (judged judging s.judge (one_more s.counts.datagrams) found)) found;
}

-- The state after the frames.
unfoldable pub all_taken : {S : Type 0} → Judging S → FrameCheck S → List Found → FrameCheck S
all_taken judging s [] = s
all_taken judging s (found ∷ list) = all_taken judging (taken judging s found) list

-- What the frames count as.
abbrev pub founds : CaptureFilter → List Frame → List Found
founds filter frames = map (λ frame. found filter (carried frame.link frame.bytes)) frames
