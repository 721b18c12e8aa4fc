-- What `mold check --capture` prints for its files.
use Rattle.std.specs.Prelude.{ℕ, zero, suc, min, Bool, false, List, [], ◌∷◌, ◌++◌, length, slice_index_or, codes}
use Rattle.std.specs.Prelude.{is_some, if◌then◌else◌}
use Rattle.std.specs.List.{filter, flat_map, list_any}
use Rattle.mold_capture.specs.Outcome.{Outcome, whole, incomplete, refused}
use Rattle.mold_check.specs.CheckLines.{outcome_of}
use Rattle.mold_check.specs.EachCheck.{sessions_status, sessions_text, with_numbers}
use Rattle.mold_check.specs.Judgement.{numbered_text}
use Rattle.mold_check.specs.Naming.{counted}
use Rattle.mold_check.specs.Report.{outcome_status}
use Rattle.mold_pcap.specs.Captures.{capture_of}
use Rattle.mold_wire.specs.declared.limits.TheConstants.{MAX_NUMBER}
use Rattle.mold_capture_commands.specs.Checking.{CaptureFile}
use Rattle.mold_capture_commands.specs.FrameChecking.{founds}
use Rattle.mold_capture_commands.specs.Counts.{counts_text, is_partial, is_passed, is_skipped, is_unread}
use Rattle.mold_capture_commands.specs.Faults.{fault_text}
use Rattle.mold_capture_commands.specs.Filter.{Found, Passed, Skipped, Partial, Unread}
use Rattle.mold_capture_commands.specs.Targets.{Destination, destination_of, differ}
use Rattle.mold_capture_commands.specs.declared.counts.CaptureCounts.{CaptureCounts}
use Rattle.mold_capture_commands.specs.declared.filter.CaptureFilter.{CaptureFilter}

-- What the frames of all files count as.
abbrev pub founds_of : CaptureFilter → List CaptureFile → List Found
founds_of filter files = flat_map (λ file. founds filter (capture_of file.bytes).frames) files

-- The payload of a datagram that passes, followed by others.
abbrev pub payload_before : Found → List (List ℕ) → List (List ℕ)
payload_before (Passed datagram) others = datagram.payload ∷ others
payload_before Skipped others = others
payload_before Partial others = others
payload_before Unread others = others

-- The payloads of the datagrams that pass.
unfoldable pub payloads : List Found → List (List ℕ)
payloads [] = []
payloads (found ∷ list) = payload_before found (payloads list)

-- The payloads of the datagrams that pass, in all files.
abbrev pub payloads_of : CaptureFilter → List CaptureFile → List (List ℕ)
payloads_of filter files = payloads (founds_of filter files)

-- The destination of a datagram that passes, followed by others.
abbrev pub destination_before : Found → List Destination → List Destination
destination_before (Passed datagram) others = destination_of datagram ∷ others
destination_before Skipped others = others
destination_before Partial others = others
destination_before Unread others = others

-- The destinations of the datagrams that pass.
unfoldable pub destinations : List Found → List Destination
destinations [] = []
destinations (found ∷ list) = destination_before found (destinations list)

-- Whether the refused datagram of an outcome has another destination than the first datagram. If the first datagram is
-- refused, none was accepted before it.
abbrev pub refuses_other : List Destination → Outcome → Bool
refuses_other [] outcome = false
refuses_other (first ∷ others) (whole messages) = false
refuses_other (first ∷ others) (incomplete missing end) = false
refuses_other (first ∷ others) (refused zero why) = false
refuses_other (first ∷ others) (refused (suc index) why) = differ first (slice_index_or others index first)

-- How many of the list are of this kind. The number stops at `MAX_NUMBER`.
abbrev pub number_of : (Found → Bool) → List Found → ℕ
number_of test list = min (length (filter test list)) MAX_NUMBER

-- The counts of a list.
abbrev pub counts_of : List Found → CaptureCounts
counts_of list = record {
  datagrams = number_of is_passed list;
  skipped = number_of is_skipped list;
  partial = number_of is_partial list;
  unread = number_of is_unread list;
}

-- The lines of the files at fault.
abbrev pub faults_text : List CaptureFile → List ℕ
faults_text files = flat_map (λ file. fault_text file.name (capture_of file.bytes).fault) files

-- Whether a file is at fault.
abbrev pub has_fault : List CaptureFile → Bool
has_fault files = list_any (λ file. is_some (capture_of file.bytes).fault) files

-- The outcome of the payloads that pass.
abbrev pub captures_outcome : CaptureFilter → List CaptureFile → Outcome
captures_outcome filter files = outcome_of (payloads_of filter files)

-- Whether the refused datagram of the files has another destination than the first accepted one.
abbrev pub captures_refuse_other : CaptureFilter → List CaptureFile → Bool
captures_refuse_other filter files =
    refuses_other (destinations (founds_of filter files)) (captures_outcome filter files)

-- What is printed for the files.
abbrev pub captures_text : CaptureFilter → List CaptureFile → List ℕ
captures_text filter files =
    (counts_text (counts_of (founds_of filter files)) ++ faults_text files)
    ++ numbered_text (codes "datagram") 1 (captures_outcome filter files)

-- The exit status: 2 if a file is at fault, otherwise that of the outcome.
abbrev pub captures_status : CaptureFilter → List CaptureFile → ℕ
captures_status filter files = if has_fault files then 2 else outcome_status (captures_outcome filter files)

-- The datagrams that pass, each with its number among them.
abbrev pub numbered_payloads : CaptureFilter → List CaptureFile → List (ℕ × List ℕ)
numbered_payloads filter files = with_numbers 1 (payloads_of filter files)

-- What is printed for the files if each session is checked by itself.
abbrev pub each_captures_text : CaptureFilter → List CaptureFile → List ℕ
each_captures_text filter files =
    (counts_text (counts_of (founds_of filter files)) ++ faults_text files)
    ++ sessions_text (counted (codes "datagram")) (numbered_payloads filter files)

-- The exit status: 2 if a file is at fault, otherwise that of the sessions.
abbrev pub each_captures_status : CaptureFilter → List CaptureFile → ℕ
each_captures_status filter files =
    if has_fault files then 2 else sessions_status (numbered_payloads filter files)
