-- How many frames count as what.
use Rattle.std.specs.Prelude.{ℕ, Bool, true, false, List, [], ◌∷◌, codes, decimal}
use Rattle.mold_devices.specs.Devices.{one_more}
use Rattle.mold_text.specs.Line.{line_of}
use Rattle.mold_capture_commands.specs.Filter.{Found, Passed, Skipped, Partial, Unread}
use Rattle.mold_capture_commands.specs.declared.counts.CaptureCounts.{CaptureCounts}

-- A datagram that passes.
abbrev pub is_passed : Found → Bool
is_passed (Passed datagram) = true
is_passed Skipped = false
is_passed Partial = false
is_passed Unread = false

-- Another packet, or one that does not pass.
abbrev pub is_skipped : Found → Bool
is_skipped (Passed datagram) = false
is_skipped Skipped = true
is_skipped Partial = false
is_skipped Unread = false

-- A part of a datagram that would pass.
abbrev pub is_partial : Found → Bool
is_partial (Passed datagram) = false
is_partial Skipped = false
is_partial Partial = true
is_partial Unread = false

-- A frame of a link type that is not read.
abbrev pub is_unread : Found → Bool
is_unread (Passed datagram) = false
is_unread Skipped = false
is_unread Partial = false
is_unread Unread = true

-- One more, if it is counted.
abbrev pub more_if : Bool → ℕ → ℕ
more_if true count = one_more count
more_if false count = count

-- The counts of no frame.
abbrev pub no_counts : CaptureCounts
no_counts = record { datagrams = 0; skipped = 0; partial = 0; unread = 0 }

-- The counts with one more frame.
abbrev pub counted : CaptureCounts → Found → CaptureCounts
counted counts found = record {
  datagrams = more_if (is_passed found) counts.datagrams;
  skipped = more_if (is_skipped found) counts.skipped;
  partial = more_if (is_partial found) counts.partial;
  unread = more_if (is_unread found) counts.unread;
}

-- The line of the counts.
abbrev pub counts_text : CaptureCounts → List ℕ
counts_text counts = line_of (
    codes "datagrams" ∷ decimal counts.datagrams ∷ codes "skipped" ∷ decimal counts.skipped
    ∷ codes "partial" ∷ decimal counts.partial ∷ codes "unread" ∷ decimal counts.unread ∷ [])

-- The line of the other frames: those that are not datagrams that pass.
abbrev pub others_text : CaptureCounts → List ℕ
others_text counts = line_of (
    codes "skipped" ∷ decimal counts.skipped ∷ codes "partial" ∷ decimal counts.partial
    ∷ codes "unread" ∷ decimal counts.unread ∷ [])
