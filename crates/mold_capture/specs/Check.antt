-- Why a list of datagrams is refused.
use Rattle.std.specs.Prelude.{◌≡◌, ℕ, ◌+◌, ◌≤◌, ◌<◌, List, [], take, length, slice_index_or, Some}
use Rattle.mold_rule.specs.declared.refusal.Refusal.{Refusal}
use Rattle.mold_rule.specs.declared.refusal.Refusal.TheVariants.{Memory}
use Rattle.mold_capture.specs.Consistent.{Consistent}
use Rattle.mold_capture.specs.Refusal.{reason}
use Rattle.mold_capture.specs.Seen.{BringsNew, seen_of}

-- The datagrams before the index are consistent. If `why` is `Memory`, the datagram at the index has a new message, or
-- the index is the length of the list. Otherwise `why` is the first reason to refuse the datagram at the index.
abbrev pub IsRefusedAt : ℕ → Refusal → List (List ℕ) → Type 0
IsRefusedAt index Memory list =
    (index ≤ length list) × Consistent (take index list)
    × (index < length list → BringsNew (seen_of (take index list)) (slice_index_or list index []))
IsRefusedAt index why list =
    (index < length list) × Consistent (take index list) × (Consistent (take (index + 1) list) → ⊥)
    × (reason (take index list) (slice_index_or list index []) ≡ Some why)
