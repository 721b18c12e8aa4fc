-- The remaining messages of a run of consecutive numbers.
use Rattle.std.specs.Prelude.{◌≡◌, ℕ, ◌+◌, ◌<◌, List, [], length, slice_get, Option, None, Some}
use Rattle.std.specs.FinMap as finite
use Rattle.mold_capture.specs.Seen.{Pairs}

-- The remaining messages of the run, or none if there is no run.
abbrev pub left : Option (List (List ℕ)) → List (List ℕ)
left None = []
left (Some messages) = messages

-- The messages are the carried ones with the numbers from `next` on.
abbrev pub AgreesFrom : Pairs → ℕ → List (List ℕ) → Type 0
AgreesFrom pairs next messages =
    (i : ℕ) → i < length messages → finite.get pairs (next + i) ≡ slice_get messages i
