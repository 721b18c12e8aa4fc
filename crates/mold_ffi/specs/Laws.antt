-- Datagrams that a checker takes one after the other, for the laws.
use Rattle.std.specs.Prelude.{◌≡◌, ℕ, List, [], ◌∷◌, None}
use Rattle.mold_capture.specs.Refusal.{refusal}
use Rattle.mold_capture.specs.Seen.{Seen, after}

-- What a checker knows after it took these datagrams, if it knew `seen` before.
abbrev pub said : Seen → List (List ℕ) → Seen
said seen [] = seen
said seen (bytes ∷ list) = said (after seen bytes) list

-- No refusal applies to any of these datagrams when a checker that knows `seen` takes them in order.
abbrev pub AreTaken : Seen → List (List ℕ) → Type 0
AreTaken seen [] = Unit {0}
AreTaken seen (bytes ∷ list) = (refusal seen bytes ≡ None) × AreTaken (after seen bytes) list
