-- How joined bytes and the offsets at which messages end represent the messages.
use Rattle.std.specs.Prelude.{◌≡◌, ℕ, zero, suc, ◌+◌, ◌-◌, ◌≤◌, List, [], ◌∷◌, take, drop}

-- The messages that end at the offsets of the list, in order. Before each message there are `spacing` bytes that
-- belong to none. The first of these bytes are at offset `start`.
unfoldable pub pieces : ℕ → ℕ → List ℕ → List ℕ → List (List ℕ)
pieces spacing start [] bytes = []
pieces spacing start (end ∷ ends) bytes =
    take (end - (start + spacing)) (drop (start + spacing) bytes) ∷ pieces spacing end ends bytes

-- From `start` on, each offset is at least `spacing` above the one before it, and the last is `total`.
unfoldable pub IsRising : ℕ → ℕ → List ℕ → ℕ → Type 0
IsRising spacing start [] total = start ≡ total
IsRising spacing start (end ∷ ends) total = (start + spacing ≤ end) × IsRising spacing end ends total

-- The offset at which the message before an index ends, or `start` for index 0. For an index after the last message,
-- it is the offset at which the last message ends.
unfoldable pub start_at : ℕ → List ℕ → ℕ → ℕ
start_at start ends zero = start
start_at start [] (suc i) = start
start_at start (end ∷ ends) (suc i) = start_at end ends i
