-- How the ends of messages are kept.
use Rattle.std.specs.Prelude.{ℕ, zero, suc, ◌+◌, ◌*◌, List, ◌++◌, get_or, map}
use Rattle.std.specs.List.{range_with_len}

-- The offset at which the first `count` messages end, from the offset at which each message ends.
abbrev pub end_of : List ℕ → ℕ → ℕ
end_of ends zero = zero
end_of ends (suc i) = get_or ends i 0

-- The ends of `same` messages of the length `width`.
abbrev pub equal_ends : ℕ → ℕ → List ℕ
equal_ends same width = map (λ i. (i + 1) * width) (range_with_len 0 same)

-- The ends of `same` messages of the length `width`, and those of the messages after them.
unfoldable pub ends_with : ℕ → ℕ → List ℕ → List ℕ
ends_with same width later = equal_ends same width ++ later
