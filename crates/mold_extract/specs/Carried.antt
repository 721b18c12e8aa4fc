-- The carried messages whose numbers are in a range.
use Rattle.std.specs.Prelude.{◌≡◌, ℕ, ◌+◌, ◌≤◌, ◌<◌, Bool, ◌&&◌, nat_le, nat_lt, List, map, max, min, Option, None}
use Rattle.std.specs.Prelude.{Some}
use Rattle.std.specs.List.{filter}
use Rattle.std.specs.FinMap as finite
use Rattle.mold_wire.specs.declared.limits.TheConstants.{MAX_NUMBER}
use Rattle.mold_capture.specs.Seen.{Pairs, Seen}
use Rattle.mold_extract.specs.declared.number_range.NumberRange.{NumberRange}

-- Whether the number is at least `first` and below `below`.
abbrev pub is_between : ℕ → ℕ → ℕ → Bool
is_between first below number = nat_le first number && nat_lt number below

-- The carried messages with the numbers from `first` up to, but not including, `below`, each with its number, in
-- ascending order.
unfoldable pub carried_between : Pairs → ℕ → ℕ → List (ℕ × List ℕ)
carried_between pairs first below = filter (λ entry. is_between first below entry.0) (finite.entries pairs)

-- The messages without their numbers.
abbrev pub messages_of : List (ℕ × List ℕ) → List (List ℕ)
messages_of entries = map (λ entry. entry.1) entries

-- The first number of a range. The first message has number 1, and 0 counts as 1.
abbrev pub first_of : NumberRange → ℕ
first_of range = max range.from 1

-- The number that follows the last number of a range. No message has the number `MAX_NUMBER`.
abbrev pub below_of : NumberRange → ℕ
below_of range = min (first_of range + range.count) MAX_NUMBER

-- The carried messages whose numbers are in the range.
abbrev pub carried_in : Pairs → NumberRange → List (ℕ × List ℕ)
carried_in pairs range = carried_between pairs (first_of range) (below_of range)

-- The number is below that of the end packet, if there is one.
abbrev pub IsBeforeEnd : Option ℕ → ℕ → Type 0
IsBeforeEnd None number = Unit {0}
IsBeforeEnd (Some end) number = number < end

-- A message is carried for each number from `first` up to, but not including, `below`, that a session with this end
-- can have.
abbrev pub IsFull : Seen → ℕ → ℕ → Type 0
IsFull seen first below = (number : ℕ) → first ≤ number → number < below → IsBeforeEnd seen.ended number →
    (message : List ℕ) × (finite.get seen.pairs number ≡ Some message)

-- The range is carried in full: each of its numbers has a carried message. If there is an end packet, this applies to
-- the numbers below the end only. Without one, it applies to all numbers of the range, since more messages may follow.
abbrev pub IsInFull : Seen → NumberRange → Type 0
IsInFull seen range = IsFull seen (first_of range) (below_of range)

-- The number of the end packet or `below`, whichever is less.
abbrev pub end_before : Option ℕ → ℕ → ℕ
end_before None below = below
end_before (Some end) below = min end below
