-- Requests in flight.
use Rattle.std.specs.Prelude.{◌≡◌, ℕ, ◌<◌, ◌≤◌, ◌&&◌, ◌||◌, Bool, true, false, List, [], ◌∷◌}
use Rattle.std.specs.Prelude.{if◌then◌else◌, nat_le, nat_lt, slice_get, Some}
use Rattle.std.specs.List.{list_any}
use Rattle.mold_pacing.specs.declared.flight.Flight.{Flight}

-- Whether the request is for this number.
abbrev pub asks_for : ℕ → Flight → Bool
asks_for number f = nat_le f.first number && nat_lt number f.end

-- Whether the request is over: its time has passed.
abbrev pub is_over : ℕ → Flight → Bool
is_over now f = nat_le f.until now

-- Whether the request is in flight, and for this number.
abbrev pub covers : ℕ → ℕ → Flight → Bool
covers now number f = nat_lt now f.until && asks_for number f

-- Whether the request is over, and was for this number.
abbrev pub is_stale : ℕ → ℕ → Flight → Bool
is_stale now number f = is_over now f && asks_for number f

-- Whether a request for this number is in flight.
abbrev pub in_flight : ℕ → ℕ → List Flight → Bool
in_flight now number fs = list_any (covers now number) fs

-- Each number of the range is in flight.
abbrev pub AllInFlight : List Flight → ℕ → ℕ → ℕ → Type 0
AllInFlight fs now first end = (number : ℕ) → first ≤ number → number < end → in_flight now number fs ≡ true

-- No number of the range is in flight.
abbrev pub NoneInFlight : List Flight → ℕ → ℕ → ℕ → Type 0
NoneInFlight fs now first end = (number : ℕ) → first ≤ number → number < end → in_flight now number fs ≡ false

-- Whether the requests are in ascending order of their first numbers, which are at least `low`.
abbrev pub is_ascending : ℕ → List Flight → Bool
is_ascending low [] = true
is_ascending low (f ∷ fs) = nat_le low f.first && is_ascending f.first fs

-- The requests before this index that are in flight end at or below `number`.
abbrev pub ArePassed : List Flight → ℕ → ℕ → ℕ → Type 0
ArePassed fs now index number = (i : ℕ) (f : Flight) → i < index → slice_get fs i ≡ Some f → now < f.until →
    f.end ≤ number

-- The requests from this index on begin above `number`.
abbrev pub BeginAbove : List Flight → ℕ → ℕ → Type 0
BeginAbove fs index number = (i : ℕ) (f : Flight) → index ≤ i → slice_get fs i ≡ Some f → number < f.first

-- Whether the request is not over before this time.
abbrev pub waits_until : ℕ → Flight → Bool
waits_until time f = nat_le time f.until

-- Whether the request ends at or below this number.
abbrev pub ends_below : ℕ → Flight → Bool
ends_below number f = nat_le f.end number

-- Whether the request is over, or begins at or above this number.
abbrev pub flies_from : ℕ → ℕ → Flight → Bool
flies_from now number f = is_over now f || nat_le number f.first

-- Whether each request asks for a number, and those in flight are apart: each begins at or above the end of the one
-- before it, and the first begins at or above `low`.
abbrev pub are_apart : ℕ → ℕ → List Flight → Bool
are_apart now low [] = true
are_apart now low (f ∷ fs) = nat_lt f.first f.end
    && (if nat_lt now f.until then nat_le low f.first && are_apart now f.end fs else are_apart now low fs)
