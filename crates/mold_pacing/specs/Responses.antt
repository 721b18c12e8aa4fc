-- What a response does to the requests in flight.
use Rattle.std.specs.Prelude.{ℕ, ◌+◌, ◌&&◌, Bool, max, min, nat_le, nat_lt, if◌then◌else◌}
use Rattle.mold_pacing.specs.declared.flight.Flight.{Flight}

-- Whether numbers of this range respond to the request: it is in flight, and for one of them.
abbrev pub is_response_to : ℕ → ℕ → ℕ → Flight → Bool
is_response_to now first end f = nat_lt now f.until && (nat_lt f.first end && nat_lt first f.end)

-- The request after a response with the numbers from `first` to `end - 1`. A response that reaches the request's end
-- frees it at once. Any other response leaves the request in flight for at most the time `settle`.
abbrev pub after_response : ℕ → ℕ → ℕ → ℕ → Flight → Flight
after_response settle now first end f =
    if is_response_to now first end f
    then record f {
      until = if nat_le f.end end then now else min f.until (now + settle);
      pause = 0;
      attempts = 0;
      reached = max f.reached end;
    }
    else f

-- Whether all numbers of the request arrived.
abbrev pub has_come : ℕ → ℕ → Flight → Bool
has_come first end f = nat_le first f.first && nat_le f.end end

-- The request after the numbers from `first` to `end - 1` arrived. If they have its whole range, it is freed: it is no
-- longer in flight.
abbrev pub after_arrival : ℕ → ℕ → ℕ → Flight → Flight
after_arrival now first end f =
    if has_come first end f then record f { until = min f.until now } else f
