-- How many messages a request asks for. This is learned from the responses.
use Rattle.std.specs.Prelude.{ℕ, ◌*◌, ◌-◌, ◌&&◌, Bool, min, nat_le, nat_lt, if◌then◌else◌, Option, None, Some}
use Rattle.mold_pacing.specs.Responses.{is_response_to}
use Rattle.mold_pacing.specs.declared.flight.Flight.{Flight}
use Rattle.mold_pacing.specs.declared.options.PacerOptions.{PacerOptions}
use Rattle.mold_pacing.specs.declared.state.PacerState.{PacerState}
use Rattle.mold_pacing.specs.declared.state.TheConstants.{GROWTH}

-- Whether numbers of this range respond to the request, and reach its end.
abbrev pub ends_request : ℕ → ℕ → ℕ → Flight → Bool
ends_request now first end f = is_response_to now first end f && nat_le f.end end

-- Whether the request had responses, but they didn't reach its end.
abbrev pub is_partial : Flight → Bool
is_partial f = nat_lt f.first f.reached && nat_lt f.reached f.end

-- The state after the last request for a number was looked at. If its responses didn't reach its end, requests are for
-- no more messages than the responses brought.
abbrev pub learned : PacerOptions → Option Flight → PacerState → PacerState
learned options None s = s
learned options (Some f) s =
    if is_partial f then record s { most = min (f.reached - f.first) options.most; full = 0 } else s

-- The greatest number of messages that the next request asks for. After `GROWTH` full requests it is twice
-- `most`, but not more than the options allow.
abbrev pub request_most : PacerOptions → PacerState → ℕ
request_most options s = if nat_lt s.full GROWTH then s.most else min (s.most * 2) options.most
