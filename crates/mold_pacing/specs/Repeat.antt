-- What follows from the requests before: how long a request waits, and to which server it goes.
use Rattle.std.specs.Prelude.{ℕ, ◌+◌, ◌*◌, ◌==◌, max, min, nat_lt, if◌then◌else◌, Option, None, Some}
use Rattle.mold_pacing.specs.declared.ask.Ask.{Ask}
use Rattle.mold_pacing.specs.declared.flight.Flight.{Flight}
use Rattle.mold_pacing.specs.declared.options.PacerOptions.{PacerOptions}

-- How long a request waits for a response, by the last request for its first number: twice as long as that one, but at
-- least the timeout and at most the ceiling.
abbrev pub pause_for : PacerOptions → Option Flight → ℕ
pause_for options None = options.timeout
pause_for options (Some f) = max options.timeout (min (f.pause * 2) options.ceiling)

-- Which request in a row without a response this is. The count stays at 4294967295.
abbrev pub attempts_for : Option Flight → ℕ
attempts_for None = 1
attempts_for (Some f) = min (f.attempts + 1) 4294967295

-- The count of a request's attempts, or 0 without a request.
abbrev pub attempts_of : Option Flight → ℕ
attempts_of None = 0
attempts_of (Some f) = f.attempts

-- The server after the one of the last request, or that one itself, if it responded. A new request goes to `base`. A
-- server that doesn't exist is replaced by the first one.
abbrev pub server_for : ℕ → ℕ → Option Flight → ℕ
server_for servers base None = if nat_lt base servers then base else 0
server_for servers base (Some f) =
    let next = if f.pause == 0 then f.server else f.server + 1 in if nat_lt next servers then next else 0

-- The end of a request that could go to `end`. A request that is repeated because it had no response asks for no more
-- numbers than before.
abbrev pub end_for : ℕ → Option Flight → ℕ
end_for end None = end
end_for end (Some f) = if nat_lt 0 f.attempts then min end f.end else end

-- The record of a request that is sent now.
abbrev pub flight_for : PacerOptions → ℕ → Option Flight → Ask → Flight
flight_for options now before ask = record {
  first = ask.first;
  end = ask.end;
  until = now + pause_for options before;
  pause = pause_for options before;
  server = ask.server;
  attempts = attempts_for before;
  reached = ask.first;
}
