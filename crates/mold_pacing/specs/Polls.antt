-- What a pacer does when it is polled.
use Rattle.std.specs.Prelude.{◌≡◌, ◌⊎◌, ℕ, ◌+◌, ◌-◌, ◌<◌, ◌≤◌, false, List, Option, find}
use Rattle.mold_pacing.specs.Asks.{AreAllInFlight, AsksFrom, IsFirstFree}
use Rattle.mold_pacing.specs.Flight.{covers, is_stale}
use Rattle.mold_pacing.specs.Most.{ends_request, learned, request_most}
use Rattle.mold_pacing.specs.Repeat.{end_for, flight_for, server_for}
use Rattle.mold_pacing.specs.State.{asked}
use Rattle.mold_pacing.specs.Table.{IsPlace, has_room, placed, without}
use Rattle.mold_pacing.specs.declared.ask.Ask.{Ask}
use Rattle.mold_pacing.specs.declared.flight.Flight.{Flight}
use Rattle.mold_pacing.specs.declared.gap.Gap.{Gap}
use Rattle.mold_pacing.specs.declared.pacer.Pacer.{Pacer}

-- The last request for the number, if it is over.
abbrev pub last_request : Pacer → ℕ → Option Flight
last_request p number = find (is_stale p.state.now number) p.flights.items

-- The request in flight for the number, if there is one.
abbrev pub request_for : Pacer → ℕ → Option Flight
request_for p number = find (covers p.state.now number) p.flights.items

-- The request in flight that a response with the numbers from `first` to `end - 1` frees, if there is one.
abbrev pub ended_request : Pacer → ℕ → ℕ → Option Flight
ended_request p first end = find (ends_request p.state.now first end) p.flights.items

-- The pacer returned a request, which counts as sent.
pub record HasAsked (old new : Pacer) (gaps : List Gap) (ask : Ask) : Type 0 where
  -- The bucket allowed it.
  pub opened : old.state.opens ≤ old.state.now + old.options.tolerance
  -- It begins with the least number of the gaps that is ripe and not in flight, and is as long as it may be. How long
  -- that is was learned from the responses.
  pub limit : ℕ
  pub least : IsFirstFree old.flights.items old.state.now old.state.ripe gaps ask.first limit
  pub asks : AsksFrom old.flights.items old.state.now
      (request_most old.options (learned old.options (last_request old ask.first) old.state)) ask.first
      (end_for limit (last_request old ask.first)) ask
  -- Its server follows from the last request for its first number.
  pub server : ask.server ≡ server_for old.options.servers old.state.server (last_request old ask.first)
  -- It is in the table, in place of a request that is over or in a spare place.
  pub leaves : Option ℕ
  pub place : IsPlace old.flights.items old.options.places old.state.now ask.first leaves (last_request old ask.first)
  pub flights : new.flights.items ≡ placed
      (flight_for old.options old.state.now (last_request old ask.first) ask) (without leaves old.flights.items)
  -- The next request may be sent an interval later. Nothing else changed.
  pub state : new.state ≡ asked old.options.interval (ask.end - ask.first)
      (learned old.options (last_request old ask.first) old.state)
  pub options : new.options ≡ old.options

-- The pacer returned no request, and nothing changed: the bucket doesn't allow one, all ripe numbers are in flight, or
-- the table has no room.
pub record IsIdle (old new : Pacer) (gaps : List Gap) : Type 0 where
  pub reason : (old.state.now + old.options.tolerance < old.state.opens)
      ⊎ AreAllInFlight old.flights.items old.state.now old.state.ripe gaps
      ⊎ (has_room old.options.places old.state.now old.flights.items ≡ false)
  pub flights : new.flights.items ≡ old.flights.items
  pub state : new.state ≡ old.state
  pub options : new.options ≡ old.options
