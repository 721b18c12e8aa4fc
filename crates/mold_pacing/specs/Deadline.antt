-- When a request can be sent.
use Rattle.std.specs.Prelude.{◌≡◌, ℕ, ◌+◌, ◌≤◌, ◌&&◌, Bool, true, false, nat_le}
use Rattle.mold_pacing.specs.Flight.{in_flight}
use Rattle.mold_pacing.specs.Table.{has_room}
use Rattle.mold_pacing.specs.declared.pacer.Pacer.{Pacer}

-- At this time a request that begins with this number can be sent, if nothing happens before: the bucket allows it, the
-- number is not in flight, and the table has room. The bucket limits how many requests are sent in a span of time. The
-- table has the requests in flight, at most `places`.
pub record CanAsk (p : Pacer) (time number : ℕ) : Type 0 where
  pub opened : p.state.opens ≤ time + p.options.tolerance
  pub free : in_flight time number p.flights.items ≡ false
  pub room : has_room p.options.places time p.flights.items ≡ true

-- Whether a request can be sent now: the bucket allows it, and the table has room.
abbrev pub can_send : Pacer → Bool
can_send p = nat_le p.state.opens (p.state.now + p.options.tolerance)
    && has_room p.options.places p.state.now p.flights.items
