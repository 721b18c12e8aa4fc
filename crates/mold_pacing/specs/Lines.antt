-- What the arrival of a datagram on a line changes.
use Rattle.std.specs.Prelude.{◌≡◌, ◌+◌, ◌-◌, ◌%◌, set, slice_get, if◌then◌else◌, Some}
use Rattle.mold_pacing.specs.Delays.{delay_of, is_second, kept, slot_of, time_of}
use Rattle.mold_pacing.specs.declared.arrival.Arrival.{Arrival}
use Rattle.mold_pacing.specs.declared.delays.Delays.{Delays}
use Rattle.mold_pacing.specs.declared.delays.TheConstants.{DELAYS}
use Rattle.mold_pacing.specs.declared.mark.Mark.{Mark}

-- The delays after an arrival. `before` is the record of the last arrival with the same slot. If the arrival is the
-- second one of a datagram, the time between both is the newest delay, in place of the oldest one. The next index then
-- has the oldest one.
pub record IsTaken (old new : Delays) (a : Arrival) : Type 0 where
  pub before : Mark
  pub there : slice_get old.arrivals.items (slot_of a.first) ≡ Some before
  pub arrivals : new.arrivals.items ≡ set old.arrivals.items (slot_of a.first) (kept before a)
  pub recent : new.recent.items ≡ (if is_second before a
      then set old.recent.items old.next (delay_of (a.time - time_of before) a.line)
      else old.recent.items)
  pub index : new.next ≡ (if is_second before a then (old.next + 1) % DELAYS else old.next)
