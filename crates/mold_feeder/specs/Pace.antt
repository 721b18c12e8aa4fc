-- The pace of a publisher that sends at most a number of messages a second.
use Rattle.std.specs.Prelude.{◌≡◌, ℕ, ◌+◌, ◌*◌, ◌/◌, ◌-◌, ◌^◌, ◌≤◌, zero, suc, max}
use Rattle.mold_feeder.specs.declared.pace.Pace.{Pace}
use Rattle.mold_feeder.specs.declared.pace.TheConstants.{SECOND}

-- The least time in which this number of messages may be sent at this rate, in nanoseconds. The rate 0 is no bound.
pub record IsDelay (rate messages delay : ℕ) : Type 0 where
  pub enough : messages * SECOND ≤ delay * rate
  pub least : (time : ℕ) → messages * SECOND ≤ time * rate → delay ≤ time

-- The time that a datagram with this number of messages delays the next one. Without a bound it is 0.
abbrev pub IsDelayAt : ℕ → ℕ → ℕ → Type 0
IsDelayAt zero messages delay = delay ≡ 0
IsDelayAt (suc rate) messages delay = IsDelay (suc rate) messages delay

-- The most messages that are committed together: those of 10 milliseconds, but at least one. Without a bound they are
-- as many as there are.
abbrev pub group_of : ℕ → ℕ
group_of zero = 2 ^ 64 - 1
group_of (suc rate) = max 1 (suc rate / 100)

-- The pace after a datagram with this number of messages was sent at this time.
pub record IsPaced (old : Pace) (time messages : ℕ) (new : Pace) : Type 0 where
  pub delay : ℕ
  pub is : IsDelayAt old.rate messages delay
  pub after : new ≡ record { rate = old.rate; opens = time + delay }
