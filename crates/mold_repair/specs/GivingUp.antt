-- Giving up messages that no server has.
use Rattle.std.specs.Prelude.{◌≡◌, ◌⊎◌, ℕ, ◌<◌, ◌≤◌, ◌&&◌, Bool, false, find, nat_le, nat_lt}
use Rattle.std.specs.Prelude.{MatchOption, Option, None, Some}
use Rattle.mold_pacing.specs.Flight.{is_stale}
use Rattle.mold_pacing.specs.Repeat.{attempts_of}
use Rattle.mold_pacing.specs.Run.{Takes}
use Rattle.mold_pacing.specs.declared.flight.Flight.{Flight}
use Rattle.mold_pacing.specs.declared.gap.Gap.{Gap}
use Rattle.mold_pacing.specs.declared.pacer.Pacer.{Pacer}
use Rattle.mold_pacing.specs.declared.step.Step.TheVariants.{Advance, Arrive}
use Rattle.mold_receiver.specs.Arbiter.{Arbitration}
use Rattle.mold_receiver.specs.Batch.{Handed, followed_by}
use Rattle.mold_receiver.specs.Skip.{AreMissing, skipped, skipped_run}
use Rattle.mold_receiver.specs.View.{View}
use Rattle.mold_repair.specs.Came.{range}
use Rattle.mold_repair.specs.Missing.{IsMissing}

-- How many requests in a row for this number had no response by this time. One in flight doesn't count.
abbrev pub attempts_at : Pacer → ℕ → ℕ → ℕ
attempts_at p time number = attempts_of (find (is_stale time number) p.flights.items)

-- Whether the first missing message is to be given up at this time: `give_up` requests for it in a row had no response.
abbrev pub is_due : ℕ → View → Pacer → ℕ → Bool
is_due give_up v p time = nat_lt 0 give_up && (nat_lt v.next v.known && nat_le give_up (attempts_at p time v.next))

-- The missing messages that are given up: those from `next` on that one request asked for, after `give_up` requests for
-- each of them in a row without a response.
pub record IsGivenUp (give_up : ℕ) (v : View) (p : Pacer) (gap : Gap) : Type 0 where
  pub allowed : 0 < give_up
  pub first : gap.first ≡ v.next
  pub some : gap.first < gap.end
  pub missing : AreMissing v gap.end
  pub asked : (number : ℕ) → gap.first ≤ number → number < gap.end → give_up ≤ attempts_at p p.state.now number
  pub request : Flight
  pub last : find (is_stale p.state.now v.next) p.flights.items ≡ Some request
  pub stops : (gap.end ≡ request.end) ⊎ (IsMissing v gap.end → ⊥)

-- Nothing was given up, and nothing changed.
pub record IsKept (give_up : ℕ) (old new : Arbitration) (before after : Handed) (p q : Pacer) : Type 0 where
  pub due : is_due give_up old.view p p.state.now ≡ false
  pub arbiter : new ≡ old
  pub batch : after ≡ before
  pub pacer : q ≡ p

-- These messages were given up. What is stored after them was delivered. The pacer learned that no number below the new
-- `next` is missing.
pub record IsLost (give_up : ℕ) (old new : Arbitration) (before after : Handed) (p q : Pacer) (gap : Gap) :
    Type 0 where
  pub given_up : IsGivenUp give_up old.view p gap
  pub arbiter : new ≡ record { view = skipped old.view gap.end; reports = old.reports }
  pub batch : after ≡ followed_by before gap.end (skipped_run old.view gap.end)
  pub pacer : Takes p q (Arrive (range 0 new.view.next)) None

-- What was given up at this time, if anything was.
pub record HasGivenUp (now give_up : ℕ) (old new : Arbitration) (before after : Handed) (p q : Pacer)
    (lost : Option Gap) : Type 0 where
  -- The pacer at this time.
  pub between : Pacer
  pub time : Takes p between (Advance now old.view.known) None
  pub gave : MatchOption lost (IsKept give_up old new before after between q)
      (IsLost give_up old new before after between q)
