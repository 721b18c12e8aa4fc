-- How far the requests in flight reach.
use Rattle.std.specs.Prelude.{◌≡◌, ◌⊎◌, ℕ, ◌+◌, ◌<◌, ◌≤◌, true, List, Some, slice_get}
use Rattle.mold_pacing.specs.Flight.{in_flight}
use Rattle.mold_pacing.specs.declared.flight.Flight.{Flight}
use Rattle.mold_pacing.specs.declared.gap.Gap.{Gap}
use Rattle.mold_receiver.specs.View.{View}
use Rattle.mold_repair.specs.Missing.{IsMissing}

-- The missing numbers below `number`, all of which are known, are in flight until the time `until`.
pub record IsFront (v : View) (fs : List Flight) (number until : ℕ) : Type 0 where
  pub known : number ≤ v.known
  pub sent : (time q : ℕ) → time < until → q < number → IsMissing v q → in_flight time q fs ≡ true

-- No request in flight begins below the number and ends above it.
abbrev pub NoneSpans : List Flight → ℕ → ℕ → Type 0
NoneSpans fs now number = (i : ℕ) (f : Flight) → slice_get fs i ≡ Some f → now < f.until → f.first < number →
    number < f.end → ⊥

-- None of the gap's numbers is missing.
abbrev pub HasGap : View → Gap → Type 0
HasGap v gap = (q : ℕ) → gap.first ≤ q → q < gap.end → IsMissing v q → ⊥

-- How far the requests still reach after a response with these numbers.
pub record IsFrontLeft (v : View) (fs : List Flight) (now settle : ℕ) (came : Gap)
    (number until number_left until_left : ℕ) : Type 0 where
  pub few : number_left ≤ number
  pub short : until_left ≤ until
  pub begins : (number_left ≡ 0) ⊎ (NoneSpans fs now came.first × HasGap v came)
  pub ends : (until_left ≤ now + settle) ⊎ NoneSpans fs now came.end
