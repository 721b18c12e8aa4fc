-- Runs of a pacer.
use Rattle.std.specs.Prelude.{Bool, true, nat_lt}
use Rattle.std.specs.Prelude.{◌≡◌, ◌^◌, List, [], ◌∷◌, map}
use Rattle.std.specs.Prelude.{MatchOption, Option, None}
use Rattle.mold_pacing.specs.Asks.{are_gaps}
use Rattle.mold_pacing.specs.Polls.{HasAsked, IsIdle, ended_request}
use Rattle.mold_pacing.specs.Responses.{after_arrival, after_response}
use Rattle.mold_pacing.specs.State.{adapted, advanced, responded}
use Rattle.mold_pacing.specs.declared.ask.Ask.{Ask}
use Rattle.mold_pacing.specs.declared.flight.Flight.{Flight}
use Rattle.mold_pacing.specs.declared.pacer.Pacer.{Pacer}
use Rattle.mold_pacing.specs.declared.state.PacerState.{PacerState}
use Rattle.mold_pacing.specs.declared.step.Step.{Step}
use Rattle.mold_pacing.specs.declared.step.Step.TheVariants.{Advance, Adapt, Poll, Respond, Arrive}

-- Whether a pacer may take the step: its time is below 2^62, or its gaps are in order.
abbrev pub can_step : Step → Bool
can_step (Advance time known) = nat_lt time (2 ^ 62)
can_step (Poll gaps) = are_gaps 0 gaps.now
can_step (Adapt patience) = true
can_step (Respond server came) = true
can_step (Arrive came) = true

-- A step returned no request, and changed the pacer's state and requests to these.
pub record HasBecome (old new : Pacer) (state : PacerState) (flights : List Flight) (ask : Option Ask) : Type 0 where
  pub none : ask ≡ None
  pub becomes : new.state ≡ state
  pub table : new.flights.items ≡ flights
  pub options : new.options ≡ old.options

-- The step changed the pacer from `old` to `new` and returned this request, or none.
abbrev pub Takes : Pacer → Pacer → Step → Option Ask → Type 0
Takes old new (Advance time known) ask =
    HasBecome old new (advanced time known old.state) old.flights.items ask
Takes old new (Poll gaps) ask = MatchOption ask (IsIdle old new gaps.now) (HasAsked old new gaps.now)
Takes old new (Adapt patience) ask = HasBecome old new (adapted patience old.state) old.flights.items ask
Takes old new (Respond server came) ask =
    HasBecome old new (responded old.options server (ended_request old came.first came.end) old.state)
    (map (after_response old.options.settle old.state.now came.first came.end) old.flights.items) ask
Takes old new (Arrive came) ask =
    HasBecome old new old.state (map (after_arrival old.state.now came.first came.end) old.flights.items) ask

-- The steps changed the pacer from `old` to `new`, one after the other. There is one item of `asks` for each step: the
-- request that it returned, or none.
abbrev pub IsRun : Pacer → Pacer → List Step → List (Option Ask) → Type 0
IsRun old new [] [] = new ≡ old
IsRun old new [] (ask ∷ asks) = ⊥
IsRun old new (step ∷ steps) [] = ⊥
IsRun old new (step ∷ steps) (ask ∷ asks) = (next : Pacer) × Takes old next step ask × IsRun next new steps asks
