-- What a repairer's pacer learns when a datagram is taken.
use Rattle.std.specs.Prelude.{ℕ, List, [], ◌∷◌, ◌++◌, map, max, nat_lt, if◌then◌else◌, Option, None}
use Rattle.mold_pacing.specs.Run.{IsRun}
use Rattle.mold_pacing.specs.declared.ask.Ask.{Ask}
use Rattle.mold_pacing.specs.declared.flight.Flight.{Flight}
use Rattle.mold_pacing.specs.declared.pacer.Pacer.{Pacer}
use Rattle.mold_pacing.specs.declared.step.Step.{Step}
use Rattle.mold_pacing.specs.declared.step.Step.TheVariants.{Advance}
use Rattle.mold_receiver.specs.View.{View}
use Rattle.mold_pacing.specs.declared.delays.Delays.{Delays}
use Rattle.mold_repair.specs.Came.{noted}
use Rattle.mold_repair.specs.Header.{head}
use Rattle.mold_repair.specs.Timing.{adapted_from}
use Rattle.mold_repair.specs.declared.options.RepairOptions.{RepairOptions}
use Rattle.mold_wire.specs.Reading.{reading}
use Rattle.mold_repair.specs.declared.origin.RepairOrigin.{RepairOrigin}

-- What the pacer learns of a datagram that was accepted at the time `now`. If no message was missing before, no request
-- can be for its numbers, and the pacer learns nothing. The views are those before and after the datagram, and
-- `flights` are the requests before it.
abbrev pub learned_from : RepairOrigin → List ℕ → View → View → ℕ → List Flight → List Step
learned_from origin bytes before after now flights =
    if nat_lt before.next before.known then noted origin bytes after now flights else []

-- The request that a step returns which is no poll: none.
abbrev pub no_ask : Step → Option Ask
no_ask step = None

-- The pacer took these steps, none of which is a poll.
abbrev pub HasLearned : Pacer → Pacer → List Step → Type 0
HasLearned old new steps = IsRun old new steps (map no_ask steps)

-- What the pacer learns of a datagram that arrived at this time and was accepted. `delays` are those after it, and `p`
-- is the pacer before it.
abbrev pub taken_steps : RepairOptions → ℕ → RepairOrigin → List ℕ → View → View → Delays → Pacer → List Step
taken_steps options now origin bytes before after delays p =
    Advance now before.known ∷ (learned_from origin bytes before after (max p.state.now now) p.flights.items
    ++ adapted_from options origin (head (reading bytes)) delays)

-- The pacer learned the time, and nothing else.
abbrev pub HasPassed : ℕ → View → Pacer → Pacer → Type 0
HasPassed now v old new = HasLearned old new (Advance now v.known ∷ [])
