-- What the laws of a run state.
use Rattle.std.specs.Prelude.{◌≡◌, ℕ, ◌+◌, ◌<◌, ◌≤◌, ◌&&◌, Bool, false, List, [], ◌∷◌, max, nat_le, nat_lt}
use Rattle.std.specs.Prelude.{IfSome, Option, None, Some}
use Rattle.mold_pacing.specs.declared.ask.Ask.{Ask}
use Rattle.mold_pacing.specs.declared.step.Step.{Step}
use Rattle.mold_pacing.specs.declared.step.Step.TheVariants.{Advance, Adapt, Poll, Respond, Arrive}

-- The time after a step.
abbrev pub time_after : ℕ → Step → ℕ
time_after now (Advance time known) = max now time
time_after now (Adapt patience) = now
time_after now (Poll gaps) = now
time_after now (Respond server came) = now
time_after now (Arrive came) = now

-- Whether the step can free the request: it is a response with one of its numbers, or the arrival of all of them.
abbrev pub frees : Ask → Step → Bool
frees ask (Advance time known) = false
frees ask (Adapt patience) = false
frees ask (Poll gaps) = false
frees ask (Respond server came) = nat_lt ask.first came.end && nat_lt came.first ask.end
frees ask (Arrive came) = nat_le came.first ask.first && nat_le ask.end came.end

-- No number is in both requests.
abbrev pub HaveNoneInCommon : Ask → Ask → Type 0
HaveNoneInCommon a b = (number : ℕ) → a.first ≤ number → number < a.end → b.first ≤ number → number < b.end → ⊥

-- As long as no step frees the request `ask`, no request for one of its numbers is sent before the time `until`. `now`
-- is the time before the steps.
abbrev pub NoneAsks : Ask → ℕ → ℕ → List Step → List (Option Ask) → Type 0
NoneAsks ask until now [] others = Unit {0}
NoneAsks ask until now (step ∷ steps) [] = Unit {0}
NoneAsks ask until now (step ∷ steps) (other ∷ others) =
    (now < until → IfSome other (HaveNoneInCommon ask))
    × (frees ask step ≡ false → NoneAsks ask until (time_after now step) steps others)

-- For each request of the run: as long as no step frees it, no request for one of its numbers is sent within the
-- timeout. `now` is the time before the steps.
abbrev pub AreApart : ℕ → ℕ → List Step → List (Option Ask) → Type 0
AreApart timeout now [] asks = Unit {0}
AreApart timeout now (step ∷ steps) [] = Unit {0}
AreApart timeout now (step ∷ steps) (ask ∷ asks) =
    IfSome ask (λ a. NoneAsks a (now + timeout) (time_after now step) steps asks)
    × AreApart timeout (time_after now step) steps asks

-- How many requests the run sent.
abbrev pub count_asks : List (Option Ask) → ℕ
count_asks [] = 0
count_asks (None ∷ asks) = count_asks asks
count_asks (Some ask ∷ asks) = count_asks asks + 1
