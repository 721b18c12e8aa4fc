-- Which requests were needed.
use Rattle.std.specs.Prelude.{◌≡◌, ◌⊎◌, ℕ, ◌+◌, ◌≤◌, ◌&&◌, Bool, true, false, List, [], ◌∷◌, length, max, nat_eq}
use Rattle.std.specs.Prelude.{if◌then◌else◌, Option, nat_le, nat_lt}
use Rattle.std.specs.List.{list_any}
use Rattle.mold_pacing.specs.Flight.{in_flight}
use Rattle.mold_pacing.specs.Laws.{count_asks}
use Rattle.mold_pacing.specs.Run.{IsRun}
use Rattle.mold_pacing.specs.declared.ask.Ask.{Ask}
use Rattle.mold_pacing.specs.declared.flight.Flight.{Flight}
use Rattle.mold_pacing.specs.declared.gap.Gap.{Gap}
use Rattle.mold_pacing.specs.declared.pacer.Pacer.{Pacer}
use Rattle.mold_pacing.specs.declared.step.Step.{Step}
use Rattle.mold_pacing.specs.declared.step.Step.TheVariants.{Advance, Adapt, Poll, Respond, Arrive}

-- Whether the range has this number.
abbrev pub has : ℕ → Gap → Bool
has number g = nat_le g.first number && nat_lt number g.end

-- Whether the number arrives in this step.
abbrev pub comes : ℕ → Step → Bool
comes number (Advance time known) = false
comes number (Adapt patience) = false
comes number (Poll gaps) = false
comes number (Respond server came) = has number came
comes number (Arrive came) = has number came

-- The number is in no gap of these steps.
abbrev pub IsNeverMissing : ℕ → List Step → Type 0
IsNeverMissing number [] = Unit {0}
IsNeverMissing number (Advance time known ∷ steps) = IsNeverMissing number steps
IsNeverMissing number (Adapt patience ∷ steps) = IsNeverMissing number steps
IsNeverMissing number (Poll gaps ∷ steps) =
    (list_any (has number) gaps.now ≡ false) × IsNeverMissing number steps
IsNeverMissing number (Respond server came ∷ steps) = IsNeverMissing number steps
IsNeverMissing number (Arrive came ∷ steps) = IsNeverMissing number steps

-- A number that arrived is in no later gap.
abbrev pub AreMissingOnce : List Step → Type 0
AreMissingOnce [] = Unit {0}
AreMissingOnce (step ∷ steps) =
    ((number : ℕ) → comes number step ≡ true → IsNeverMissing number steps) × AreMissingOnce steps

-- How many requests pass the test.
abbrev pub count_flights : (Flight → Bool) → List Flight → ℕ
count_flights p [] = 0
count_flights p (f ∷ fs) = if p f then count_flights p fs + 1 else count_flights p fs

-- How many requests are in flight at this time.
abbrev pub count_in_flight : ℕ → List Flight → ℕ
count_in_flight now fs = count_flights (λ f. nat_lt now f.until) fs

-- Whether the time of the request runs out between these times.
abbrev pub runs_out : ℕ → ℕ → Flight → Bool
runs_out before now f = nat_lt before f.until && nat_le f.until now

-- How many requests run out in this step: their timeouts, or their settle times after a response, pass.
abbrev pub count_run_out : Pacer → Step → ℕ
count_run_out p (Advance time known) = count_flights (runs_out p.state.now (max p.state.now time)) p.flights.items
count_run_out p (Adapt patience) = 0
count_run_out p (Poll gaps) = 0
count_run_out p (Respond server came) = 0
count_run_out p (Arrive came) = 0

-- How many requests run out in the whole run.
abbrev pub total_run_out : (old new : Pacer) (steps : List Step) (asks : List (Option Ask)) →
    IsRun old new steps asks → ℕ
total_run_out old new [] [] ran = 0
total_run_out old new [] (ask ∷ asks) ran = 0
total_run_out old new (step ∷ steps) [] ran = 0
total_run_out old new (step ∷ steps) (ask ∷ asks) ran =
    count_run_out old step + total_run_out ran.0 new steps asks ran.2

-- The number arrives in the run while a request for it is in flight.
abbrev pub ComesInFlight : ℕ → (old new : Pacer) (steps : List Step) (asks : List (Option Ask)) →
    IsRun old new steps asks → Type 0
ComesInFlight number old new [] [] ran = ⊥
ComesInFlight number old new [] (ask ∷ asks) ran = ⊥
ComesInFlight number old new (step ∷ steps) [] ran = ⊥
ComesInFlight number old new (step ∷ steps) (ask ∷ asks) ran =
    ((comes number step ≡ true) × (in_flight old.state.now number old.flights.items ≡ true))
    ⊎ ComesInFlight number ran.0 new steps asks ran.2

-- No number is in the list twice.
abbrev pub AreDistinct : List ℕ → Type 0
AreDistinct [] = Unit {0}
AreDistinct (number ∷ numbers) = (list_any (nat_eq number) numbers ≡ false) × AreDistinct numbers

-- The count of requests that neither ran out nor are still in flight is at most the count of these numbers, which are
-- distinct. Each of them arrived while a request for it was in flight.
pub record IsFrugal (old new : Pacer) (steps : List Step) (asks : List (Option Ask)) (ran : IsRun old new steps asks) :
    Type 0 where
  pub numbers : List ℕ
  pub distinct : AreDistinct numbers
  pub came : (number : ℕ) → list_any (nat_eq number) numbers ≡ true → ComesInFlight number old new steps asks ran
  pub few : count_asks asks ≤ length numbers + total_run_out old new steps asks ran
      + count_in_flight new.state.now new.flights.items
