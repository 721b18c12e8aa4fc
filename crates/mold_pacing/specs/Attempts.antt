-- How often a number was requested.
use Rattle.std.specs.Prelude.{ℕ, ◌+◌, ◌&&◌, List, [], ◌∷◌, nat_le, nat_lt, if◌then◌else◌, Option, None, Some}
use Rattle.mold_pacing.specs.declared.ask.Ask.{Ask}

-- How many requests of the run were for the number.
abbrev pub count_asks_for : ℕ → List (Option Ask) → ℕ
count_asks_for number [] = 0
count_asks_for number (None ∷ asks) = count_asks_for number asks
count_asks_for number (Some ask ∷ asks) =
    if nat_le ask.first number && nat_lt number ask.end
    then count_asks_for number asks + 1
    else count_asks_for number asks
