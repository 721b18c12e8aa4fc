-- Digits of decimal numbers.
use Rattle.std.specs.Prelude.{ℕ, ◌+◌, ◌/◌, ◌%◌, List, [], ◌∷◌}

-- The last four digits of a number, with leading zeros if it has fewer.
abbrev pub last_four : ℕ → List ℕ
last_four n = (48 + n / 1000 % 10) ∷ (48 + n / 100 % 10) ∷ (48 + n / 10 % 10) ∷ (48 + n % 10) ∷ []
