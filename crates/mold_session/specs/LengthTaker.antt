-- Which lengths a taker took.
use Rattle.std.specs.Prelude.{ℕ, List, ◌++◌}

-- The taker took these lengths after those that it took before. `takes` is that of its type: the second value is the
-- first one after it took some lengths.
abbrev pub HasTakenLengths : {T : Type 0} → (T → T → List ℕ → Type 0) → T → T → List ℕ → Type 0
HasTakenLengths {T} takes old new lengths =
    (earlier : T) (before : List ℕ) → takes earlier old before → takes earlier new (before ++ lengths)
