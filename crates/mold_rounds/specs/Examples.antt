-- The worked example: five messages, and receivers that know of all of them.
use Rattle.std.specs.Prelude.{ℕ, List, [], ◌∷◌, replicate, None}
use Rattle.std.specs.FinMap as finite
use Rattle.mold_receiver.specs.Store.{Message}
use Rattle.mold_receiver.specs.View.{View}
use Rattle.mold_rounds.specs.Rounds.{nameless}

-- A message of twenty bytes, each of which has this value.
abbrev pub twenty : ℕ → Message
twenty value = replicate 20 value

-- The five messages of the example.
abbrev pub five : List Message
five = twenty 1 ∷ twenty 2 ∷ twenty 3 ∷ twenty 4 ∷ twenty 5 ∷ []

-- The view of a receiver that has delivered nothing, stores these messages, and knows that there are messages 1 to 5.
abbrev pub received : ℕ → List (ℕ × Message) → View
received window stored = record {
  session = nameless;
  next = 1;
  known = 6;
  ended = None;
  store = finite.from_sorted stored;
  window = window;
  room = None;
}
