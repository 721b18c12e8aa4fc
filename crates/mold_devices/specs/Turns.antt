-- Commands that read lines and write text, one turn after another.
use Rattle.std.specs.Prelude.{◌≡◌, ℕ, List, ◌++◌, Option, None, Some, ⊤}
use Rattle.mold_devices.specs.declared.turn.Turn.{Turn}
use Rattle.mold_devices.specs.declared.turn.Turn.TheVariants.{More, Done}

-- The text that a command writes for the remaining input, and the status that it ends with.
pub record Printing : Type 0 where
  pub text : List ℕ → List ℕ
  pub status : List ℕ → ℕ

-- The turn appends the text `added`; `input` remains before it and `left` after it. The text for `input` is
-- `added` followed by the text for `left`. If the turn is the last one, the text for `input` is `added` alone.
abbrev pub Goes : Printing → Printing → List ℕ → List ℕ → List ℕ → Turn → Type 0
Goes before after input left added More =
    (before.text input ≡ added ++ after.text left) × (before.status input ≡ after.status left)
Goes before after input left added (Done status) = (before.text input ≡ added) × (before.status input ≡ status)

-- The same if the input is known. If it is not known, the relation states nothing.
abbrev pub GoesOver : Printing → Printing → Option (List ℕ) → Option (List ℕ) → List ℕ → Turn → Type 0
GoesOver before after None left added turn = ⊤
GoesOver before after (Some input) None added turn = ⊥
GoesOver before after (Some input) (Some left) added turn = Goes before after input left added turn

-- The effect of one turn: it appends to `old` the text for the input that it read.
pub record IsTurn (before after : Printing) (known left : Option (List ℕ)) (old new : List ℕ) (turn : Turn) :
    Type 0 where
  -- The text that the turn appends.
  pub added : List ℕ
  pub written : new ≡ old ++ added
  pub goes : GoesOver before after known left added turn
