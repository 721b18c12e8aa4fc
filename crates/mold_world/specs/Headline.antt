-- The terms of the headline: prefixes, delivered messages and whole sessions.
use Rattle.std.specs.Prelude.{◌≡◌, ℕ, ◌+◌, List, [], ◌∷◌, ◌++◌, length, Some, true}
use Rattle.std.specs.List.{AllByRecursion}
use Rattle.mold_wire.specs.Truth.{published_at}
use Rattle.mold_world.specs.Machine.{Machine, Step, after}
use Rattle.mold_world.specs.Machine.Step.{Publish, Close, Send, Deliver, Restart, Nothing}

-- The list `front` is a prefix of the list `whole`.
pub record IsPrefix (front whole : List (List ℕ)) : Type 0 where
  -- The rest of `whole`.
  pub behind : List (List ℕ)
  pub parts : whole ≡ front ++ behind

-- One delivered message, with the receiver that delivered it and its number.
pub record HandOn : Type 0 where
  pub receiver : ℕ
  pub number : ℕ
  pub message : List ℕ

-- The delivered messages of one receiver, with consecutive numbers from `number` on.
abbrev pub handed_from : ℕ → ℕ → List (List ℕ) → List HandOn
handed_from receiver number [] = []
handed_from receiver number (message ∷ messages) =
    record { receiver = receiver; number = number; message = message } ∷ handed_from receiver (number + 1) messages

-- The messages that a step delivers.
abbrev pub handed_in : Machine → Step → List HandOn
handed_in machine (Publish message) = []
handed_in machine Close = []
handed_in machine (Send bytes) = []
handed_in machine (Deliver receiver messages ended) =
    handed_from receiver (length (machine.logs receiver).book + 1) messages
handed_in machine (Restart receiver next) = []
handed_in machine Nothing = []

-- The messages that the steps deliver, in order, including those of receivers that restart later.
abbrev pub all_handed : Machine → List Step → List HandOn
all_handed machine [] = []
all_handed machine (step ∷ steps) = handed_in machine step ++ all_handed (after machine step) steps

-- Each delivered message is the one that was published with its number.
abbrev pub ArePublished : List (List ℕ) → List HandOn → Type 0
ArePublished published handed =
    AllByRecursion (λ (hand_on : HandOn). published_at published hand_on.number ≡ Some hand_on.message) handed

-- The session is closed, and the receiver's book is everything that was published.
pub record HasAll (machine : Machine) (receiver : ℕ) : Type 0 where
  pub closed : machine.closed ≡ true
  pub whole : (machine.logs receiver).book ≡ machine.published
