-- Messages at the start of some bytes, which are a piece of a file. `spelling` is the encoding of a message in that file.
use Rattle.std.specs.Prelude.{◌≡◌, ℕ, List, ◌++◌, length, flat_map}
use Rattle.std.specs.List.{AllByRecursion}
use Rattle.mold_wire.specs.Block.{IsMessage}

-- The bytes are the message, and then the bytes `rest`.
pub record IsMessageAndRest (spelling : List ℕ → List ℕ) (bytes message rest : List ℕ) : Type 0 where
  pub fits : IsMessage message
  pub parts : bytes ≡ spelling message ++ rest

-- The bytes do not begin with a whole message.
abbrev pub BeginsNoMessage : (List ℕ → List ℕ) → List ℕ → Type 0
BeginsNoMessage spelling bytes = (message rest : List ℕ) → IsMessageAndRest spelling bytes message rest → ⊥

-- The bytes are `count` messages, and then the bytes `rest`.
pub record AreMessagesAndRest (spelling : List ℕ → List ℕ) (count : ℕ) (bytes rest : List ℕ) : Type 0 where
  pub messages : List (List ℕ)
  pub counted : length messages ≡ count
  pub each : AllByRecursion IsMessage messages
  pub parts : bytes ≡ flat_map spelling messages ++ rest

-- The bytes are `skip` messages, then `message`, and then the bytes `rest`.
pub record FindsMessage (spelling : List ℕ → List ℕ) (skip : ℕ) (bytes message rest : List ℕ) : Type 0 where
  pub next : List ℕ
  pub skipped : AreMessagesAndRest spelling skip bytes next
  pub found : IsMessageAndRest spelling next message rest

-- The bytes begin with `skip` messages, and then `message`.
pub record HasMessage (spelling : List ℕ → List ℕ) (skip : ℕ) (bytes message : List ℕ) : Type 0 where
  pub rest : List ℕ
  pub finds : FindsMessage spelling skip bytes message rest

-- The bytes are exactly `count` whole messages, and then no whole message.
pub record EndAfter (spelling : List ℕ → List ℕ) (count : ℕ) (bytes : List ℕ) : Type 0 where
  pub rest : List ℕ
  pub whole : AreMessagesAndRest spelling count bytes rest
  pub none : BeginsNoMessage spelling rest
