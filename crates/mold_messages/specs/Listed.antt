-- A list of messages as its users see it.
use Rattle.std.specs.Prelude.{ℕ, ◌+◌, ◌≤◌, List, [], ◌∷◌, ◌++◌, length, sum_by}

-- A list of messages and its room. A list never loses room.
pub record Listed : Type 0 where
  -- The messages of the list, in order.
  pub messages : List (List ℕ)
  -- The number of messages that the list has room for without allocating.
  pub message_room : ℕ
  -- The number of bytes of all messages together that the list has room for without allocating.
  pub byte_room : ℕ

-- The length in bytes of the messages together.
abbrev pub byte_count : List (List ℕ) → ℕ
byte_count messages = sum_by (λ message. length message) messages

-- The list has room for `count` more messages with `size` bytes in total, without allocating.
pub record HasRoom (list : Listed) (count size : ℕ) : Type 0 where
  pub messages : length list.messages + count ≤ list.message_room
  pub bytes : byte_count list.messages + size ≤ list.byte_room

-- The room of the list is as large as before, or larger.
pub record KeepsRoom (old new : Listed) : Type 0 where
  pub messages : old.message_room ≤ new.message_room
  pub bytes : old.byte_room ≤ new.byte_room

-- The messages with the bytes `more` appended to the last one.
abbrev pub extended : List (List ℕ) → List ℕ → List (List ℕ)
extended [] more = []
extended (message ∷ []) more = (message ++ more) ∷ []
extended (message ∷ next ∷ messages) more = message ∷ extended (next ∷ messages) more
