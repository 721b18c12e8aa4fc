-- The batch of delivered messages as contracts describe it.
use Rattle.std.specs.Prelude.{◌≡◌, ℕ, ◌+◌, List, [], ◌∷◌, ◌++◌, length, Option, None, Some}
use Rattle.mold_receiver.specs.Store.{Message}

-- The model of a batch: messages with consecutive numbers, and the number of the first. That number is 0 if the batch
-- is empty.
pub record Handed : Type 0 where
  pub first : ℕ
  pub messages : List Message

-- The batch of these messages, the first of which has the number `first`. An empty batch always has the number 0.
abbrev pub handed_from : ℕ → List Message → Handed
handed_from first [] = record { first = 0; messages = [] }
handed_from first (message ∷ messages) = record { first = first; messages = message ∷ messages }

-- The number of the first message, or none if there are no messages.
abbrev pub first_in : ℕ → List Message → Option ℕ
first_in first [] = None
first_in first (message ∷ messages) = Some first

-- One more than the number of the last message, or none if there are no messages.
abbrev pub after_in : ℕ → List Message → Option ℕ
after_in first [] = None
after_in first (message ∷ messages) = Some (first + length (message ∷ messages))

-- There are no messages, or the last one has the number just before `next`.
abbrev pub FollowsIn : ℕ → List Message → ℕ → Type 0
FollowsIn first [] next = Unit {0}
FollowsIn first (message ∷ messages) next = first + length (message ∷ messages) ≡ next

-- The number of the first message of a batch, or none if the batch is empty.
abbrev pub first_of : Handed → Option ℕ
first_of batch = first_in batch.first batch.messages

-- One more than the number of the last message of a batch, or none if the batch is empty.
abbrev pub after_of : Handed → Option ℕ
after_of batch = after_in batch.first batch.messages

-- The message with the number `next` may follow in the batch. The batch is empty, or its last message has the number
-- just before `next`.
abbrev pub Follows : Handed → ℕ → Type 0
Follows batch next = FollowsIn batch.first batch.messages next

-- The first number of a batch after messages from `next` on were appended. It is `first` if there were messages
-- before, otherwise `next`.
abbrev pub joined_first : ℕ → List Message → ℕ → ℕ
joined_first first [] next = next
joined_first first (message ∷ messages) next = first

-- The batch with these messages appended. If the batch is empty, the first of them has the number `next`.
abbrev pub followed_by : Handed → ℕ → List Message → Handed
followed_by batch next [] = batch
followed_by batch next (message ∷ messages) = record {
  first = joined_first batch.first batch.messages next;
  messages = batch.messages ++ message ∷ messages;
}
