-- The state of a publisher of which only some messages are in memory.
use Rattle.std.specs.Prelude.{ℕ, ◌+◌, ◌≤◌, List, ◌++◌, length}
use Rattle.mold_session.specs.Journal.{JournalState}
use Rattle.mold_session.specs.Publisher.{IsPublisher, PublisherState}

-- The journal of these messages, which follow those of the journal `earlier`.
abbrev pub followed : JournalState → List (List ℕ) → JournalState
followed earlier list = record earlier { messages = earlier.messages ++ list }

-- The publisher whose messages are those of the journal `earlier`, followed by those of the list. Those of the journal
-- and the first `packed` of the list were put into a datagram.
abbrev pub publisher_of : JournalState → List (List ℕ) → ℕ → ℕ → PublisherState
publisher_of earlier list packed limit =
    record { journal = followed earlier list; limit = limit; sent = length earlier.messages + packed }

-- What holds of the fields of every publisher of unsent messages.
pub record IsUnsent (earlier : JournalState) (list : List (List ℕ)) (packed limit : ℕ) : Type 0 where
  pub within : packed ≤ length list
  pub publisher : IsPublisher (publisher_of earlier list packed limit)
