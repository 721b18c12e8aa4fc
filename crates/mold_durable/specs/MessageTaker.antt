-- Which journal a taker holds after messages were passed to it.
use Rattle.std.specs.Prelude.{◌≡◌, Bool, false, List, ◌++◌, length, ℕ}
use Rattle.std.specs.List.{AllByRecursion}
use Rattle.mold_session.specs.Journal.{IsJournal, IsWithin, JournalState, appended}

-- The journal with these messages appended, and then closed or open.
abbrev pub continued : JournalState → List (List ℕ) → Bool → JournalState
continued journal messages closed = record journal { messages = journal.messages ++ messages; closed = closed }

-- A taker that held an open journal now holds it with these messages appended, and then closed or open.
abbrev pub HasTaken : {T : Type 0} → (T → JournalState → Type 0) → Bool → T → T → List (List ℕ) → Type 0
HasTaken holds closed old new messages =
    (journal : JournalState) → holds old journal → journal.closed ≡ false →
    IsJournal (continued journal messages closed) → holds new (continued journal messages closed)

-- The taker holds an open journal of `count` messages, each of which has at most `most` bytes.
pub record HoldsOpen {T : Type 0} (holds : T → JournalState → Type 0) (most count : ℕ) (taker : T) : Type 0 where
  pub journal : JournalState
  pub held : holds taker journal
  pub is_open : journal.closed ≡ false
  pub limited : journal.max_message ≡ most
  pub counted : count ≡ length journal.messages
  pub each : AllByRecursion (IsWithin most) journal.messages

-- The taker holds an open journal that can take the message.
pub record MayTake {T : Type 0} (holds : T → JournalState → Type 0) (taker : T) (message : List ℕ) : Type 0 where
  pub journal : JournalState
  pub held : holds taker journal
  pub is_open : journal.closed ≡ false
  pub more : IsJournal (appended journal message)
