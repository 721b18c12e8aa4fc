-- The state of a journal, and how appending a message changes it.
use Rattle.std.specs.Prelude.{ℕ, zero, suc, ◌-◌, ◌≤◌, ◌<◌, Bool, false, List, [], ◌∷◌, ◌++◌, length, take, nat_lt, ◌==◌}
use Rattle.std.specs.Prelude.{if◌then◌else◌, slice_get, Option, None, Some}
use Rattle.std.specs.List.{AllByRecursion}
use Rattle.mold_wire.specs.declared.limits.TheConstants.{MAX_NUMBER}
use Rattle.mold_wire.specs.declared.session.Session.{Session}
use Rattle.mold_session.specs.declared.error.AppendError.{AppendError}
use Rattle.mold_session.specs.declared.error.AppendError.TheVariants.{Closed, TooLong, Full}
use Rattle.mold_session.specs.declared.journal.TheConstants.{MAX_MESSAGES}

-- The state of a journal: its session, the maximum length of a message, the messages, and whether it is closed.
pub record JournalState : Type 0 where
  pub session : Session
  -- the largest length of a message, in bytes
  pub max_message : ℕ
  -- the messages in order, the first of which has number 1
  pub messages : List (List ℕ)
  -- whether the journal takes no more messages
  pub closed : Bool

-- An open journal without messages.
abbrev pub fresh_journal : Session → ℕ → JournalState
fresh_journal session max_message =
    record { session = session; max_message = max_message; messages = []; closed = false }

-- The message has at most `most` bytes.
abbrev pub IsWithin : ℕ → List ℕ → Type 0
IsWithin most message = length message ≤ most

-- A journal may have these messages: there are at most `MAX_MESSAGES`, and each has at most `most` bytes.
pub record AreMessages (most : ℕ) (messages : List (List ℕ)) : Type 0 where
  pub few : length messages < MAX_NUMBER
  pub each : AllByRecursion (IsWithin most) messages

-- The properties of every journal: the number of its messages and their lengths are within the limits.
abbrev pub IsJournal : JournalState → Type 0
IsJournal journal = AreMessages journal.max_message journal.messages

-- The message with this sequence number. The first message has number 1.
abbrev pub message_numbered : List (List ℕ) → ℕ → Option (List ℕ)
message_numbered messages zero = None
message_numbered messages (suc i) = slice_get messages i

-- The first reason why the message can't be appended. If there is none, only an allocation can still fail.
abbrev pub append_refusal : JournalState → List ℕ → Option AppendError
append_refusal journal message =
    if journal.closed then Some Closed
    else if nat_lt journal.max_message (length message) then Some (TooLong (length message))
    else if length journal.messages == MAX_MESSAGES then Some Full
    else None

-- The journal without the messages that have sequence number `below` or more.
abbrev pub journal_below : JournalState → ℕ → JournalState
journal_below journal below = record journal { messages = take (below - 1) journal.messages }

-- The journal without its last message.
abbrev pub without_last : JournalState → JournalState
without_last journal = record journal { messages = take (length journal.messages - 1) journal.messages }

-- The journal with `message` appended.
abbrev pub appended : JournalState → List ℕ → JournalState
appended journal message = record journal { messages = journal.messages ++ message ∷ [] }
