-- The messages of an input that join those that wait to be committed.
use Rattle.std.specs.Prelude.{◌≡◌, ◌⊎◌, ℕ, ◌≤◌, List, ◌++◌, ◌∷◌, [], length, Option, None, Some, Result, Ok, Err}
use Rattle.mold_durable.specs.Life.{IsFileOf, Life}
use Rattle.mold_durable_publisher.specs.DurablePublisher.{Publishes}
use Rattle.mold_durable_publisher.specs.Told.{IsLife}
use Rattle.mold_durable_publisher.specs.declared.durable_publisher.DurablePublisher.{DurablePublisher}
use Rattle.mold_input.specs.Entries.{Entry, InputEntries, with_kind}
use Rattle.mold_input.specs.declared.input_kind.InputKind.{InputKind}
use Rattle.mold_publish.specs.Publishing.{InputPublished}
use Rattle.mold_publish.specs.declared.filling.Filled.{Filled}
use Rattle.mold_publish.specs.declared.filling.Filled.TheVariants as filled
use Rattle.mold_publish.specs.declared.message_refusal.MessageRefusal.{MessageRefusal}
use Rattle.mold_session.specs.Journal.{appended}
use Rattle.mold_session.specs.Records.{SpellsJournal3}
use Rattle.mold_feeder.specs.declared.gathered.Gathered.{Gathered}
use Rattle.mold_feeder.specs.declared.gathered.Gathered.TheVariants.{Full, End, Refused}

-- The life of a journal after these messages have joined those that wait.
abbrev pub with_waiting : Life → List (List ℕ) → Life
with_waiting life messages = record life { waiting = life.waiting ++ messages }

-- The same reason, as publishing without a durable journal has it.
abbrev pub filled_for : Gathered → Filled
filled_for Full = filled.Full
filled_for End = filled.End
filled_for (Refused refusal) = filled.Refused refusal

-- The publisher has the messages that it had, and after them messages of the input before its rest, or none.
pub record Grows {S : Type 0} (kind : InputKind) (known : Option InputEntries) (old new : DurablePublisher S) :
    Type 0 where
  pub messages : List (List ℕ)
  pub added : new.publisher.journal.messages ≡ old.publisher.journal.messages ++ messages
  -- the entries after these messages
  pub left : Option (List Entry)
  pub filled : Filled
  pub input : InputPublished old.publisher.journal new.publisher.journal known (with_kind kind left) filled

-- The message of the entry joined those that wait.
pub record JoinsWaiting {S : Type 0} (shows may_leave : S → List ℕ → Type 0) (life : Life)
    (old new : DurablePublisher S) (outcome : Result (List ℕ) MessageRefusal) : Type 0 where
  pub message : List ℕ
  pub is : outcome ≡ Ok message
  pub journal : new.publisher.journal ≡ appended old.publisher.journal message
  pub sent : new.publisher.sent ≡ old.publisher.sent
  pub storage : new.durable.storage ≡ old.durable.storage
  pub publishes : Publishes shows may_leave new (record life { waiting = life.waiting ++ message ∷ [] })

-- Nothing joined those that wait. At most the index has changed.
pub record JoinsNothing {S : Type 0} (shows may_leave : S → List ℕ → Type 0) (life : Life)
    (old new : DurablePublisher S) : Type 0 where
  pub same : new ≡ record old { index = new.index }
  pub publishes : Publishes shows may_leave new life

-- The message of the entry joined those that wait, or the entry was refused for this reason and nothing joined.
abbrev pub JoinsOrRefuses : {S : Type 0} → (S → List ℕ → Type 0) → (S → List ℕ → Type 0) → Life → DurablePublisher S →
    DurablePublisher S → Result (List ℕ) MessageRefusal → Option MessageRefusal → Type 0
JoinsOrRefuses shows may_leave life old new outcome None = JoinsWaiting shows may_leave life old new outcome
JoinsOrRefuses shows may_leave life old new outcome (Some why) =
    (outcome ≡ Err why) × JoinsNothing shows may_leave life old new

-- At most `most` messages of the input joined those that wait, until it stopped with `gathered`. Nothing was sent, and
-- the storage was not used.
pub record Gathers {S : Type 0} (shows may_leave : S → List ℕ → Type 0) (life : Life) (most : ℕ)
    (old new : DurablePublisher S) (known left : Option InputEntries) (gathered : Gathered) : Type 0 where
  -- the messages that joined
  pub messages : List (List ℕ)
  pub few : length messages ≤ most
  pub added : new.publisher.journal.messages ≡ old.publisher.journal.messages ++ messages
  pub sent : new.publisher.sent ≡ old.publisher.sent
  pub storage : new.durable.storage ≡ old.durable.storage
  pub publishes : Publishes shows may_leave new (with_waiting life messages)
  pub input : InputPublished old.publisher.journal new.publisher.journal known left (filled_for gathered)

-- The life of a journal after these messages and those that wait were committed.
abbrev pub with_committed : Life → List (List ℕ) → Life
with_committed life messages = record life { committed = life.committed ++ (life.waiting ++ messages); waiting = [] }

-- The bytes are a file of the committed messages of this life, or of all messages that the publisher has.
abbrev pub IsFileUpTo : {S : Type 0} → Life → DurablePublisher S → List ℕ → Type 0
IsFileUpTo life publisher bytes =
    IsFileOf life bytes ⊎ SpellsJournal3 life.session publisher.publisher.journal.messages life.closed bytes

-- At most `most` messages of the input were committed, together with those that waited. The input was taken until it
-- stopped with `gathered`. Nothing was sent.
pub record TakesGroup {S : Type 0} (shows may_leave : S → List ℕ → Type 0) (life : Life) (most : ℕ)
    (old new : DurablePublisher S) (known left : Option InputEntries) (gathered : Gathered) : Type 0 where
  -- the messages that were taken from the input
  pub messages : List (List ℕ)
  pub few : length messages ≤ most
  pub possible : IsLife (with_waiting life messages)
  pub added : new.publisher.journal.messages ≡ old.publisher.journal.messages ++ messages
  pub sent : new.publisher.sent ≡ old.publisher.sent
  pub publishes : Publishes shows may_leave new (with_committed life messages)
  pub input : InputPublished old.publisher.journal new.publisher.journal known left (filled_for gathered)
