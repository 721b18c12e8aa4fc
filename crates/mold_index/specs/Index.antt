-- The index of a file: which entries it has, and where they lead.
use Rattle.std.specs.Prelude.{◌≡◌, ◌⊎◌, ℕ, ◌+◌, ◌-◌, ◌<◌, ◌≤◌, List, [], ◌∷◌, ◌++◌, length, take, sum_by}
use Rattle.std.specs.List.{All, AllAdjacentBelow, Any}
use Rattle.mold_session.specs.declared.journal.TheConstants.{MAX_MESSAGES}
use Rattle.mold_index.specs.declared.entries.TheConstants.{STRIDE_BYTES, STRIDE_MESSAGES}
use Rattle.mold_index.specs.declared.entry.Entry.{Entry}
use Rattle.mold_index.specs.declared.index.TheConstants.{MAX_END}
use Rattle.mold_index.specs.declared.layout.Layout.{Layout}

-- What an index has of a file.
pub record IndexState : Type 0 where
  pub layout : Layout
  -- the number of messages
  pub count : ℕ
  -- the offset at which the last message ends
  pub end : ℕ
  -- some of the messages, in order, and where they begin
  pub entries : List Entry

-- The index of a file without messages.
abbrev pub fresh_index : Layout → IndexState
fresh_index layout = record { layout = layout; count = 0; end = layout.start; entries = [] }

-- The offset at which message `number` begins in a file whose messages have these lengths. The first message has number
-- 1. For the number after the last message's, it is the offset at which the last message ends.
abbrev pub offset_of : Layout → List ℕ → ℕ → ℕ
offset_of layout lengths number = layout.start + sum_by (λ len. layout.overhead + len) (take (number - 1) lengths)

-- The file has the message of this entry, which begins at the entry's offset.
pub record IsEntry (layout : Layout) (lengths : List ℕ) (entry : Entry) : Type 0 where
  pub first : 1 ≤ entry.number
  pub last : entry.number ≤ length lengths
  pub begins : entry.offset ≡ offset_of layout lengths entry.number

-- The entry is at or before message `number`: fewer than 64 messages and fewer than 32,768 bytes before it.
pub record IsNear (layout : Layout) (lengths : List ℕ) (number : ℕ) (entry : Entry) : Type 0 where
  pub before : entry.number ≤ number
  pub few : number < entry.number + STRIDE_MESSAGES
  pub close : offset_of layout lengths number < entry.offset + STRIDE_BYTES

-- The second entry is after the first one, and 64 messages or more, or 32,768 bytes or more, after it.
pub record AreApart (entry next : Entry) : Type 0 where
  pub later : entry.number < next.number
  pub far : (entry.number + STRIDE_MESSAGES ≤ next.number) ⊎ (entry.offset + STRIDE_BYTES ≤ next.offset)

-- The index is that of a file whose messages have these lengths.
pub record Indexes (index : IndexState) (lengths : List ℕ) : Type 0 where
  pub counted : index.count ≡ length lengths
  pub ends : index.end ≡ offset_of index.layout lengths (length lengths + 1)
  pub each : All (IsEntry index.layout lengths) index.entries
  pub apart : AllAdjacentBelow AreApart index.entries (length index.entries)
  pub near : (number : ℕ) → 1 ≤ number → number ≤ length lengths →
      Any (IsNear index.layout lengths number) index.entries

-- The properties of every index: it is that of a file, and the file is within the limits.
pub record IsIndex (index : IndexState) : Type 0 where
  pub lengths : List ℕ
  pub indexes : Indexes index lengths
  pub few : index.count ≤ MAX_MESSAGES
  pub below : index.end ≤ MAX_END

-- The index is the earlier one after messages of these lengths were appended.
pub record Appends (earlier index : IndexState) (lengths : List ℕ) : Type 0 where
  pub layout : index.layout ≡ earlier.layout
  pub indexes : (before : List ℕ) → Indexes earlier before → Indexes index (before ++ lengths)

-- The last message of the file has `len` bytes.
pub record HasLast (index : IndexState) (len : ℕ) : Type 0 where
  -- the lengths of the messages before it
  pub lengths : List ℕ
  pub indexes : Indexes index (lengths ++ len ∷ [])

-- The file has a message with this number.
abbrev pub HasNumber : IndexState → ℕ → Type 0
HasNumber index number = (1 ≤ number) × (number ≤ index.count)

-- The entry leads to message `number`: it is right, and near the message.
pub record LeadsTo (layout : Layout) (lengths : List ℕ) (number : ℕ) (entry : Entry) : Type 0 where
  pub right : IsEntry layout lengths entry
  pub near : IsNear layout lengths number entry
