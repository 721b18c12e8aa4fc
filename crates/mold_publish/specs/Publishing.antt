-- The messages of an input that are published.
use Rattle.std.specs.Prelude.{◌≡◌, ℕ, ◌*◌, ◌≤◌, Bool, nat_lt, if◌then◌else◌, List, [], ◌∷◌, ◌++◌, codes, decimal, length}
use Rattle.std.specs.Prelude.{Option, None, Some, Result, Ok, Err, ⊤}
use Rattle.hex.specs.Hex.{decode_of}
use Rattle.hex.specs.declared.error.FromHexError.{FromHexError}
use Rattle.mold_wire.specs.Packing.{Fits}
use Rattle.mold_input.specs.Entries.{Entry, InputEntries}
use Rattle.mold_input.specs.declared.input_fault.InputFault.{InputFault}
use Rattle.mold_input.specs.declared.input_fault.InputFault.TheVariants.{NotHex, TooLong, Cut}
use Rattle.mold_input.specs.declared.input_kind.InputKind.{InputKind}
use Rattle.mold_input.specs.declared.input_kind.InputKind.TheVariants.{Lines, Blocks}
use Rattle.mold_input.specs.declared.limits.TheConstants.{MAX_LINE}
use Rattle.mold_refusals.specs.Words.{append_words}
use Rattle.mold_text.specs.Text.{refused_line}
use Rattle.mold_session.specs.Journal.{JournalState, append_refusal, appended}
use Rattle.mold_session.specs.Publisher.{PublisherState, unsent_of, published}
use Rattle.mold_session.specs.declared.error.AppendError.{AppendError}
use Rattle.mold_session.specs.declared.error.AppendError.TheVariants.{Closed}
use Rattle.mold_publish.specs.declared.message_refusal.MessageRefusal.{MessageRefusal}
use Rattle.mold_publish.specs.declared.refusal_reason.RefusalReason.{RefusalReason}
use Rattle.mold_publish.specs.declared.refusal_reason.RefusalReason.TheVariants.{NotRead, NotTaken}
use Rattle.mold_publish.specs.declared.filling.Filled.{Filled}
use Rattle.mold_publish.specs.declared.filling.Filled.TheVariants.{Full, End, Refused}

-- The word that names one entry of an input of this kind.
abbrev pub entry_word : InputKind → List ℕ
entry_word Lines = codes "line"
entry_word Blocks = codes "block"

-- The words that report why an entry is not a message.
abbrev pub input_fault_words : InputFault → List (List ℕ)
input_fault_words NotHex = codes "NotHex" ∷ []
input_fault_words (TooLong len) = codes "TooLong" ∷ decimal len ∷ []
input_fault_words Cut = codes "Cut" ∷ []

-- The words that report why an entry is refused: a name, and the numbers that belong to it.
abbrev pub refusal_words : RefusalReason → List (List ℕ)
refusal_words (NotRead why) = input_fault_words why
refusal_words (NotTaken why) = append_words why

-- The line that reports a refusal: the number of the refused entry, and the reason.
abbrev pub refused_text : ℕ → MessageRefusal → List ℕ
refused_text number refusal = refused_line (entry_word refusal.kind ∷ decimal number ∷ refusal_words refusal.why)

-- The status of publishing: 0, or 2 if an entry is refused.
abbrev pub packed_status : Option MessageRefusal → ℕ
packed_status None = 0
packed_status (Some why) = 2

-- The entry is refused for this reason.
abbrev pub refused_for : InputKind → RefusalReason → Result (List ℕ) MessageRefusal
refused_for kind why = Err (record { kind = kind; why = why })

-- The message, or the reason why the journal refuses it.
abbrev pub unless_refused : InputKind → List ℕ → Option AppendError → Result (List ℕ) MessageRefusal
unless_refused kind message None = Ok message
unless_refused kind message (Some why) = refused_for kind (NotTaken why)

-- The reason why an entry with this fault is refused. A closed journal refuses a message of any length as `Closed`.
abbrev pub fault_refusal : InputFault → Bool → RefusalReason
fault_refusal NotHex closed = NotRead NotHex
fault_refusal (TooLong len) closed = if closed then NotTaken Closed else NotRead (TooLong len)
fault_refusal Cut closed = NotRead Cut

-- The message of an entry, or the reason why the entry is refused.
abbrev pub entry_outcome : InputKind → JournalState → Entry → Result (List ℕ) MessageRefusal
entry_outcome kind journal (Err why) = refused_for kind (fault_refusal why journal.closed)
entry_outcome kind journal (Ok message) = unless_refused kind message (append_refusal journal message)

-- A journal, and the reason why the entry after its messages is refused. There is no reason if no entry remains.
pub record PublishedInput : Type 0 where
  pub journal : JournalState
  -- the reason why the entry after the messages is refused, if there is such an entry
  pub refused : Option MessageRefusal

-- The result of publishing an entry and the entries after it. `behind` publishes the entries after it.
abbrev pub published_from : JournalState → Result (List ℕ) MessageRefusal → (JournalState → PublishedInput) →
    PublishedInput
published_from journal (Ok message) behind = behind (appended journal message)
published_from journal (Err why) behind = record { journal = journal; refused = Some why }

-- The journal after the messages of some entries were published in order, up to the first entry that is refused, and
-- the reason for that refusal.
unfoldable pub entries_published : InputKind → JournalState → List Entry → PublishedInput
entries_published kind journal [] = record { journal = journal; refused = None }
entries_published kind journal (entry ∷ entries) =
    published_from journal (entry_outcome kind journal entry) (λ next. entries_published kind next entries)

-- The journal after the entries of an input were published in order, up to the first one that is refused, and the
-- reason for that refusal.
abbrev pub input_published : JournalState → InputEntries → PublishedInput
input_published journal input = entries_published input.kind journal input.entries

-- The message that a line's digits encode, or the reason why the line is refused. More than `MAX_LINE` digits are too
-- long for a message of any journal.
abbrev pub line_outcome : JournalState → Result (List ℕ) FromHexError → Result (List ℕ) MessageRefusal
line_outcome journal (Err _) = refused_for Lines (NotRead NotHex)
line_outcome journal (Ok message) =
    if nat_lt MAX_LINE (2 * length message)
    then refused_for Lines (fault_refusal (TooLong (length message)) journal.closed)
    else unless_refused Lines message (append_refusal journal message)

-- The journal after the lines were published in order, up to the first one that is refused, and the reason for that
-- refusal.
unfoldable pub lines_published : JournalState → List (List ℕ) → PublishedInput
lines_published journal [] = record { journal = journal; refused = None }
lines_published journal (line ∷ lines) =
    published_from journal (line_outcome journal (decode_of line)) (λ next. lines_published next lines)

-- The publisher published the message of the entry.
pub record TakesEntry (old new : PublisherState) (outcome : Result (List ℕ) MessageRefusal) : Type 0 where
  pub message : List ℕ
  pub is : outcome ≡ Ok message
  pub taken : new ≡ published old message

-- The publisher published the message of the entry, or refused the entry for this reason and did not change.
abbrev pub PublishesEntry : PublisherState → PublisherState → Result (List ℕ) MessageRefusal → Option MessageRefusal →
    Type 0
PublishesEntry old new outcome None = TakesEntry old new outcome
PublishesEntry old new outcome (Some why) = (outcome ≡ Err why) × (new ≡ old)

-- The messages that are not yet in a datagram fit in one datagram.
pub record HasRoom (publisher : PublisherState) : Type 0 where
  -- the publisher has not sent more messages than there are
  pub sent : publisher.sent ≤ length publisher.journal.messages
  pub fits : Fits publisher.limit (unsent_of publisher)

-- The messages that are not yet in a datagram do not fit in one datagram. They fit without the last message, and that
-- message fits alone.
pub record IsJustFull (publisher : PublisherState) : Type 0 where
  -- the messages not yet in a datagram, without the last one
  pub found : List (List ℕ)
  -- the last message
  pub last : List ℕ
  pub parts : unsent_of publisher ≡ found ++ last ∷ []
  pub fits : Fits publisher.limit found
  pub more : ¬ Fits publisher.limit (found ++ last ∷ [])
  pub alone : Fits publisher.limit (last ∷ [])

-- The room that the publisher has after `fill` returned `filled`.
abbrev pub RoomAfter : PublisherState → Filled → Type 0
RoomAfter publisher Full = IsJustFull publisher
RoomAfter publisher End = HasRoom publisher
RoomAfter publisher (Refused refusal) = HasRoom publisher

-- What the input is published as, if publishing stopped with `filled` and `left` is the input that remains.
abbrev pub published_with : JournalState → InputEntries → Filled → PublishedInput
published_with journal left Full = input_published journal left
published_with journal left End = record { journal = journal; refused = None }
published_with journal left (Refused refusal) = record { journal = journal; refused = Some refusal }

-- The messages of the input before its rest were published. This is stated only if the input is known; the rest is then
-- known too.
abbrev pub InputPublished : JournalState → JournalState → Option InputEntries → Option InputEntries → Filled → Type 0
InputPublished old new None left filled = ⊤
InputPublished old new (Some input) None filled = ⊥
InputPublished old new (Some input) (Some left) filled = input_published old input ≡ published_with new left filled

-- The publisher published messages of the input, until it stopped with `filled`. Meanwhile it put nothing in a
-- datagram.
pub record Fills (old new : PublisherState) (known left : Option InputEntries) (filled : Filled) : Type 0 where
  pub limit : new.limit ≡ old.limit
  pub sent : new.sent ≡ old.sent
  pub room : RoomAfter new filled
  pub input : InputPublished old.journal new.journal known left filled
