-- The entries of an input: for each message the message itself, or the reason why it is not a message.
use Rattle.std.specs.Prelude.{◌≡◌, ℕ, ◌*◌, nat_lt, if◌then◌else◌, List, [], ◌∷◌, length, map, Option, None, Some}
use Rattle.std.specs.Prelude.{Result, Ok, Err, ⊤}
use Rattle.hex.specs.Hex.{decode_of}
use Rattle.hex.specs.declared.error.FromHexError.{FromHexError}
use Rattle.mold_devices.specs.Lines.{lines_of}
use Rattle.mold_input.specs.declared.input_fault.InputFault.{InputFault}
use Rattle.mold_input.specs.declared.input_fault.InputFault.TheVariants.{NotHex, TooLong}
use Rattle.mold_input.specs.declared.limits.TheConstants.{MAX_LINE}
use Rattle.mold_input.specs.declared.input_kind.InputKind.{InputKind}
use Rattle.mold_input.specs.declared.next.Next.{Next}
use Rattle.mold_input.specs.declared.next.Next.TheVariants.{Message, Fault, End}

-- The message that an input holds at one position, or the reason why that position is not a message.
abbrev pub Entry : Type 0
Entry = Result (List ℕ) InputFault

-- The entry of a line that encodes these bytes. A line of more than `MAX_LINE` digits is too long for a message.
abbrev pub bytes_entry : List ℕ → Entry
bytes_entry bytes = if nat_lt MAX_LINE (2 * length bytes) then Err (TooLong (length bytes)) else Ok bytes

-- The entry of a line whose digits decode to this result.
abbrev pub digits_entry : Result (List ℕ) FromHexError → Entry
digits_entry (Ok bytes) = bytes_entry bytes
digits_entry (Err _) = Err NotHex

-- The entry of a line: the message that its hexadecimal digits encode, unless it is too long.
abbrev pub line_entry : List ℕ → Entry
line_entry line = digits_entry (decode_of line)

-- The entries of an input of lines.
abbrev pub line_entries : List ℕ → List Entry
line_entries input = map line_entry (lines_of input)

-- The entries of the remaining input, if that is known.
abbrev pub known_entries : (List ℕ → List Entry) → Option (List ℕ) → Option (List Entry)
known_entries entries None = None
known_entries entries (Some input) = Some (entries input)

-- An input: its kind, and its entries in order.
pub record InputEntries : Type 0 where
  pub kind : InputKind
  pub entries : List Entry

-- The input with these entries, if they are known.
abbrev pub with_kind : InputKind → Option (List Entry) → Option InputEntries
with_kind kind None = None
with_kind kind (Some entries) = Some (record { kind = kind; entries = entries })

-- The remaining input of this kind, if its bytes are known.
abbrev pub known_input : InputKind → (List ℕ → List Entry) → Option (List ℕ) → Option InputEntries
known_input kind entries input = with_kind kind (known_entries entries input)

-- The entries before a reader moved to `next`, from the entries `left` after it. `message` is what it then holds.
abbrev pub entries_before : Next → List ℕ → List Entry → List Entry
entries_before Message message left = Ok message ∷ left
entries_before (Fault why) message left = Err why ∷ left
entries_before End message left = []

-- The reader read the first of the entries as `next`, and `left` are the entries after it. If there was no entry,
-- `next` is `End`. If the entries are not known, the relation states nothing.
abbrev pub GivesNext : Option (List Entry) → Option (List Entry) → Next → List ℕ → Type 0
GivesNext None left next message = ⊤
GivesNext (Some entries) None next message = ⊥
GivesNext (Some entries) (Some left) next message = entries ≡ entries_before next message left

-- The reader found an entry: a message or a fault.
abbrev pub IsEntryFound : Next → Type 0
IsEntryFound Message = ⊤
IsEntryFound (Fault why) = ⊤
IsEntryFound End = ⊥

-- The model of a reader of messages.
pub record ReaderState : Type 0 where
  -- The message that was found last.
  pub message : List ℕ
  -- The bytes that were read from the source and belong to later entries.
  pub unread : List ℕ
