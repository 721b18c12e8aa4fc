-- How the entries of an input compare with the messages of the journal that was found.
use Rattle.std.specs.Prelude.{◌≡◌, ℕ, ⊤, List, [], ◌∷◌, ◌++◌, length, map, nat_lt, if◌then◌else◌, Option, None, Some}
use Rattle.std.specs.Prelude.{◌+◌, ◌-◌, take, Result, Ok, Err}
use Rattle.std.specs.Str.{bytes_eq}
use Rattle.mold_devices.specs.Faults.{CountsReadFault, from_read_fault}
use Rattle.mold_devices.specs.declared.fault.CommandFault.{CommandFault}
use Rattle.mold_devices.specs.declared.fault.CommandFault.TheVariants as command
use Rattle.mold_input.specs.Entries.{Entry}
use Rattle.mold_publish.specs.declared.refusal_reason.RefusalReason.TheVariants.{NotRead, NotTaken}
use Rattle.mold_session.specs.Journal.{JournalState, message_numbered}
use Rattle.mold_session.specs.Loading.{CountsLoadFault}
use Rattle.mold_session.specs.declared.error.AppendError.TheVariants.{TooLong}
use Rattle.mold_session.specs.declared.error.FileError.{FileError}
use Rattle.mold_session.specs.declared.error.FileError.TheVariants as file
use Rattle.mold_feeder.specs.JournalMessages.{IsOfDevice}
use Rattle.mold_feeder.specs.declared.compare_fault.CompareFault.{CompareFault}
use Rattle.mold_feeder.specs.declared.compare_fault.CompareFault.TheVariants.{FewerMessages, File, Input}
use Rattle.mold_feeder.specs.declared.compared.Compared.{Compared}
use Rattle.mold_feeder.specs.declared.compared.Compared.TheVariants.{Same, Differs, Refused, End}

-- How a message compares with the one that the journal has at its number, if it has one.
abbrev pub compared_with : Option (List ℕ) → List ℕ → Compared
compared_with None message = Differs
compared_with (Some other) message = if bytes_eq other message then Same else Differs

-- The same, for a journal whose messages have at most `most` bytes. A longer message is refused.
abbrev pub compared_short : ℕ → Option (List ℕ) → List ℕ → Compared
compared_short most other message =
    if nat_lt most (length message) then Refused (NotTaken (TooLong (length message))) else compared_with other message

-- How an entry compares with the journal's message of this number. An entry that would be refused as a message is
-- refused.
abbrev pub compared_entry : JournalState → ℕ → Entry → Compared
compared_entry journal number (Err why) = Refused (NotRead why)
compared_entry journal number (Ok message) =
    compared_short journal.max_message (message_numbered journal.messages number) message

-- The first entry was compared with the journal's message of this number, and `left` are the entries after it. If there
-- was no entry, the result is `End`. If the entries are not known, the relation states nothing.
abbrev pub ComparesFirst : JournalState → ℕ → List Entry → List Entry → Compared → Type 0
ComparesFirst journal number [] left compared = compared ≡ End
ComparesFirst journal number (entry ∷ entries) left compared =
    (compared ≡ compared_entry journal number entry) × (left ≡ entries)

-- The same, as far as the entries are known.
abbrev pub ComparesNext : JournalState → ℕ → Option (List Entry) → Option (List Entry) → Compared → Type 0
ComparesNext journal number None left compared = ⊤
ComparesNext journal number (Some entries) None compared = ⊥
ComparesNext journal number (Some entries) (Some left) compared = ComparesFirst journal number entries left compared

-- How a comparison stops at the journal's message of number `number`, if `mid` are the entries from that message on. If
-- all messages were compared, that is the number of the journal's next message.
abbrev pub StopsAt : JournalState → ℕ → List Entry → List Entry → Compared → Type 0
StopsAt journal number mid left Same = (number ≡ length journal.messages + 1) × (left ≡ mid)
StopsAt journal number mid left Differs = ComparesFirst journal number mid left Differs
StopsAt journal number mid left (Refused why) = ComparesFirst journal number mid left (Refused why)
StopsAt journal number mid left End = ComparesFirst journal number mid left End

-- The entries are the journal's messages from number `from` on, up to but not including `to`. Then the comparison
-- stopped. `left` are the entries after those that were compared.
pub record ComparesEntries (journal : JournalState) (from to : ℕ) (entries left : List Entry) (compared : Compared) :
    Type 0 where
  -- the entries from message `to` on
  pub mid : List Entry
  pub same : map Ok (take (from - 1) journal.messages) ++ entries ≡ map Ok (take (to - 1) journal.messages) ++ mid
  pub stops : StopsAt journal to mid left compared

-- The same, as far as the entries are known.
abbrev pub ComparesAll : JournalState → ℕ → ℕ → Option (List Entry) → Option (List Entry) → Compared → Type 0
ComparesAll journal from to None left compared = ⊤
ComparesAll journal from to (Some entries) None compared = ⊥
ComparesAll journal from to (Some entries) (Some left) compared = ComparesEntries journal from to entries left compared

-- The number of the message that is compared next, after an entry compared so with the message of this number.
abbrev pub number_after : Compared → ℕ → ℕ
number_after Same number = number + 1
number_after Differs number = number
number_after (Refused why) number = number
number_after End number = number

-- The fault is one of the journal's file: it could not be read, or it lacks the message.
abbrev pub IsOfFile : CompareFault → Type 0
IsOfFile (Input fault) = ⊥
IsOfFile (File error) = ⊤
IsOfFile FewerMessages = ⊤

-- A read or an allocation failed. The fault states nothing of the journal's file.
abbrev pub IsDeviceFault : CompareFault → Type 0
IsDeviceFault (Input fault) = ⊤
IsDeviceFault (File error) = IsOfDevice error
IsDeviceFault FewerMessages = ⊥

-- The counts of failures of the input and of the journal's file after a fault. The count of the one whose read failed
-- increases by one.
abbrev pub CountsCompareFault : (input_old input_new file_old file_new : ℕ) → CompareFault → Type 0
CountsCompareFault input_old input_new file_old file_new (Input fault) =
    CountsReadFault input_old input_new fault × (file_new ≡ file_old)
CountsCompareFault input_old input_new file_old file_new (File error) =
    (input_new ≡ input_old) × CountsLoadFault file_old file_new error
CountsCompareFault input_old input_new file_old file_new FewerMessages =
    (input_new ≡ input_old) × (file_new ≡ file_old)

-- The same after a call. Without a fault, both counts are unchanged.
abbrev pub CountsCompare : {T : Type 0} → (input_old input_new file_old file_new : ℕ) → Result T CompareFault → Type 0
CountsCompare input_old input_new file_old file_new (Ok _) = (input_new ≡ input_old) × (file_new ≡ file_old)
CountsCompare input_old input_new file_old file_new (Err fault) =
    CountsCompareFault input_old input_new file_old file_new fault

-- The fault of a command whose comparison of a file ended with this error.
abbrev pub command_error : FileError → CommandFault
command_error file.Memory = command.Memory
command_error other = command.Read

-- The fault of a command whose comparison ended with this fault.
abbrev pub command_fault : CompareFault → CommandFault
command_fault (Input fault) = from_read_fault fault
command_fault (File error) = command_error error
command_fault FewerMessages = command.Read
