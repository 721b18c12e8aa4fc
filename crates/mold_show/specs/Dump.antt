-- What `mold dump` prints for a file: the bytes on standard output, and the line on standard error.
use Rattle.std.specs.Prelude.{◌≡◌, ◌⊎◌, ℕ, ◌+◌, ◌-◌, List, [], ◌∷◌, ◌++◌, length, take, drop, Bool, true, false, ◌&&◌}
use Rattle.std.specs.Prelude.{nat_le, nat_lt, if◌then◌else◌, Option, None, Some, option_map, Result, Ok, Err, ⊤, codes}
use Rattle.std.specs.Prelude.{decimal}
use Rattle.std.specs.List.{flat_map, list_any}
use Rattle.hex.specs.Hex.{encode_lower}
use Rattle.mold_devices.specs.Faults.{CountsCommand}
use Rattle.mold_devices.specs.declared.fault.CommandFault.{CommandFault}
use Rattle.mold_input.specs.declared.message_format.MessageFormat.{MessageFormat}
use Rattle.mold_input.specs.declared.message_format.MessageFormat.TheVariants.{Lines, Blocks, BlocksToEmpty}
use Rattle.mold_refusals.specs.Words.{file_fault_words}
use Rattle.mold_session.specs.Contents.{FileContents, Gives}
use Rattle.mold_session.specs.Loading.{CountsLoadFault, Refuses}
use Rattle.mold_session.specs.Reader.{ReaderState, ReadsNext, RestFault}
use Rattle.mold_session.specs.declared.error.FileError.{FileError}
use Rattle.mold_session.specs.declared.error.FileError.TheVariants.{Memory, Read}
use Rattle.mold_show.specs.declared.dump_fault.DumpFault.{DumpFault}
use Rattle.mold_show.specs.declared.dump_fault.DumpFault.TheVariants.{Empty, File}
use Rattle.mold_show.specs.declared.dump_options.DumpOptions.{DumpOptions}
use Rattle.mold_text.specs.Line.{line_of}
use Rattle.mold_text.specs.Text.{refused_line}
use Rattle.mold_wire.specs.Block.{block}
use Rattle.mold_wire.specs.declared.block.TheConstants.{MAX_MESSAGE}

-- ---- the messages

-- The line of a message: its bytes as lower-case digits. The line of an empty message is empty.
abbrev pub message_line : List ℕ → List ℕ
message_line message = line_of (encode_lower message ∷ [])

-- The bytes of a message in the output: a line, or a block.
abbrev pub message_text : MessageFormat → List ℕ → List ℕ
message_text Lines message = message_line message
message_text Blocks message = block message
message_text BlocksToEmpty message = block message

-- The bytes of the messages in the output, one after the other.
abbrev pub messages_text : MessageFormat → List (List ℕ) → List ℕ
messages_text format messages = flat_map (message_text format) messages

-- The messages that the options ask for: those from number `from` on, at most `count` of them. The first message of a
-- journal has number 1.
abbrev pub dumped : DumpOptions → List (List ℕ) → List (List ℕ)
dumped options messages = take options.count (drop (options.from - 1) messages)

-- The number of the first message that the options ask for.
abbrev pub first_number : DumpOptions → ℕ
first_number options = options.from - 1 + 1

-- Whether the message has no byte.
abbrev pub is_empty : List ℕ → Bool
is_empty [] = true
is_empty (byte ∷ bytes) = false

-- The messages before the first empty one.
unfoldable pub messages_to_empty : List (List ℕ) → List (List ℕ)
messages_to_empty [] = []
messages_to_empty ([] ∷ messages) = []
messages_to_empty ((byte ∷ bytes) ∷ messages) = (byte ∷ bytes) ∷ messages_to_empty messages

-- Of the messages asked for, those that are printed. If an empty block marks the end, an empty message cannot be
-- printed, and nor are the messages after it.
abbrev pub printable : MessageFormat → List (List ℕ) → List (List ℕ)
printable Lines messages = messages
printable Blocks messages = messages
printable BlocksToEmpty messages = messages_to_empty messages

-- Whether one of the messages asked for cannot be printed.
abbrev pub has_unprintable : MessageFormat → List (List ℕ) → Bool
has_unprintable Lines messages = false
has_unprintable Blocks messages = false
has_unprintable BlocksToEmpty messages = list_any is_empty messages

-- The messages of a journal that are printed.
abbrev pub printed : DumpOptions → List (List ℕ) → List (List ℕ)
printed options messages = printable options.format (dumped options messages)

-- ---- the fault

-- Why a dump does not print all that it was asked for: an empty message that cannot be printed, or otherwise the fault
-- of the file. The messages before both are printed.
abbrev pub dump_fault : DumpOptions → List (List ℕ) → Option FileError → Option DumpFault
dump_fault options messages fault =
    if has_unprintable options.format (dumped options messages)
    then Some (Empty (first_number options + length (printed options messages)))
    else option_map File fault

-- The words for the fault.
abbrev pub dump_fault_words : DumpFault → List (List ℕ)
dump_fault_words (Empty number) = codes "Empty" ∷ decimal number ∷ []
dump_fault_words (File error) = file_fault_words error

-- The line that reports the fault, or nothing if there is no fault.
abbrev pub fault_line : Option DumpFault → List ℕ
fault_line None = []
fault_line (Some fault) = refused_line (dump_fault_words fault)

-- The status: 0 without a fault, otherwise 2.
abbrev pub fault_status : Option DumpFault → ℕ
fault_status None = 0
fault_status (Some fault) = 2

-- ---- the end

-- Whether a file with these contents states that its session is closed. A file with a fault states nothing.
abbrev pub states_closed : (bytes : List ℕ) (messages : List (List ℕ)) (fault : Option FileError) →
    Gives bytes messages fault → Bool
states_closed bytes messages None gives = gives.0.closed
states_closed bytes messages (Some error) gives = false

-- Whether the options ask for the last one of `total` messages, or for a range after it: at most `count` messages have
-- the number `from` or a greater one.
abbrev pub is_to_last : DumpOptions → ℕ → Bool
is_to_last options total = nat_le (total - (options.from - 1)) options.count

-- Whether a dump of a session of `total` messages reaches its end: the session is closed, and no message follows those
-- that the options ask for.
abbrev pub reaches_end : DumpOptions → Bool → ℕ → Bool
reaches_end options closed total = closed && is_to_last options total

-- The mark of the end, which is an empty block, or nothing.
abbrev pub end_mark : Bool → List ℕ
end_mark true = block []
end_mark false = []

-- What follows the messages on standard output: the line that reports the fault, or the mark of the end if the end of
-- the session is reached without a fault.
abbrev pub last_text : MessageFormat → Option DumpFault → Bool → List ℕ
last_text Lines fault ends = fault_line fault
last_text Blocks fault ends = []
last_text BlocksToEmpty None ends = end_mark ends
last_text BlocksToEmpty (Some fault) ends = []

-- What is printed on standard error: the line that reports the fault, if standard output has blocks.
abbrev pub fault_text : MessageFormat → Option DumpFault → List ℕ
fault_text Lines fault = []
fault_text Blocks fault = fault_line fault
fault_text BlocksToEmpty fault = fault_line fault

-- ---- a dump of a file

-- Why a dump of a file does not print all that it was asked for, if it does not.
abbrev pub fault_of : DumpOptions → {bytes : List ℕ} → FileContents bytes → Option DumpFault
fault_of options contents = dump_fault options contents.messages contents.fault

-- Whether a dump of a file reaches the end of its session.
abbrev pub ends_session : DumpOptions → {bytes : List ℕ} → FileContents bytes → Bool
ends_session options {bytes} contents =
    reaches_end options (states_closed bytes contents.messages contents.fault contents.gives) (length contents.messages)

-- What is printed on standard output for a file: the messages, and what follows them.
abbrev pub dump_text : DumpOptions → {bytes : List ℕ} → FileContents bytes → List ℕ
dump_text options contents =
    messages_text options.format (printed options contents.messages)
    ++ last_text options.format (fault_of options contents) (ends_session options contents)

-- What is printed on standard error for a file.
abbrev pub dump_errors : DumpOptions → {bytes : List ℕ} → FileContents bytes → List ℕ
dump_errors options contents = fault_text options.format (fault_of options contents)

-- The status of a dump: 0 if it has no fault, otherwise 2.
abbrev pub dump_status : DumpOptions → {bytes : List ℕ} → FileContents bytes → ℕ
dump_status options contents = fault_status (fault_of options contents)

-- A dump prints this text on standard output and nothing on standard error, and its status is 0.
pub record PrintsAll (options : DumpOptions) {bytes : List ℕ} (contents : FileContents bytes) (text : List ℕ) :
    Type 0 where
  pub output : dump_text options contents ≡ text
  pub errors : dump_errors options contents ≡ []
  pub status : dump_status options contents ≡ 0

-- The file was read to its end or to its fault, so it has contents. Only an empty message that cannot be printed ends
-- a dump earlier.
abbrev pub HasContents : DumpOptions → List ℕ → ℕ → Type 0
HasContents options bytes status = FileContents bytes ⊎ ((options.format ≡ BlocksToEmpty) × (status ≡ 2))

-- The counts of failures of the source and the output changed with the result of a dump, and that of the errors is
-- unchanged; or those of the source and the errors changed, and that of the output is unchanged. Each pair of numbers
-- is a count before and after.
abbrev pub CountsEither : ℕ × ℕ → ℕ × ℕ → ℕ × ℕ → Result ℕ CommandFault → Type 0
CountsEither source output errors result =
    (CountsCommand source.0 source.1 output.0 output.1 result × (errors.1 ≡ errors.0))
    ⊎ (CountsCommand source.0 source.1 errors.0 errors.1 result × (output.1 ≡ output.0))

-- How a result of a dump changes the counts of failures. Only blocks use the errors.
abbrev pub CountsDump : MessageFormat → ℕ × ℕ → ℕ × ℕ → ℕ × ℕ → Result ℕ CommandFault → Type 0
CountsDump Lines source output errors result =
    CountsCommand source.0 source.1 output.0 output.1 result × (errors.1 ≡ errors.0)
CountsDump Blocks source output errors result = CountsEither source output errors result
CountsDump BlocksToEmpty source output errors result = CountsEither source output errors result

-- ---- one message after the other

-- Whether the options ask for a message that follows `before` others.
abbrev pub is_dumped : DumpOptions → ℕ → Bool
is_dumped options before =
    nat_le (options.from - 1) before && nat_lt (before - (options.from - 1)) options.count

-- The bytes of that message in the output, or nothing if the options do not ask for it.
abbrev pub next_text : DumpOptions → ℕ → List ℕ → List ℕ
next_text options before message =
    if is_dumped options before then message_text options.format message else []

-- The message that follows `before` others is not asked for, or it can be printed.
abbrev pub PassesNext : DumpOptions → ℕ → List ℕ → Type 0
PassesNext options before message =
    is_dumped options before ≡ true → has_unprintable options.format (message ∷ []) ≡ false

-- The number of messages that the format and the start of the output permit to be printed as blocks, out of `count`.
abbrev pub plain_blocks : MessageFormat → Bool → ℕ → ℕ
plain_blocks Lines started count = 0
plain_blocks Blocks started count = if started then count else 0
plain_blocks BlocksToEmpty started count = 0

-- How many messages after the first `before` ones may be printed as the blocks that the file has: all that remain of
-- those asked for. There are none if the output is not plain blocks, or if it starts after the next message.
abbrev pub blocks_left : DumpOptions → ℕ → ℕ
blocks_left options before =
    plain_blocks options.format (nat_le (options.from - 1) before) (options.count - (before - (options.from - 1)))

-- The next message was read, and it is an empty one that cannot be printed. `number` is its number.
pub record ReadsEmpty (options : DumpOptions) (known left : Option (List ℕ)) (old new : ReaderState) (number : ℕ) :
    Type 0 where
  pub reads : ReadsNext known left old new
  pub asked : is_dumped options old.count ≡ true
  pub empty : new.message ≡ []
  pub format : options.format ≡ BlocksToEmpty
  pub counted : number ≡ old.count + 1

-- Why the next message was not printed: it is empty, or the rest of the file has a fault, or a read or an allocation
-- failed.
abbrev pub RefusesNext : DumpOptions → Option (List ℕ) → Option (List ℕ) → ReaderState → ReaderState → DumpFault →
    Type 0
RefusesNext options known left old new (Empty number) = ReadsEmpty options known left old new number
RefusesNext options known left old new (File error) =
    Refuses (RestFault MAX_MESSAGE old.head.version old.count) known error

-- The output reports how the dump ended. It doesn't if a read or an allocation failed.
abbrev pub IsTold : Option DumpFault → Type 0
IsTold (Some (File Read)) = ⊥
IsTold (Some (File Memory)) = ⊥
IsTold ended = ⊤

-- What is printed about how the dump ended: nothing if a read or an allocation failed.
abbrev pub ended_line : Option DumpFault → List ℕ
ended_line (Some (File Read)) = []
ended_line (Some (File Memory)) = []
ended_line ended = fault_line ended

-- What is written to the output about how the dump ended.
abbrev pub ended_text : MessageFormat → Option DumpFault → List ℕ
ended_text Lines ended = ended_line ended
ended_text Blocks ended = []
ended_text BlocksToEmpty ended = []

-- What is written to the errors about how the dump ended.
abbrev pub ended_errors : MessageFormat → Option DumpFault → List ℕ
ended_errors Lines ended = []
ended_errors Blocks ended = ended_line ended
ended_errors BlocksToEmpty ended = ended_line ended

-- The count of the source's failures at the end: one more if a read failed, otherwise unchanged.
abbrev pub CountsEnd : ℕ → ℕ → Option DumpFault → Type 0
CountsEnd old new None = new ≡ old
CountsEnd old new (Some (Empty number)) = new ≡ old
CountsEnd old new (Some (File error)) = CountsLoadFault old new error

-- The count of the source's failures after the next message: one more if a read failed, otherwise unchanged.
abbrev pub CountsNext : {T : Type 0} → ℕ → ℕ → Result T DumpFault → Type 0
CountsNext old new (Ok _) = new ≡ old
CountsNext old new (Err fault) = CountsEnd old new (Some fault)
