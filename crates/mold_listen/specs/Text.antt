-- The text that a listener prints.
use Rattle.std.specs.Prelude.{ℕ, ◌+◌, ◌-◌, Bool, true, false, List, [], ◌∷◌, ◌++◌, codes, decimal, Result, Ok, Err}
use Rattle.std.specs.Prelude.{if◌then◌else◌, Option, None, Some}
use Rattle.mold_input.specs.declared.message_format.MessageFormat.{MessageFormat}
use Rattle.mold_input.specs.declared.message_format.MessageFormat.TheVariants.{Lines, Blocks, BlocksToEmpty}
use Rattle.mold_text.specs.Line.{line_of, message_digits}
use Rattle.mold_text.specs.Text.{refusal_words, refused_line}
use Rattle.mold_receiver.specs.Receive.{Reception}
use Rattle.mold_receiver.specs.Store.{Message}
use Rattle.mold_receiver.specs.declared.line.Line.{Line}
use Rattle.mold_receiver.specs.declared.line.Line.TheVariants.{A, B}
use Rattle.mold_receiver.specs.declared.line.LineReport.{LineReport}
use Rattle.mold_receiver.specs.declared.line.LineReports.{LineReports}
use Rattle.mold_rule.specs.declared.refusal.Refusal.{Refusal}
use Rattle.mold_turns.specs.Outgoing.{note_side, note_text}
use Rattle.mold_wire.specs.Block.{block}

-- The line of a delivered message: its number and its bytes.
abbrev pub handed_line : ℕ → Message → List ℕ
handed_line number message = line_of (decimal number ∷ message_digits message ∷ [])

-- The text of a delivered message: its line, or its block.
abbrev pub message_text : MessageFormat → ℕ → Message → List ℕ
message_text Lines number message = handed_line number message
message_text Blocks number message = block message
message_text BlocksToEmpty number message = block message

-- The text of messages with consecutive numbers. The first number is `number`.
unfoldable pub handed_text : MessageFormat → ℕ → List Message → List ℕ
handed_text format number [] = []
handed_text format number (message ∷ messages) =
    message_text format number message ++ handed_text format (number + 1) messages

-- The messages before the first empty one.
unfoldable pub messages_to_empty : List Message → List Message
messages_to_empty [] = []
messages_to_empty ([] ∷ messages) = []
messages_to_empty ((byte ∷ bytes) ∷ messages) = (byte ∷ bytes) ∷ messages_to_empty messages

-- The number of the first empty message, if there is one. The messages have consecutive numbers, and the first number
-- is `number`.
unfoldable pub empty_number : ℕ → List Message → Option ℕ
empty_number number [] = None
empty_number number ([] ∷ messages) = Some number
empty_number number ((byte ∷ bytes) ∷ messages) = empty_number (number + 1) messages

-- Of delivered messages, those that are printed. If an empty block marks the end, an empty message cannot be printed,
-- and nor are the messages after it. `stopped` is the number of an earlier empty message, if there was one.
abbrev pub printable : MessageFormat → Option ℕ → List Message → List Message
printable Lines stopped messages = messages
printable Blocks stopped messages = messages
printable BlocksToEmpty None messages = messages_to_empty messages
printable BlocksToEmpty (Some empty) messages = []

-- The number of the empty message before which printing has stopped, if it has, once messages were delivered. They have
-- consecutive numbers, and the first number is `number`.
abbrev pub stop_after : MessageFormat → Option ℕ → ℕ → List Message → Option ℕ
stop_after Lines stopped number messages = stopped
stop_after Blocks stopped number messages = stopped
stop_after BlocksToEmpty None number messages = empty_number number messages
stop_after BlocksToEmpty (Some empty) number messages = Some empty

-- The text that is printed to standard output for a datagram: the messages that it delivers, numbered from `next` on,
-- or among lines the reason why it is refused.
abbrev pub taking_text : MessageFormat → Option ℕ → ℕ → Result Reception Refusal → List ℕ
taking_text format stopped next (Ok reception) = handed_text format next (printable format stopped reception.handed)
taking_text format stopped next (Err refused) = note_text format (refused_line (refusal_words refused))

-- The number of the empty message before which printing has stopped, if it has, after a datagram.
abbrev pub taking_stop : MessageFormat → Option ℕ → ℕ → Result Reception Refusal → Option ℕ
taking_stop format stopped next (Ok reception) = stop_after format stopped next reception.handed
taking_stop format stopped next (Err refused) = stopped

-- The text that is printed to standard error for a datagram: among blocks the reason why it is refused.
abbrev pub taking_side : MessageFormat → Result Reception Refusal → List ℕ
taking_side format (Ok reception) = []
taking_side format (Err refused) = note_side format (refused_line (refusal_words refused))

-- The name of a line as it is printed.
abbrev pub line_name : Line → List ℕ
line_name A = codes "a"
line_name B = codes "b"

-- The report of a line: the number of datagrams taken and refused on it, the greatest top of a packet taken on it, and
-- its lag. The lag is how far that top is below `known`.
abbrev pub report_line : Line → LineReport → ℕ → List ℕ
report_line line report known = line_of
    (codes "line" ∷ line_name line ∷ codes "datagrams" ∷ decimal report.datagrams
    ∷ codes "refused" ∷ decimal report.refused ∷ codes "front" ∷ decimal report.front
    ∷ codes "lag" ∷ decimal (known - report.front) ∷ [])

-- The reports of both lines if they were requested, otherwise nothing.
abbrev pub reports_text : Bool → LineReports → ℕ → List ℕ
reports_text false reports known = []
reports_text true reports known = report_line A reports.a known ++ report_line B reports.b known

-- The last line of a listener that has delivered all messages up to the end of the session.
abbrev pub finished_line : ℕ → ℕ → List ℕ
finished_line next failures =
    line_of (codes "finished" ∷ codes "next" ∷ decimal next ∷ codes "failed" ∷ decimal failures ∷ [])

-- The last line of a listener that has not finished: the number of the next message, the known top, and the count of
-- failures.
abbrev pub open_line : ℕ → ℕ → ℕ → List ℕ
open_line next known failures = line_of
    (codes "open" ∷ codes "next" ∷ decimal next ∷ codes "known" ∷ decimal known
    ∷ codes "failed" ∷ decimal failures ∷ [])

-- The line of a listener whose printing stopped before the empty message `number`.
abbrev pub stop_line : ℕ → List ℕ
stop_line number = refused_line (codes "Empty" ∷ decimal number ∷ [])

-- The mark of the end, which is an empty block, if the listener has finished.
abbrev pub end_mark : Bool → List ℕ
end_mark true = block []
end_mark false = []

-- The mark of the end in this format, if the listener has finished. Only the format `BlocksToEmpty` has one.
abbrev pub mark_text : MessageFormat → Bool → List ℕ
mark_text Lines finished = []
mark_text Blocks finished = []
mark_text BlocksToEmpty finished = end_mark finished

-- What follows the messages on standard output: among lines the note, and in the format `BlocksToEmpty` the mark of the
-- end if the listener has finished and printing did not stop.
abbrev pub end_text : MessageFormat → Option ℕ → Bool → List ℕ → List ℕ
end_text Lines stopped finished note = note
end_text Blocks stopped finished note = []
end_text BlocksToEmpty None finished note = end_mark finished
end_text BlocksToEmpty (Some empty) finished note = []

-- What is printed at the end apart from messages: the line of the empty message if printing stopped before one,
-- otherwise `lines`.
abbrev pub end_note : Option ℕ → List ℕ → List ℕ
end_note None lines = lines
end_note (Some empty) lines = stop_line empty

-- The status: 2 if printing stopped before an empty message. Otherwise 0 if the listener has finished, and 1 if not.
abbrev pub end_status : Option ℕ → Bool → ℕ
end_status None finished = if finished then 0 else 1
end_status (Some empty) finished = 2
