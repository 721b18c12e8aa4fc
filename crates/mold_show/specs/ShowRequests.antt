-- What `mold show --request` prints for a line that was read as a message or a fault.
use Rattle.std.specs.Prelude.{ℕ, List, [], ◌∷◌, codes, Bool, true, false, Ok, Err}
use Rattle.mold_input.specs.Entries.{Entry}
use Rattle.mold_input.specs.declared.input_fault.InputFault.{InputFault}
use Rattle.mold_input.specs.declared.input_fault.InputFault.TheVariants.{NotHex, TooLong, Cut}
use Rattle.mold_text.specs.Text.{refused_line, request_fault_words}
use Rattle.mold_wire.specs.Request.{request_reading}
use Rattle.mold_wire.specs.declared.error.RequestError.TheVariants.{RequestLength}
use Rattle.mold_show.specs.Show.{request_refused, request_shown}

-- What is printed for the bytes of a line. It is nothing for an empty line.
abbrev pub message_text : List ℕ → List ℕ
message_text [] = []
message_text (byte ∷ bytes) = request_shown (request_reading (byte ∷ bytes))

-- Whether the bytes of a line are refused. Those of an empty line are not.
abbrev pub message_refused : List ℕ → Bool
message_refused [] = false
message_refused (byte ∷ bytes) = request_refused (request_reading (byte ∷ bytes))

-- The words that report why a line is refused. A line that is too long for a message is too long for a request. No line
-- is `Cut`.
abbrev pub line_fault_words : InputFault → List (List ℕ)
line_fault_words NotHex = codes "NotHex" ∷ []
line_fault_words (TooLong len) = request_fault_words (RequestLength len)
line_fault_words Cut = codes "NotHex" ∷ []

-- What is printed for a line with this entry.
abbrev pub entry_text : Entry → List ℕ
entry_text (Ok message) = message_text message
entry_text (Err why) = refused_line (line_fault_words why)

-- Whether a line with this entry is refused.
abbrev pub entry_refused : Entry → Bool
entry_refused (Ok message) = message_refused message
entry_refused (Err why) = true
