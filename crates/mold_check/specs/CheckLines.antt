-- What `mold check -` prints for its input, whose lines are datagrams as hexadecimal digits.
use Rattle.std.specs.Prelude.{ℕ, suc, zero, ◌==◌, min, List, [], ◌∷◌, ◌++◌, length, map, codes, decimal}
use Rattle.std.specs.Prelude.{Option, None, Some, Result, Ok, Err, if◌then◌else◌}
use Rattle.hex.specs.Hex.{decode_of}
use Rattle.hex.specs.declared.error.FromHexError.{FromHexError}
use Rattle.mold_capture.specs.Outcome.{Outcome, whole, incomplete, refused}
use Rattle.mold_capture.specs.Refusal.{refusal}
use Rattle.mold_capture.specs.Seen.{Seen, after, seen_of}
use Rattle.mold_capture.specs.Verdict.{lacks, missing_in}
use Rattle.mold_devices.specs.Devices.{one_more}
use Rattle.mold_devices.specs.Lines.{lines_of}
use Rattle.mold_rule.specs.Ranges as lacking
use Rattle.mold_rule.specs.declared.refusal.Refusal.{Refusal}
use Rattle.mold_text.specs.Line.{joined, line_of}
use Rattle.mold_text.specs.Text.{refused_line}
use Rattle.mold_wire.specs.declared.limits.TheConstants.{MAX_NUMBER}
use Rattle.mold_check.specs.Report.{outcome_status, outcome_text}

-- ---- the outcome of datagrams, as a function

-- The outcome, given what the datagrams state and the end: whole if there is an end and no number below it is
-- missing, otherwise incomplete.
abbrev pub outcome_at : Seen → Option ℕ → Outcome
outcome_at seen None = incomplete (missing_in seen) None
outcome_at seen (Some zero) = incomplete (missing_in seen) (Some zero)
outcome_at seen (Some (suc messages)) =
    if lacking.lacking (lacks seen.pairs) 1 messages == 0 then whole messages
    else incomplete (missing_in seen) (Some (suc messages))

-- The same outcome with one more datagram before the others: a refused index increases by 1.
abbrev pub index_raised : Outcome → Outcome
index_raised (whole messages) = whole messages
index_raised (incomplete missing end) = incomplete missing end
index_raised (refused index why) = refused (suc index) why

-- The outcome of a datagram and those after it: the datagram is refused, or the outcome is that of the others.
abbrev pub outcome_or : Option Refusal → Outcome → Outcome
outcome_or (Some why) others = refused 0 why
outcome_or None others = index_raised others

-- The outcome of datagrams that follow others, given what those state.
unfoldable pub outcome_from : Seen → List (List ℕ) → Outcome
outcome_from seen [] = outcome_at seen seen.ended
outcome_from seen (bytes ∷ list) = outcome_or (refusal seen bytes) (outcome_from (after seen bytes) list)

-- The outcome of these datagrams, computed one datagram at a time.
abbrev pub outcome_of : List (List ℕ) → Outcome
outcome_of list = outcome_from (seen_of []) list

-- ---- lines

-- The lines that are not empty, each with its number. The first line has the number `number`. The numbers stop
-- at `MAX_NUMBER`.
unfoldable pub numbered : ℕ → List (List ℕ) → List (ℕ × List ℕ)
numbered number [] = []
numbered number ([] ∷ lines) = numbered (one_more number) lines
numbered number ((byte ∷ bytes) ∷ lines) = (number, byte ∷ bytes) ∷ numbered (one_more number) lines

-- The decoded bytes of a line followed by `list`, or nothing if the line is not hexadecimal.
abbrev pub spelled_before : Result (List ℕ) FromHexError → List (List ℕ) → List (List ℕ)
spelled_before (Ok bytes) list = bytes ∷ list
spelled_before (Err _) list = []

-- The datagrams that the lines encode, up to the first line that is not hexadecimal.
unfoldable pub datagrams_of : List (ℕ × List ℕ) → List (List ℕ)
datagrams_of [] = []
datagrams_of (line ∷ lines) = spelled_before (decode_of line.1) (datagrams_of lines)

-- The number of a line that is not hexadecimal, or otherwise that of a later one.
abbrev pub not_hex_or : ℕ → Result (List ℕ) FromHexError → Option ℕ → Option ℕ
not_hex_or number (Ok bytes) behind = behind
not_hex_or number (Err _) behind = Some number

-- The number of the first line that is not hexadecimal, if there is one.
unfoldable pub not_hex : List (ℕ × List ℕ) → Option ℕ
not_hex [] = None
not_hex (line ∷ lines) = not_hex_or line.0 (decode_of line.1) (not_hex lines)

-- ---- text

-- The name of a line in the report.
abbrev pub line_name : ℕ → List ℕ
line_name number = joined (codes "line" ∷ decimal number ∷ [])

-- The names of lines in the report.
unfoldable pub names_of : List (ℕ × List ℕ) → List (List ℕ)
names_of lines = map (λ line. line_name line.0) lines

-- The line with the number of datagrams. The count stops at `MAX_NUMBER`.
abbrev pub count_line : ℕ → List ℕ
count_line count = line_of (codes "datagrams" ∷ decimal (min count MAX_NUMBER) ∷ [])

-- The report about lines with these names. The first refused line is reported, whether its datagram is refused or
-- it isn't hexadecimal. If no line is refused, the outcome is reported.
abbrev pub lines_report : List (List ℕ) → Outcome → Option ℕ → List ℕ
lines_report names outcome None = outcome_text names outcome
lines_report names (refused index why) (Some number) = outcome_text names (refused index why)
lines_report names (whole messages) (Some number) = refused_line (line_name number ∷ codes "NotHex" ∷ [])
lines_report names (incomplete missing end) (Some number) = refused_line (line_name number ∷ codes "NotHex" ∷ [])

-- The exit status for the outcome and the first line that isn't hexadecimal.
abbrev pub lines_status : Outcome → Option ℕ → ℕ
lines_status outcome None = outcome_status outcome
lines_status outcome (Some number) = 2

-- What `check -` prints for the whole input.
unfoldable pub check_text : List ℕ → List ℕ
check_text input =
    let lines = numbered 1 (lines_of input) in
    count_line (length lines) ++ lines_report (names_of lines) (outcome_of (datagrams_of lines)) (not_hex lines)

-- The exit status for the whole input: 0 whole, 1 incomplete, 2 a line is refused.
unfoldable pub check_status : List ℕ → ℕ
check_status input =
    let lines = numbered 1 (lines_of input) in
    lines_status (outcome_of (datagrams_of lines)) (not_hex lines)
