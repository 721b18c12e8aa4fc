-- What `mold check - --each` prints for its input, whose lines are datagrams as hexadecimal digits.
use Rattle.std.specs.Prelude.{ℕ, List, [], ◌∷◌, ◌++◌, length, codes, Option, None, Some, Result, Ok, Err}
use Rattle.hex.specs.Hex.{decode_of}
use Rattle.hex.specs.declared.error.FromHexError.{FromHexError}
use Rattle.mold_devices.specs.Lines.{lines_of}
use Rattle.mold_check.specs.CheckLines.{count_line, not_hex, numbered}
use Rattle.mold_check.specs.Checking.{not_hex_text}
use Rattle.mold_check.specs.EachCheck.{sessions_status, sessions_text}
use Rattle.mold_check.specs.Naming.{counted}

-- The decoded bytes of a line with its number, followed by others, or nothing if the line is not hexadecimal.
abbrev pub numbered_before : ℕ → Result (List ℕ) FromHexError → List (ℕ × List ℕ) → List (ℕ × List ℕ)
numbered_before number (Ok bytes) others = (number, bytes) ∷ others
numbered_before number (Err _) others = []

-- The datagrams that the lines encode, with the numbers of their lines, up to the first line that is not hexadecimal.
unfoldable pub numbered_datagrams : List (ℕ × List ℕ) → List (ℕ × List ℕ)
numbered_datagrams [] = []
numbered_datagrams (line ∷ lines) = numbered_before line.0 (decode_of line.1) (numbered_datagrams lines)

-- The line of the report about the first line that is not hexadecimal, if there is one.
abbrev pub not_hex_line : Option ℕ → List ℕ
not_hex_line None = []
not_hex_line (Some number) = not_hex_text number

-- What is printed for the whole input: the number of datagrams, and each session of the lines before the first one that
-- is not hexadecimal. That line is the last of the report: no session is at fault for it, and it ends the check.
abbrev pub each_lines_text : List ℕ → List ℕ
each_lines_text input =
    let lines = numbered 1 (lines_of input) in
    count_line (length lines)
    ++ (sessions_text (counted (codes "line")) (numbered_datagrams lines) ++ not_hex_line (not_hex lines))

-- The exit status of sessions, given the first line that is not hexadecimal.
abbrev pub each_lines_status_by : List (ℕ × List ℕ) → Option ℕ → ℕ
each_lines_status_by list None = sessions_status list
each_lines_status_by list (Some number) = 2

-- The exit status for the whole input: 2 if a line is not hexadecimal, otherwise that of the sessions.
abbrev pub each_lines_status : List ℕ → ℕ
each_lines_status input =
    let lines = numbered 1 (lines_of input) in
    each_lines_status_by (numbered_datagrams lines) (not_hex lines)
