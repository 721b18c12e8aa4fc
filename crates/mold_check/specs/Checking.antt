-- The state of a check of lines, which are judged by any judge of datagrams.
use Rattle.std.specs.Prelude.{ℕ, Bool, true, false, List, [], ◌∷◌, ◌++◌, codes, decimal, Option, None, Some, Result, Ok, Err}
use Rattle.hex.specs.Hex.{decode_of}
use Rattle.hex.specs.declared.error.FromHexError.{FromHexError}
use Rattle.mold_devices.specs.Devices.{one_more}
use Rattle.mold_text.specs.Line.{line_of}
use Rattle.mold_check.specs.CheckLines.{count_line}
use Rattle.mold_check.specs.Judge.{Judging}
use Rattle.mold_check.specs.Naming.{counted}

-- The state of a check: the number of the next line, how many datagrams there were, the state of the judge, and the
-- line that is not hexadecimal, if there is one. The first line has number 1. The numbers stop at `MAX_NUMBER`.
pub record Checking (S : Type 0) : Type 0 where
  pub next : ℕ
  pub datagrams : ℕ
  pub judge : S
  pub not_hex : Option ℕ

-- The state before the first line, over a judge in this state.
abbrev pub beginning_over : {S : Type 0} → S → Checking S
beginning_over judge = record { next = 1; datagrams = 0; judge = judge; not_hex = None }

-- The state before the first line, over a new judge.
abbrev pub beginning : {S : Type 0} → Judging S → Checking S
beginning judging = beginning_over judging.begins

-- The judge after the next line, given its decoded bytes, and the number of the line if it is not hexadecimal.
abbrev pub judged_digits : {S : Type 0} → Judging S → S → ℕ → Result (List ℕ) FromHexError → S × Option ℕ
judged_digits judging judge number (Ok bytes) = (judging.added judge number bytes, None)
judged_digits judging judge number (Err _) = (judge, Some number)

-- The same, given the line that was not hexadecimal before, and whether the judge has decided. After such a line, and
-- once the judge has decided, no line is judged.
abbrev pub judged_after : {S : Type 0} → Judging S → S → Option ℕ → Bool → ℕ → List ℕ → S × Option ℕ
judged_after judging judge (Some line) decided number digits = (judge, Some line)
judged_after judging judge None true number digits = (judge, None)
judged_after judging judge None false number digits = judged_digits judging judge number (decode_of digits)

-- The same after the next line.
abbrev pub judged_next : {S : Type 0} → Judging S → Checking S → List ℕ → S × Option ℕ
judged_next judging s digits = judged_after judging s.judge s.not_hex (judging.decided s.judge) s.next digits

-- The state after one more line.
unfoldable pub taken : {S : Type 0} → Judging S → Checking S → List ℕ → Checking S
taken judging s [] = record { next = one_more s.next; datagrams = s.datagrams; judge = s.judge; not_hex = s.not_hex }
taken judging s (byte ∷ bytes) = record {
  next = one_more s.next;
  datagrams = one_more s.datagrams;
  judge = (judged_next judging s (byte ∷ bytes)).0;
  not_hex = (judged_next judging s (byte ∷ bytes)).1;
}

-- The state after the lines.
unfoldable pub all_taken : {S : Type 0} → Judging S → Checking S → List (List ℕ) → Checking S
all_taken judging s [] = s
all_taken judging s (line ∷ lines) = all_taken judging (taken judging s line) lines

-- The line of the report about a line that is not hexadecimal.
abbrev pub not_hex_text : ℕ → List ℕ
not_hex_text number = line_of (codes "refused" ∷ codes "line" ∷ decimal number ∷ codes "NotHex" ∷ [])

-- What is printed after the number of datagrams: what the judge prints, or, if a line is not hexadecimal, what it prints
-- early and that line.
abbrev pub judged_text : {S : Type 0} → Judging S → S → Option ℕ → List ℕ
judged_text judging judge None = judging.text (counted (codes "line")) judge
judged_text judging judge (Some number) = judging.early (counted (codes "line")) judge ++ not_hex_text number

-- The exit status after the last line: 2 if a line is not hexadecimal, otherwise that of the judge.
abbrev pub judged_status : {S : Type 0} → Judging S → S → Option ℕ → ℕ
judged_status judging judge None = judging.status judge
judged_status judging judge (Some number) = 2

-- What is printed after the last line.
abbrev pub checking_text : {S : Type 0} → Judging S → Checking S → List ℕ
checking_text judging s = count_line s.datagrams ++ judged_text judging s.judge s.not_hex

-- The exit status of a check in this state.
abbrev pub checking_status : {S : Type 0} → Judging S → Checking S → ℕ
checking_status judging s = judged_status judging s.judge s.not_hex
