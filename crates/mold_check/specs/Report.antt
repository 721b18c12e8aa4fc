-- What `mold check` prints, and its exit status.
use Rattle.std.specs.Prelude.{ℕ, ◌-◌, List, [], ◌∷◌, ◌++◌, length, map, slice_index_or, codes, decimal, Option}
use Rattle.std.specs.Prelude.{None, Some, ◌≡◌, Result, IfErr, IfOk, OnOk}
use Rattle.std.specs.Io.KnownBytes.{Appends}
use Rattle.std.specs.List.{flat_map}
use Rattle.mold_devices.specs.Devices.{AppendsPrefix}
use Rattle.mold_devices.specs.Faults.{CountsSink}
use Rattle.mold_devices.specs.declared.fault.CommandFault.{CommandFault}
use Rattle.mold_devices.specs.declared.fault.CommandFault.TheVariants.{Memory}
use Rattle.mold_rule.specs.Ranges.{Range}
use Rattle.mold_text.specs.Line.{line_of}
use Rattle.mold_text.specs.Text.{refusal_words, refused_line}
use Rattle.mold_capture.specs.Outcome.{Outcome, whole, incomplete, refused, IsOutcome}
use Rattle.mold_check.specs.Entries.{IsOrder, bytes_of, name_of}
use Rattle.mold_check.specs.declared.entry.Entry.{Entry}

-- The line with the number of datagrams and the number of skipped entries.
abbrev pub counts_line : ℕ → ℕ → List ℕ
counts_line files skipped =
    line_of (codes "files" ∷ decimal files ∷ codes "skipped" ∷ decimal skipped ∷ [])

-- The sequence number of the end packet, or `none` if there is no end packet.
abbrev pub end_word : Option ℕ → List ℕ
end_word None = codes "none"
end_word (Some number) = decimal number

-- The line of a missing range.
abbrev pub missing_line : Range → List ℕ
missing_line range = line_of (codes "missing" ∷ decimal range.first ∷ decimal range.last ∷ [])

-- The lines of the missing ranges.
abbrev pub missing_text : List Range → List ℕ
missing_text missing = flat_map missing_line missing

-- The first line of an incomplete session.
abbrev pub incomplete_line : Option ℕ → List ℕ
incomplete_line end = line_of (codes "incomplete" ∷ codes "end" ∷ end_word end ∷ [])

-- The lines of the outcome. The datagrams have these names.
abbrev pub outcome_text : List (List ℕ) → Outcome → List ℕ
outcome_text names (whole messages) = line_of (codes "whole" ∷ decimal messages ∷ [])
outcome_text names (incomplete missing end) = incomplete_line end ++ missing_text missing
outcome_text names (refused index why) = refused_line (slice_index_or names index [] ∷ refusal_words why)

-- The exit status: 0 whole, 1 incomplete, 2 a datagram is refused.
abbrev pub outcome_status : Outcome → ℕ
outcome_status (whole messages) = 0
outcome_status (incomplete missing end) = 1
outcome_status (refused index why) = 2

-- A check of entries: the order in which the datagrams are checked, and the outcome of their bytes.
pub record Checked (entries : List Entry) : Type 0 where
  pub order : List Entry
  pub ordered : IsOrder entries order
  pub outcome : Outcome
  pub told : IsOutcome (map bytes_of order) outcome

-- What is printed for a check of entries.
abbrev pub report : {entries : List Entry} → Checked entries → List ℕ
report {entries} checked =
    counts_line (length checked.order) (length entries - length checked.order)
    ++ outcome_text (map name_of checked.order) checked.outcome

-- The text was written, perhaps followed by more.
pub record Keeps (old new : Option (List ℕ)) (text : List ℕ) : Type 0 where
  pub more : List ℕ
  pub appended : Appends old new (text ++ more)

-- The effect of writing `before` and a line that was just appended to it. If the line could not be appended, `before`
-- was written. `left` is the text that remains.
pub record Printed (old new : Option (List ℕ)) (failed_old failed_new : ℕ) (before line : List ℕ) (status : ℕ)
    (left : List ℕ) (result : Result ℕ CommandFault) : Type 0 where
  pub whole : IfOk result (λ s. Appends old new (before ++ line) × (s ≡ status))
  pub empty : OnOk result (left ≡ [])
  pub front : AppendsPrefix old new (before ++ line)
  pub kept : IfErr result (λ fault. fault ≡ Memory → Keeps old new before)
  pub failures : CountsSink failed_old failed_new result
