-- A verdict as the fields of a struct.
use Rattle.std.specs.Prelude.{◌≡◌, ◌⊎◌, ℕ, ◌+◌, length, unwrap_or}
use Rattle.mold_capture.specs.Seen.{Seen}
use Rattle.mold_capture.specs.Verdict.{IsWholeSeen, missing_in}
use Rattle.mold_ffi.specs.declared.checker.mold_verdict.MoldVerdict.{MoldVerdict}

-- The fields of the verdict report a whole session and the number of its messages.
pub record IsWholeVerdict (seen : Seen) (verdict : MoldVerdict) : Type 0 where
  pub told : verdict.whole ≡ 1
  pub whole : IsWholeSeen seen (verdict.messages + 1)
  pub no_end : verdict.end ≡ 0
  pub no_ranges : verdict.ranges ≡ 0

-- The fields of the verdict report that the session is not whole. They have the number of missing ranges, and the end,
-- or 0 if the end is not known.
pub record IsMissingVerdict (seen : Seen) (verdict : MoldVerdict) : Type 0 where
  pub told : verdict.whole ≡ 0
  pub not_whole : (number : ℕ) → IsWholeSeen seen number → ⊥
  pub no_messages : verdict.messages ≡ 0
  pub by_end : verdict.end ≡ unwrap_or seen.ended 0
  pub by_ranges : verdict.ranges ≡ length (missing_in seen)

-- The verdict of a checker: the session is whole or not.
abbrev pub IsVerdictOf : Seen → MoldVerdict → Type 0
IsVerdictOf seen verdict = IsWholeVerdict seen verdict ⊎ IsMissingVerdict seen verdict
