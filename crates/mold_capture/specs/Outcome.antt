-- The outcome of a check of datagrams.
use Rattle.std.specs.Prelude.{◌≡◌, ◌⊎◌, ℕ, ◌+◌, ◌<◌, List, [], take, length, slice_index_or, Option, Some, Result}
use Rattle.std.specs.Prelude.{MatchResult}
use Rattle.mold_rule.specs.Ranges.{Range}
use Rattle.mold_capture.specs.Consistent.{Consistent, Whole}
use Rattle.mold_capture.specs.Refusal.{reason}
use Rattle.mold_capture.specs.Seen.{seen_of}
use Rattle.mold_capture.specs.Verdict.{missing_in, ranges_of}
use Rattle.mold_rule.specs.declared.refusal.Refusal.{Refusal}
use Rattle.mold_rule.specs.declared.refusal.Refusal.TheVariants.{Memory}
use Rattle.mold_capture.specs.declared.verdict.Verdict.{Verdict}
use Rattle.mold_capture.specs.declared.verdict.Verdict.TheVariants.{Whole as IsWhole, Incomplete as IsIncomplete}

-- The outcome of a check: whole, with the number of messages; incomplete, with the missing ranges and the end;
-- or refused, with an index and a reason.
pub data Outcome : Type 0 where
  whole : ℕ → Outcome
  incomplete : List Range → Option ℕ → Outcome
  refused : ℕ → Refusal → Outcome

-- The datagrams have this outcome: whole, with that number of messages; consistent but not whole, with those missing
-- ranges and that end; or refused. A refused outcome has the index of the first datagram that makes the list
-- inconsistent, and the first reason.
abbrev pub IsOutcome : List (List ℕ) → Outcome → Type 0
IsOutcome list (whole count) = (messages : List (List ℕ)) × (Whole list messages × (length messages ≡ count))
IsOutcome list (incomplete missing end) =
    Consistent list × (missing ≡ missing_in (seen_of list)) × (end ≡ (seen_of list).ended)
    × ((messages : List (List ℕ)) → Whole list messages → ⊥)
IsOutcome list (refused index why) =
    (index < length list) × Consistent (take index list) × (Consistent (take (index + 1) list) → ⊥)
    × (reason (take index list) (slice_index_or list index []) ≡ Some why)

-- The outcome that a verdict reports.
abbrev pub outcome_in : Verdict → Outcome
outcome_in (IsWhole messages) = whole messages
outcome_in (IsIncomplete missing end) = incomplete (ranges_of missing.items) end

-- The result of a check reports this outcome, unless an allocation failed.
abbrev pub Answers : Outcome → Result Verdict (ℕ × Refusal) → Type 0
Answers outcome answer = MatchResult answer (λ verdict. outcome_in verdict ≡ outcome)
    (λ r. (r.1 ≡ Memory) ⊎ (refused r.0 r.1 ≡ outcome))
