-- The verdict of a checker.
use Rattle.std.specs.Prelude.{◌≡◌, ℕ, ◌+◌, ◌-◌, ◌<◌, ◌≤◌, Bool, nat_lt, is_none, List, [], ◌∷◌, ◌++◌, length, map}
use Rattle.std.specs.Prelude.{Some, if◌then◌else◌}
use Rattle.std.specs.FinMap as finite
use Rattle.mold_rule.specs.Ranges as lacking
use Rattle.mold_capture.specs.Consistent.{Consistent, Whole}
use Rattle.mold_capture.specs.Seen.{Pairs, Seen, seen_of}
use Rattle.mold_capture.specs.declared.run.Run.{Run}
use Rattle.mold_capture.specs.declared.verdict.Range.{Range}
use Rattle.mold_capture.specs.declared.verdict.Verdict.{Verdict}
use Rattle.mold_capture.specs.declared.verdict.Verdict.TheVariants.{Whole as IsWhole, Incomplete}

-- Whether no message with this number is carried.
abbrev pub lacks : Pairs → ℕ → Bool
lacks pairs number = is_none (finite.get pairs number)

-- The longest ranges of numbers that no packet carries, from 1 up to, but not including, `known`, in ascending
-- order.
abbrev pub missing_in : Seen → List lacking.Range
missing_in seen = lacking.ranges (lacks seen.pairs) 1 (seen.known - 1)

-- The ranges of the code as ranges of the specification.
abbrev pub ranges_of : List Range → List lacking.Range
ranges_of ranges = map (λ r. lacking.range r.first r.last) ranges

-- The end packet has the sequence number `number`, and a message is carried for each number from 1 to just below it.
pub record IsWholeSeen (seen : Seen) (number : ℕ) : Type 0 where
  pub ended : seen.ended ≡ Some number
  pub carried : (k : ℕ) → 1 ≤ k → k < number → (message : List ℕ) × (finite.get seen.pairs k ≡ Some message)

-- The verdict is the right one for what the datagrams state.
abbrev pub IsVerdict : Verdict → Seen → Type 0
IsVerdict (IsWhole messages) seen = IsWholeSeen seen (messages + 1)
IsVerdict (Incomplete missing end) seen =
    (ranges_of missing.items ≡ missing_in seen) × (end ≡ seen.ended) × ((number : ℕ) → IsWholeSeen seen number → ⊥)

-- The verdict is right for the datagrams: whole, with the number of their messages, or consistent but not whole, with
-- the missing ranges and the end.
abbrev pub IsVerdictOn : Verdict → List (List ℕ) → Type 0
IsVerdictOn (IsWhole messages) list = (P : List (List ℕ)) × (Whole list P × (length P ≡ messages))
IsVerdictOn (Incomplete missing end) list =
    Consistent list × (ranges_of missing.items ≡ missing_in (seen_of list)) × (end ≡ (seen_of list).ended)
    × ((P : List (List ℕ)) → Whole list P → ⊥)

-- The range from `from` up to, but not including, `below`, or nothing if that is empty.
abbrev pub gap : ℕ → ℕ → List lacking.Range
gap from below = if nat_lt from below then lacking.range from (below - 1) ∷ [] else []

-- The gaps before, between and after the runs, from the number `from` up to, but not including, `below`.
abbrev pub gaps : ℕ → List (ℕ × Run) → ℕ → List lacking.Range
gaps from [] below = gap from below
gaps from (e ∷ entries) below = gap from e.0 ++ gaps (e.0 + e.1.count) entries below
