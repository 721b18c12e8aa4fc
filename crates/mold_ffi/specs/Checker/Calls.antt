-- What the calls on a checker return.
use Rattle.std.specs.Prelude.{◌≡◌, ◌⊎◌, ℕ, List, length, Option, None, Some}
use Rattle.mold_capture.specs.Seen.{BringsNew, Seen, after}
use Rattle.mold_capture.specs.Verdict.{IsWholeSeen, missing_in}
use Rattle.mold_rule.specs.declared.refusal.Refusal.{Refusal}
use Rattle.mold_ffi.specs.Checker.MoldRange.{AreFilled}
use Rattle.mold_ffi.specs.Code.Refusal.{refusal_code, refusal_number}
use Rattle.mold_ffi.specs.declared.checker.mold_range.MoldRange.{MoldRange}
use Rattle.mold_ffi.specs.declared.code.TheConstants as codes
use Rattle.mold_ffi.specs.declared.handle.held.Held.{Held}
use Rattle.mold_ffi.specs.declared.handle.held.Held.TheVariants.{Checker}

-- A checker takes or refuses a datagram. If a refusal applies, the code is that of the refusal, and nothing changes.
-- Otherwise the datagram is taken, or an allocation for its new messages failed and nothing changed.
abbrev pub Joins : Option Refusal → List ℕ → Seen → ℕ → ℕ → Option Held → Type 0
Joins (Some why) bytes seen code number new =
    (code ≡ refusal_code why) × (number ≡ refusal_number why) × (new ≡ Some (Checker seen))
Joins None bytes seen code number new =
    ((code ≡ codes.DONE) × (number ≡ 0) × (new ≡ Some (Checker (after seen bytes))))
    ⊎ ((code ≡ codes.MEMORY) × (number ≡ 0) × (new ≡ Some (Checker seen)) × BringsNew seen bytes)

-- What `mold_checker_ranges` writes. If the session is whole, the count is 0 and the array is unchanged. Otherwise the
-- count is the number of missing ranges, and the array begins with them.
abbrev pub GivesRanges : Seen → List MoldRange → List MoldRange → ℕ → Type 0
GivesRanges seen old new count =
    (((number : ℕ) × IsWholeSeen seen number) × (count ≡ 0) × (new ≡ old))
    ⊎ (((number : ℕ) → IsWholeSeen seen number → ⊥) × (count ≡ length (missing_in seen))
    × AreFilled (missing_in seen) old new)
