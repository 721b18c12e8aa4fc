-- Which numbers are missing, and which of them may be requested.
use Rattle.std.specs.Prelude.{◌≡◌, ℕ, ◌+◌, ◌<◌, ◌≤◌, List, None, Some, slice_get}
use Rattle.std.specs.FinMap as finite
use Rattle.mold_pacing.specs.declared.gap.Gap.{Gap}
use Rattle.mold_receiver.specs.View.{View}

-- The message with this number is missing: it is below `known`, and neither delivered nor stored.
pub record IsMissing (v : View) (number : ℕ) : Type 0 where
  pub after : v.next ≤ number
  pub below : number < v.known
  pub lacked : finite.get v.store number ≡ None

-- The message is missing, in the window and ripe. So it may be requested. The numbers below `limit` are ripe.
pub record IsWanted (v : View) (limit number : ℕ) : Type 0 where
  pub missing : IsMissing v number
  pub window : number < v.next + v.window
  pub ripe : number < limit

-- Each number of the gaps may be requested.
abbrev pub AreWanted : View → ℕ → List Gap → Type 0
AreWanted v ripe gaps = (i : ℕ) (g : Gap) → slice_get gaps i ≡ Some g →
    (number : ℕ) → g.first ≤ number → number < g.end → IsWanted v ripe number
