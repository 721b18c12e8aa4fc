-- The limit on the numbers that may be requested.
use Rattle.std.specs.Prelude.{ℕ, ◌+◌, ◌<◌, ◌≤◌}
use Rattle.mold_receiver.specs.View.{View}
use Rattle.mold_repair.specs.Missing.{IsWanted}

-- The missing numbers below this limit are those that may be requested.
pub record IsLimit (v : View) (ripe limit : ℕ) : Type 0 where
  pub known : limit ≤ v.known
  pub window : limit ≤ v.next + v.window
  pub ripens : limit ≤ ripe
  pub all : (number : ℕ) → IsWanted v ripe number → number < limit
