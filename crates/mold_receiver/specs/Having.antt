-- Which messages a receiver has.
use Rattle.std.specs.Prelude.{◌≡◌, ◌⊎◌, ℕ, ◌<◌, is_some, true}
use Rattle.std.specs.FinMap as finite
use Rattle.mold_receiver.specs.View.{View}

-- The message with this number is not missing: it is stored, or was delivered or given up.
abbrev pub HasMessage : View → ℕ → Type 0
HasMessage v number = (number < v.next) ⊎ (is_some (finite.get v.store number) ≡ true)

-- The new view has each message that the old one has.
abbrev pub HasAllOf : View → View → Type 0
HasAllOf old new = (number : ℕ) → HasMessage old number → HasMessage new number
