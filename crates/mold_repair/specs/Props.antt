-- The rules for a ghost field's fact about a receiver's view.
use Rattle.std.specs.Prelude.{ℕ, Option, None, Some}
use Rattle.std.proofs.Props as common
use Rattle.mold_receiver.specs.View.{IsWithinRoom}
use mathlib.Core.HLevel.{Unit-prop}

-- That bytes are within a room has at most one proof.
pub IsWithinRoom-prop : (room : Option ℕ) (bytes : ℕ) → IsProp (IsWithinRoom room bytes)
IsWithinRoom-prop None bytes = Unit-prop
IsWithinRoom-prop (Some room) bytes = hlevel common.props

-- The rules by which a well-formed view has at most one proof.
pub ruleset props = (IsWithinRoom-prop, common.props)
