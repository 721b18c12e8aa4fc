-- Honest views: views that know nothing false about their session.
use Rattle.std.specs.Prelude.{◌≡◌, ℕ, ◌+◌, ◌≤◌, Bool, true, List, length, Some, Ok, slice_get}
use Rattle.std.specs.FinMap as finite
use Rattle.mold_wire.specs.Truth.{published_at}
use Rattle.mold_receiver.specs.Receive.{Reception, receive}
use Rattle.mold_receiver.specs.Skip.{skipped, skipped_run}
use Rattle.mold_receiver.specs.Store.{Message}
use Rattle.mold_receiver.specs.View.{View, IsWellFormed}

-- Everything that the view knows is true of the session. Each stored message is the published one, and `known` is at
-- most one more than the number of published messages. If an end is known, the session is closed and ends there.
pub record IsHonest (v : View) (published : List Message) (closed : Bool) : Type 0 where
  pub well_formed : IsWellFormed v
  pub stored : (number : ℕ) (message : Message) → finite.get v.store number ≡ Some message →
      published_at published number ≡ Some message
  pub known : v.known ≤ length published + 1
  pub ends : (end : ℕ) → v.ended ≡ Some end → (closed ≡ true) × (end ≡ length published + 1)

-- The view accepts the datagram and stays honest. Each delivered message is the one that was published with its
-- number.
pub record IsTakenHonestly (v : View) (bytes : List ℕ) (published : List Message) (closed : Bool) : Type 0 where
  pub reception : Reception
  pub received : receive v bytes ≡ Ok reception
  pub honest : IsHonest reception.view published closed
  pub handed : (i : ℕ) (message : Message) → slice_get reception.handed i ≡ Some message →
      published_at published (v.next + i) ≡ Some message

-- The view is honest after the messages below `to` were given up. Each message that is then delivered is the one that
-- was published with its number.
pub record IsSkippedHonestly (v : View) (to : ℕ) (published : List Message) (closed : Bool) : Type 0 where
  pub honest : IsHonest (skipped v to) published closed
  pub handed : (i : ℕ) (message : Message) → slice_get (skipped_run v to) i ≡ Some message →
      published_at published (to + i) ≡ Some message
