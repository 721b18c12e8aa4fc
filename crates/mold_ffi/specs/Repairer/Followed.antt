-- Whether a number follows a batch is a fact: there is at most one proof of it.
use Rattle.std.specs.Prelude.{ℕ, ◌+◌, List, [], ◌∷◌, length}
use Rattle.std.specs.Coded.{Coded-set, Unit-prop, coded_ℕ}
use Rattle.mold_receiver.specs.Batch.{FollowsIn}
use Rattle.mold_receiver.specs.Store.{Message}

-- At most one proof states that this number follows these messages.
pub FollowsIn-prop : (first : ℕ) (messages : List Message) (next : ℕ) → IsProp (FollowsIn first messages next)
FollowsIn-prop first [] next = Unit-prop
FollowsIn-prop first (message ∷ messages) next = Coded-set coded_ℕ (first + length (message ∷ messages)) next
