-- The state of a packer after messages were packed into a data packet.
use Rattle.std.specs.Prelude.{◌≡◌, ℕ, List, length}
use Rattle.mold_wire.specs.declared.session.Session.{Session}
use Rattle.mold_wire.specs.Packer.{PackerState, Open}
use Rattle.mold_wire.specs.Packing.{IsFront}

-- A data packet was begun with the longest prefix of the first `most` messages that fits. It has `count`
-- messages.
pub record HasPacked (old new : PackerState) (session : Session) (sequence : ℕ) (messages : List (List ℕ))
    (most count : ℕ) : Type 0 where
  pub found : List (List ℕ)
  pub counted : count ≡ length found
  pub begun : new ≡ record { limit = old.limit; begun = Open session sequence found }
  pub longest : IsFront old.limit messages most found
