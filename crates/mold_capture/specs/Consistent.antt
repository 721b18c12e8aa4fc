-- What datagrams state together: whether one session explains them, and whether they are whole.
use Rattle.std.specs.Prelude.{◌≡◌, ℕ, ◌<◌, ◌≤◌, List, length, true}
use Rattle.std.specs.List.{All, Contains}
use Rattle.mold_wire.specs.Packet.{Spells}
use Rattle.mold_wire.specs.Truth.{Carries, IsTruePacket}
use Rattle.mold_wire.specs.declared.limits.TheConstants.{MAX_NUMBER}
use Rattle.mold_wire.specs.declared.packet.Packet.{Packet}
use Rattle.mold_wire.specs.declared.packet.Body.TheVariants.{End}

-- The datagram encodes a packet of the session with this name. The packet is true of the session, once that is
-- closed with these messages.
pub record IsSaidBy (session : List ℕ) (messages : List (List ℕ)) (bytes : List ℕ) : Type 0 where
  pub packet : Packet
  pub spelled : Spells packet bytes
  pub named : packet.session.0 ≡ session
  pub is_true : IsTruePacket packet messages true

-- The session with this name and these messages explains every datagram of the list.
pub record Explains (session : List ℕ) (messages list : List (List ℕ)) : Type 0 where
  pub few : length messages < MAX_NUMBER
  pub each : All (IsSaidBy session messages) list

-- The datagrams are consistent: some session explains all of them.
abbrev pub Consistent : List (List ℕ) → Type 0
Consistent list = (session : List ℕ) × (messages : List (List ℕ)) × Explains session messages list

-- A datagram of the list carries this message with this number.
pub record IsCarried (list : List (List ℕ)) (number : ℕ) (message : List ℕ) : Type 0 where
  pub bytes : List ℕ
  pub packet : Packet
  pub member : Contains list bytes
  pub spelled : Spells packet bytes
  pub carried : Carries packet number message

-- A datagram of the list is an end packet with this sequence number.
pub record HasEnd (list : List (List ℕ)) (number : ℕ) : Type 0 where
  pub bytes : List ℕ
  pub packet : Packet
  pub member : Contains list bytes
  pub spelled : Spells packet bytes
  pub ended : packet.body ≡ End
  pub at : packet.sequence ≡ number

-- The datagrams are whole: a session with these messages explains them, an end packet is among them, and each
-- message is carried.
pub record Whole (list messages : List (List ℕ)) : Type 0 where
  pub session : List ℕ
  pub explained : Explains session messages list
  pub ended : (number : ℕ) × HasEnd list number
  pub carried : (number : ℕ) → 1 ≤ number → number ≤ length messages →
      (message : List ℕ) × IsCarried list number message
