-- What a call writes to the buffer of the caller.
use Rattle.std.specs.Prelude.{ℕ, List}
use Rattle.mold_session.specs.Putting.{Puts}
use Rattle.mold_wire.specs.Packet.{Spells}
use Rattle.mold_wire.specs.declared.packet.Packet.{Packet}

-- The buffer begins with the encoding of `packet`, which is `size` bytes long. Its other bytes are
-- unchanged.
pub record PutsPacket (packet : Packet) (old new : List ℕ) (size : ℕ) : Type 0 where
  pub bytes : List ℕ
  pub spelled : Spells packet bytes
  pub put : Puts old new bytes size
