-- Datagrams that encode a packet.
use Rattle.std.specs.Prelude.{◌≡◌, ℕ, List, Result, Ok, Err}
use Rattle.mold_repair.specs.declared.header.Head.{Head}
use Rattle.mold_wire.specs.Packet.{top_of}
use Rattle.mold_wire.specs.Reading.{reading}
use Rattle.mold_wire.specs.declared.error.DecodeError.{DecodeError}
use Rattle.mold_wire.specs.declared.packet.Packet.{Packet}

-- The bytes encode a packet.
pub record IsRead (bytes : List ℕ) : Type 0 where
  pub packet : Packet
  pub read : reading bytes ≡ Ok packet

-- The first number of a packet and its top. There is no message if nothing was decoded.
abbrev pub head : Result Packet DecodeError → Head
head (Ok packet) = record { first = packet.sequence; end = top_of packet }
head (Err error) = record { first = 0; end = 0 }
