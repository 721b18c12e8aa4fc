-- Packets printed as lines of hexadecimal digits.
use Rattle.std.specs.Prelude.{ℕ, List, [], ◌∷◌, Option, None, Some}
use Rattle.std.specs.List.{flat_map}
use Rattle.hex.specs.Hex.{encode_lower}
use Rattle.mold_wire.specs.Packet.{spelling_of}
use Rattle.mold_wire.specs.declared.packet.Packet.{Packet}
use Rattle.mold_text.specs.Line.{line_of}

-- The line of a packet: its encoding as lower-case digits.
abbrev pub packet_line : Packet → List ℕ
packet_line packet = line_of (encode_lower (spelling_of packet) ∷ [])

-- The line of a packet, or nothing if there is none.
abbrev pub line_of_some : Option Packet → List ℕ
line_of_some None = []
line_of_some (Some packet) = packet_line packet

-- The lines of the packets, one for each.
unfoldable pub packet_lines : List Packet → List ℕ
packet_lines packets = flat_map packet_line packets
