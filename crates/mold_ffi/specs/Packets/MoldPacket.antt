-- The result of decoding a datagram, as a code and the fields of a struct.
use Rattle.std.specs.Prelude.{ℕ, length, Result, Ok, Err}
use Rattle.mold_wire.specs.Packet.{messages_of}
use Rattle.mold_wire.specs.declared.error.DecodeError.{DecodeError}
use Rattle.mold_wire.specs.declared.packet.Body.{Body}
use Rattle.mold_wire.specs.declared.packet.Body.TheVariants.{Data, Heartbeat, End}
use Rattle.mold_wire.specs.declared.packet.Packet.{Packet}
use Rattle.mold_ffi.specs.Code.DecodeError.{decode_error_code, decode_error_number}
use Rattle.mold_ffi.specs.declared.code.TheConstants as codes
use Rattle.mold_ffi.specs.declared.packets.mold_packet.MoldPacket.{MoldPacket}
use Rattle.mold_ffi.specs.declared.packets.mold_packet.TheConstants.{DATA, HEARTBEAT, END}

-- The number of the kind of a packet.
abbrev pub kind_of : Body → ℕ
kind_of (Data messages) = DATA
kind_of Heartbeat = HEARTBEAT
kind_of End = END

-- The code for the result of decoding a packet.
abbrev pub code_read : Result Packet DecodeError → ℕ
code_read (Ok packet) = codes.DONE
code_read (Err error) = decode_error_code error

-- The fields after decoding a packet. A packet sets all of them; a fault sets only `detail`.
abbrev pub packet_read : Result Packet DecodeError → MoldPacket → MoldPacket
packet_read (Ok packet) old = record {
  sequence = packet.sequence;
  detail = 0;
  kind = kind_of packet.body;
  count = length (messages_of packet.body);
  session = packet.session.0;
}
packet_read (Err error) old = record old { detail = decode_error_number error }
