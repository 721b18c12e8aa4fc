-- A value has exactly one encoding, and different values have different encodings.
use Rattle.std.proofs.Common.{◌≡◌, ℕ, List, refl, sym, ◌∙◌}
use Rattle.std.specs.Prelude.{Result, Ok}
use Rattle.mold_wire.specs.declared.packet.Packet.{Packet}
use Rattle.mold_wire.specs.declared.request.Request.{Request}
use Rattle.mold_wire.specs.declared.error.DecodeError.{DecodeError}
use Rattle.mold_wire.specs.declared.error.RequestError.{RequestError}
use Rattle.mold_wire.specs.Packet.{Spells, IsPacket, spelling_of}
use Rattle.mold_wire.specs.Request.{SpellsRequest, IsRequest, request_spelling}
use Rattle.mold_wire.proofs.ReadingLemmas.{reading-spelled}
use Rattle.mold_wire.proofs.RequestLemmas.{request_reading-spelled}

pub packet_spelled : (packet : Packet) → IsPacket packet → Spells packet (spelling_of packet)
packet_spelled packet is = record { is_packet = is; spelled = refl }

abbrev packet_read : Packet → Result Packet DecodeError
packet_read packet = Ok packet

same_packet : (one other : Packet) → packet_read one ≡ packet_read other → one ≡ other
same_packet one other e = cc

pub one_packet : (one other : Packet) (bytes : List ℕ) → Spells one bytes → Spells other bytes → one ≡ other
one_packet one other bytes spells also =
    same_packet one other (sym (reading-spelled one bytes spells) ∙ reading-spelled other bytes also)

pub request_spelled : (request : Request) → IsRequest request → SpellsRequest request (request_spelling request)
request_spelled request is = record { is_request = is; spelled = refl }

abbrev request_read : Request → Result Request RequestError
request_read request = Ok request

same_request : (one other : Request) → request_read one ≡ request_read other → one ≡ other
same_request one other e = cc

pub one_request :
    (one other : Request) (bytes : List ℕ) → SpellsRequest one bytes → SpellsRequest other bytes → one ≡ other
one_request one other bytes spells also =
    same_request one other (sym (request_reading-spelled one bytes spells) ∙ request_reading-spelled other bytes also)

pub ruleset one_spelling = (packet_spelled, one_packet, request_spelled, one_request)
