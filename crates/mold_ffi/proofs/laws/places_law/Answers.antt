use Rattle.std.proofs.Common.{◌+◌, Result, slice_get, length, ap, ◌∙◌, sym}
use Rattle.mold_wire.specs.Packing.{packet_length}
use Rattle.mold_wire.specs.declared.packet.Packet.{Packet}
use Rattle.mold_wire.specs.declared.error.DecodeError.{DecodeError}
use Rattle.mold_wire.specs.Packet.{messages_of}
use Rattle.mold_ffi.specs.Packets.MoldPlace.{places_read}
use Rattle.mold_ffi.proofs.PlaceLemmas.{placed, kept, lies_there}
use Rattle.mold_ffi.proofs.laws.places_law.Goals as goal

pub returns-clause-placed : goal.returns-clause-placed
returns-clause-placed c packet bytes before behind message old spells parts room =
    ap (λ (r : Result Packet DecodeError). slice_get (places_read r old) (length before))
    (c.reading_law.ensures.read packet bytes spells)
    ∙ placed (messages_of packet.body) before behind message old parts room

pub returns-clause-lies : goal.returns-clause-lies
returns-clause-lies c packet bytes before behind message old place spells parts room found =
    lies_there bytes (packet_length before + 2) message place
    (sym found
    ∙ ap (λ (r : Result Packet DecodeError). slice_get (places_read r old) (length before))
    (c.reading_law.ensures.read packet bytes spells)
    ∙ placed (messages_of packet.body) before behind message old parts room)
    (c.message_place_law.ensures packet bytes before behind message spells parts)

pub returns-clause-kept : goal.returns-clause-kept
returns-clause-kept c packet bytes old i spells behind =
    ap (λ (r : Result Packet DecodeError). slice_get (places_read r old) i)
    (c.reading_law.ensures.read packet bytes spells)
    ∙ kept (messages_of packet.body) old i behind
