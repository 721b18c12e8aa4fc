use Rattle.mold_ffi.proofs.PlaceLemmas.{HasFilled}
use Rattle.mold_ffi.proofs.packets.mold_place.put_places.Given as goal

abbrev pub invariant-loop-message : goal.invariant-loop-message
invariant-loop-message l = HasFilled l.at l.filled l.message-iterator l.places l.blocks l.fn.places
