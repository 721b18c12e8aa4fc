use Rattle.mold_receiver.proofs.OccupiedRingLemmas.{flags_new}
use Rattle.mold_receiver.proofs.occupied.Occupied.new.Goals as goal

pub returns : goal.returns
returns c = flags_new c.in_ok-levels.levels.bits.items c.args.count c.in_ok-levels.ensures.clear
