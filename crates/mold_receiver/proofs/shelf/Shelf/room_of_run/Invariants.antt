use Rattle.std.proofs.Common.{◌-◌, length}
use Rattle.mold_receiver.specs.Shelf.{slots_on}
use Rattle.mold_receiver.proofs.shelf.Shelf.room_of_run.Given as goal

abbrev pub decreases-loop-run : goal.decreases-loop-run
decreases-loop-run l = length (slots_on l.self) - l.slot
