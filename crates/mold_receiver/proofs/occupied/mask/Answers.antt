use Rattle.mold_receiver.proofs.OccupiedLemmas.{mask_is}
use Rattle.mold_receiver.proofs.occupied.mask.Goals as goal

pub returns : goal.returns
returns c = mask_is c.args.from c.args.to c.requires.some c.requires.one
