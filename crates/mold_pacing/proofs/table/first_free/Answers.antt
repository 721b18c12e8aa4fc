use Rattle.mold_pacing.proofs.WalkLemmas.{walked_none}
use Rattle.mold_pacing.proofs.table.first_free.Goals as goal

pub loop-gap-init : goal.loop-gap-init
loop-gap-init c = walked_none c.args.flights.now c.args.now c.args.ripe c.args.gaps.now
