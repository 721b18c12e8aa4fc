use Rattle.mold_world.proofs.ApplyLemmas.{wanting_where_memory}
use Rattle.mold_world.specs.Event.{seen}
use Rattle.mold_world.proofs.world.World.apply_or_skip.Goals as goal

pub returns-in-Err-Memory-clause-wanting : goal.returns-in-Err-Memory-clause-wanting
returns-in-Err-Memory-clause-wanting c =
    wanting_where_memory c.args.self.now (seen c.args.event.now) _
    c.in-Err-Memory.field-0-is c.in-Err-Memory.ensures.refused
