use Rattle.mold_world.proofs.RowLemmas.{close_done, close_refused}
use Rattle.mold_world.specs.Inside.{world_of}
use Rattle.mold_world.proofs.participants.Participants.close.Goals as goal

pub returns-in-Ok-clause-applied : goal.returns-in-Ok-clause-applied
returns-in-Ok-clause-applied c =
    close_done (world_of c.args.self.now) c.close.new.self c.in-Ok.ensures.ok c.in-Ok.ensures.closed

pub returns-in-Err-clause-applied : goal.returns-in-Err-clause-applied
returns-in-Err-clause-applied c =
    close_refused (world_of c.args.self.now) c.in-Err.unsent c.close.new.self c.in-Err.ensures.unsent
    c.in-Err.ensures.refused c.in-Err.ensures.same
