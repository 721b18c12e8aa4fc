use Rattle.std.proofs.lemmas.Result.{err_from_is_err_and}
use Rattle.mold_world.proofs.RowLemmas.{publish_done, publish_refused}
use Rattle.mold_world.specs.Inside.{world_of}
use Rattle.mold_world.proofs.participants.Participants.publish.Goals as goal

pub returns-in_err-number-clause-applied : goal.returns-in_err-number-clause-applied
returns-in_err-number-clause-applied c =
    let e = err_from_is_err_and c.from_residual.result c.from_residual.ensures.1 in
    rw e.1
    (publish_refused (world_of c.args.self.now) c.args.message.now _ e.0 c.publish.new.self
    c.in_err-number.ensures.refused e.2 c.in_err-number.ensures.same)

pub returns-clause-applied : goal.returns-clause-applied
returns-clause-applied c =
    publish_done (world_of c.args.self.now) c.args.message.now _ c.publish.new.self c.in_ok-number.ensures.taken
    c.in_ok-number.ensures.number c.in_ok-number.ensures.added
