use Rattle.std.proofs.Common.{refl}
use Rattle.std.proofs.lemmas.Option.{slice_get_read}
use Rattle.mold_world.proofs.PlaceRowLemmas.{none_there, restart_applied, restart_nobody}
use Rattle.mold_world.specs.Inside.{world_of}
use Rattle.mold_world.proofs.participants.Participants.restart.Goals as goal

pub returns-in-Some-clause-applied : goal.returns-in-Some-clause-applied
returns-in-Some-clause-applied c =
    let here = slice_get_read c.args.self.now.subscribers.items _ c.args.r c.in-Some.subscriber.now c.args.self.now.subscribers.ok.0
    (c.in-Some.ensures.variant.0 refl) c.in-Some.ensures.value
    in
    restart_applied (world_of c.args.self.now) c.args.r c.args.next c.in-Some.subscriber.now c.restart.new.self
    c.restart.result here c.restart.ensures

pub returns-in-None-clause-applied : goal.returns-in-None-clause-applied
returns-in-None-clause-applied c = (
  restart_nobody (world_of c.args.self.now) c.args.r c.args.next
      (none_there c.args.self.now.subscribers.items _ c.args.r c.args.self.now.subscribers.ok.0 c.in-None.ensures.variant.1),
  refl,
)
