use Rattle.mold_session.specs.Publisher.{next_heartbeat}
use Rattle.mold_world.proofs.RowLemmas.{heartbeat_row, sent_applied}
use Rattle.mold_world.specs.Inside.{world_of}
use Rattle.mold_world.specs.World.{WorldState}
use Rattle.mold_world.specs.declared.event.EventOf.TheVariants.{Heartbeat}
use Rattle.mold_world.proofs.participants.Participants.heartbeat.Goals as goal

pub returns-clause-applied : goal.returns-clause-applied
returns-clause-applied c =
    let w : WorldState = world_of c.args.self.now in
    sent_applied w Heartbeat (next_heartbeat w.publisher) c.store.result c.heartbeat.follows.lender-at-none c.store.new.sent.messages
    (heartbeat_row w) (λ some. some) (record {
      lent = _;
      lends = c.heartbeat.ensures.lent;
      left = c.heartbeat.follows.holds-at-none;
      told = c.store.ensures.told;
      now = c.store.ensures.stored;
      some = c.store.ensures.some;
      same = c.store.ensures.same;
      memory = c.store.ensures.memory;
    })
