use Rattle.mold_session.specs.Publisher.{next_end}
use Rattle.mold_world.proofs.RowLemmas.{end_row, sent_applied}
use Rattle.mold_world.specs.Inside.{world_of}
use Rattle.mold_world.specs.World.{WorldState}
use Rattle.mold_world.specs.declared.event.EventOf.TheVariants.{End}
use Rattle.mold_world.proofs.participants.Participants.end.Goals as goal

pub returns-clause-applied : goal.returns-clause-applied
returns-clause-applied c =
    let w : WorldState = world_of c.args.self.now in
    sent_applied w End (next_end w.publisher) c.store.result c.end.follows.lender-at-none c.store.new.sent.messages
    (end_row w) (λ some. some) (record {
      lent = _;
      lends = c.end.ensures.lent;
      left = c.end.follows.holds-at-none;
      told = c.store.ensures.told;
      now = c.store.ensures.stored;
      some = c.store.ensures.some;
      same = c.store.ensures.same;
      memory = c.store.ensures.memory;
    })
