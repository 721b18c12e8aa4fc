use Rattle.std.proofs.Common.{refl}
use Rattle.mold_feeder.proofs.GatheringLemmas.{told_unused}
use Rattle.mold_feeder.proofs.feeder.Feeder.close.Goals as goal

pub returns-then-stays_open-clause-told : goal.returns-then-stays_open-clause-told
returns-then-stays_open-clause-told g c = λ life datagram is so.
    told_unused g.S.Storage.shows g.S.Storage.may_leave g.S.Storage.moment g.S.Storage.left_since
    g.met.S.Storage.only_now c.told_law.ensures.later_file c.args.self.now.publisher life datagram
    c.args.self.now.publisher.durable.storage is so refl
