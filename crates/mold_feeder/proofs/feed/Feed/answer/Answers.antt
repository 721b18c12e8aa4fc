use Rattle.std.proofs.Common.{refl}
use Rattle.mold_feeder.specs.Feeding.{state_of}
use Rattle.mold_feeder.proofs.FeedingLemmas.{fed_replied}
use Rattle.mold_feeder.proofs.feed.Feed.answer.Goals as goal

pub returns-clause-fed : goal.returns-clause-fed
returns-clause-fed g c = λ lines life is.
    fed_replied g.S.Storage.shows g.S.Storage.may_leave g.S.Storage.moment g.S.Storage.left_since g.S.Storage.failed
    g.L.PortSet.modeled g.D.Datagrams.modeled lines g.met.S.Storage.only_now life
    (state_of g.L.PortSet.state g.D.Datagrams.port c.args.self.now) _ c.answer_waiting.result is
    c.answer_waiting.ensures.served refl
    (λ life shown rests modeled. c.answer_waiting.ensures.replied life shown rests modeled)
    c.answer_waiting.ensures.refused c.answer_waiting.ensures.failures c.answer_waiting.ensures.limits
