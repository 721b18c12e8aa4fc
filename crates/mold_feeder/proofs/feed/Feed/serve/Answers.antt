use Rattle.std.proofs.Common.{[], false}
use Rattle.mold_feeder.specs.Feeding.{state_of}
use Rattle.mold_feeder.proofs.FeedingLemmas.{fed_beaten, fed_serving}
use Rattle.mold_feeder.proofs.feed.Feed.serve.Goals as goal

pub returns-clause-fed : goal.returns-clause-fed
returns-clause-fed g c = λ life is.
    fed_serving g.S.Storage.shows g.S.Storage.may_leave g.S.Storage.moment g.S.Storage.left_since g.S.Storage.failed
    g.L.PortSet.modeled g.D.Datagrams.modeled c.args.lines.now life [] false
    (state_of g.L.PortSet.state g.D.Datagrams.port c.args.self.now)
    (state_of g.L.PortSet.state g.D.Datagrams.port c.answer.new.self)
    (state_of g.L.PortSet.state g.D.Datagrams.port
    (record c.answer.new.self { feeder = c.send_due.new.self })) (c.answer.ensures.fed c.args.lines.now life is)
    (λ now rests.
    fed_beaten g.S.Storage.shows g.S.Storage.may_leave g.S.Storage.moment g.S.Storage.left_since g.S.Storage.failed
    g.L.PortSet.modeled g.D.Datagrams.modeled c.args.lines.now g.met.S.Storage.only_now g.L.PortSet.state now
    c.answer.new.self.feeder c.send_due.new.self _ (g.D.Datagrams.port c.answer.new.self.requests.port)
    c.answer.new.self.requests.server rests c.send_due.ensures.sent)
