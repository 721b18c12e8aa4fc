use Rattle.mold_feeder.specs.Feeding.{state_of}
use Rattle.mold_feeder.proofs.FeedingLemmas.{fed_beaten, fed_yet}
use Rattle.mold_feeder.proofs.feed.Feed.begin.Goals as goal

pub returns-then-not-options-clause-fed : goal.returns-then-not-options-clause-fed
returns-then-not-options-clause-fed g c = λ life is.
    fed_yet g.S.Storage.shows g.S.Storage.may_leave g.S.Storage.moment g.S.Storage.left_since g.S.Storage.failed
    g.L.PortSet.modeled
    g.D.Datagrams.modeled c.args.options.now.lines g.met.S.Storage.only_now life
    (state_of g.L.PortSet.state g.D.Datagrams.port c.args.self.now) is

pub returns-clause-fed : goal.returns-clause-fed
returns-clause-fed g c = λ life is.
    fed_beaten g.S.Storage.shows g.S.Storage.may_leave g.S.Storage.moment g.S.Storage.left_since g.S.Storage.failed
    g.L.PortSet.modeled
    g.D.Datagrams.modeled c.args.options.now.lines g.met.S.Storage.only_now g.L.PortSet.state life
    c.args.self.now.feeder c.send_beat.new.self _ (g.D.Datagrams.port c.args.self.now.requests.port)
    c.args.self.now.requests.server is c.send_beat.ensures.sent

pub returns-in_err-push_resumed-clause-fed : goal.returns-in_err-push_resumed-clause-fed
returns-in_err-push_resumed-clause-fed g c = λ life is.
    fed_yet g.S.Storage.shows g.S.Storage.may_leave g.S.Storage.moment g.S.Storage.left_since g.S.Storage.failed
    g.L.PortSet.modeled
    g.D.Datagrams.modeled c.args.options.now.lines g.met.S.Storage.only_now life
    (state_of g.L.PortSet.state g.D.Datagrams.port c.args.self.now) is

pub returns-in_err-send-clause-fed : goal.returns-in_err-send-clause-fed
returns-in_err-send-clause-fed g c = λ life is.
    fed_yet g.S.Storage.shows g.S.Storage.may_leave g.S.Storage.moment g.S.Storage.left_since g.S.Storage.failed
    g.L.PortSet.modeled
    g.D.Datagrams.modeled c.args.options.now.lines g.met.S.Storage.only_now life
    (state_of g.L.PortSet.state g.D.Datagrams.port c.args.self.now) is
