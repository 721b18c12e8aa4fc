use Rattle.mold_session.specs.Publisher.{next_heartbeat}
use Rattle.mold_feeder.proofs.FeederLemmas.{sent_often}
use Rattle.mold_feeder.proofs.feeder.Feeder.send_beats.Goals as goal

pub returns-in-Some-clause-sent : goal.returns-in-Some-clause-sent
returns-in-Some-clause-sent g c =
    sent_often g.S.Storage.shows g.S.Storage.may_leave g.L.PortSet.modeled g.L.PortSet.state c.args.lines.now
    (next_heartbeat c.args.self.now.publisher.publisher) c.args.times c.in-Some.beat.now c.args.self.now (record {
      publisher = c.heartbeat.follows.lender-at-none;
      ports = c.send_often.new.ports;
      pace = c.args.self.now.pace;
      idle = c.args.self.now.idle;
      datagrams = c.args.self.now.datagrams;
      counts = c.send_often.new.counts;
    }) c.in-Some.ensures.lent c.send_often.ensures.sends c.send_often.ensures.given c.send_often.ensures.clock
    c.heartbeat.follows.holds-at-none c.in-Some.ensures.truth c.in-Some.ensures.told
