use Rattle.mold_feeder.proofs.FeederLemmas.{sent_next}
use Rattle.mold_feeder.proofs.feeder.Feeder.send_next.Goals as goal

pub returns-clause-sent : goal.returns-clause-sent
returns-clause-sent g c =
    sent_next g.S.Storage.shows g.S.Storage.may_leave g.L.PortSet.modeled g.L.PortSet.state c.args.lines.now
    c.in-Some.datagram.now c.args.self.now (record {
      publisher = c.next_datagram.follows.lender-at-none;
      ports = c.send_on_lines.new.ports;
      pace = c.note.new.self;
      idle = c.note-2.new.self;
      datagrams = c.saturating_add-self.result;
      counts = c.send_on_lines.new.counts;
    }) c.in-Some.ensures.lent c.send_on_lines.ensures.sends c.send_on_lines.ensures.given c.send_on_lines.ensures.clock
    c.next_datagram.follows.holds-at-none c.in-Some.ensures.truth c.in-Some.ensures.told
