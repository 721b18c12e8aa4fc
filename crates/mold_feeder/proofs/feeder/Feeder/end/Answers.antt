use Rattle.std.proofs.Common.{◌∙◌, ap, sym, subst}
use Rattle.mold_durable.specs.DurableJournal.{DurableState}
use Rattle.mold_durable.specs.Storage.{LeavesOnly}
use Rattle.mold_durable_publisher.specs.Told.{IsTold}
use Rattle.mold_durable_publisher.specs.declared.durable_publisher.DurablePublisher.{DurablePublisher}
use Rattle.mold_feeder.specs.Feeder.{ended}
use Rattle.mold_feeder.specs.declared.feeder.Feeder.{Feeder}
use Rattle.mold_feeder.proofs.FeederLemmas.{has_ended}
use Rattle.mold_feeder.proofs.feeder.Feeder.end.Goals as goal

pub returns-in-Ok-clause-ended : goal.returns-in-Ok-clause-ended
returns-in-Ok-clause-ended g c = λ life is.
    has_ended g.S.Storage.shows g.S.Storage.may_leave g.L.PortSet.modeled g.L.PortSet.state c.args.lines.now
    c.told_law.ensures.moment c.told_law.ensures.later_file c.args.end life c.args.self.now c.send_beats.new.self
    c.close.new.self c.send_ends.new.self is c.send_beats.ensures.sent
    (c.in-Ok.ensures.publishes life (c.send_beats.ensures.sent.publishes life is))
    (ap (λ (f : Feeder g.row.S.Denot g.row.L.Denot). f.ports) c.close.ensures.rest)
    (ap (λ (f : Feeder g.row.S.Denot g.row.L.Denot). f.counts) c.close.ensures.rest)
    (c.in-Ok.ensures.publisher
    ∙ ap (λ (p : DurablePublisher g.row.S.Denot). ended c.args.end p.publisher) c.send_beats.ensures.publisher)
    c.send_ends.ensures.sent c.send_ends.ensures.publisher

pub returns-in-Err-clause-told : goal.returns-in-Err-clause-told
returns-in-Err-clause-told g c = λ life datagram is so.
    subst (λ (d : DurableState g.row.S.Denot). LeavesOnly g.S.Storage.moment g.S.Storage.left_since d.storage
    c.close.new.self.publisher.durable.storage (IsTold datagram)) c.send_beats.ensures.sent.storage
    (c.close.ensures.told life datagram (c.send_beats.ensures.sent.publishes life is) so)

pub returns-in-Ok-clause-told : goal.returns-in-Ok-clause-told
returns-in-Ok-clause-told g c = λ life datagram is so.
    subst (λ (d : DurableState g.row.S.Denot). LeavesOnly g.S.Storage.moment g.S.Storage.left_since
    c.args.self.now.publisher.durable.storage d.storage (IsTold datagram)) (sym c.send_ends.ensures.sent.storage)
    (subst (λ (d : DurableState g.row.S.Denot). LeavesOnly g.S.Storage.moment g.S.Storage.left_since d.storage
    c.close.new.self.publisher.durable.storage (IsTold datagram)) c.send_beats.ensures.sent.storage
    (c.close.ensures.told life datagram (c.send_beats.ensures.sent.publishes life is) so))

pub returns-in-Err-clause-beats_sent : goal.returns-in-Err-clause-beats_sent
returns-in-Err-clause-beats_sent g c = record {
  mid = c.send_beats.new.self;
  sent = c.send_beats.ensures.sent;
  silent = ap (λ (f : Feeder g.row.S.Denot g.row.L.Denot). f.ports) c.close.ensures.rest;
}
