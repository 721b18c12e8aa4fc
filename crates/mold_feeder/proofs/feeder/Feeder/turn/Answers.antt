use Rattle.std.proofs.Common.{ap, sym, subst}
use Rattle.mold_durable.specs.DurableJournal.{DurableState}
use Rattle.mold_durable.specs.Storage.{LeavesOnly}
use Rattle.mold_durable_publisher.specs.Told.{IsTold}
use Rattle.mold_feeder.specs.declared.feeder.Feeder.{Feeder}
use Rattle.mold_feeder.specs.Gathering.{IsFileUpTo}
use Rattle.mold_feeder.proofs.FeederLemmas.{turn_done}
use Rattle.mold_feeder.proofs.GatheringLemmas.{leaves_weaker, up_to_same}
use Rattle.mold_feeder.proofs.feeder.Feeder.turn.Goals as goal

pub returns-clause-turned : goal.returns-clause-turned
returns-clause-turned g c = λ life is none.
    turn_done g.S.Storage.shows g.S.Storage.may_leave g.L.PortSet.modeled g.L.PortSet.state c.args.lines.now life
    c.args.self.now c.take_input.new.self c.send_due.new.self _ _ c.in_ok-taken.taken is none
    (c.in_ok-taken.ensures.taken life is)
    (ap (λ (f : Feeder g.row.S.Denot g.row.L.Denot). f.ports) c.take_input.ensures.rest)
    (ap (λ (f : Feeder g.row.S.Denot g.row.L.Denot). f.counts) c.take_input.ensures.rest) c.send_due.ensures.sent

pub returns-clause-told : goal.returns-clause-told
returns-clause-told g c = λ life datagram is so.
    subst (λ (d : DurableState g.row.S.Denot). LeavesOnly g.S.Storage.moment g.S.Storage.left_since
    c.args.self.now.publisher.durable.storage d.storage (IsTold datagram)) (sym c.send_due.ensures.sent.storage)
    (c.take_input.ensures.told life datagram is so)

pub returns-clause-crash : goal.returns-clause-crash
returns-clause-crash g c = λ life is intact.
    let before = c.args.self.now.publisher.durable.storage in
    let mid = c.take_input.new.self.publisher in
    let new = c.send_due.new.self.publisher in
    subst (λ (d : DurableState g.row.S.Denot). LeavesOnly g.S.Storage.moment g.S.Storage.left_since before d.storage
    (IsFileUpTo life new)) (sym c.send_due.ensures.sent.storage)
    (leaves_weaker g.S.Storage.moment g.S.Storage.left_since before mid.durable.storage (IsFileUpTo life mid)
    (IsFileUpTo life new) (λ bytes. up_to_same life mid new bytes c.send_due.ensures.sent.journal)
    (c.take_input.ensures.crash life is intact))
