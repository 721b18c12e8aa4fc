use Rattle.std.proofs.Common.{◌≡◌, length, subst, sym}
use Rattle.std.proofs.lemmas.Result.{IfErr-weaker, IfOk-weaker}
use Rattle.mold_durable_publisher.specs.DurablePublisher.{ShowsJournal, WasServed}
use Rattle.mold_durable_publisher.specs.declared.durable_publisher.DurablePublisher.{DurablePublisher}
use Rattle.mold_durable_publisher.proofs.ServingLemmas.{both_served, journal_stored, packed_served, served_shows}
use Rattle.mold_durable_publisher.proofs.durable_publisher.DurablePublisherServedJournal.pack.Goals as goal

pub returns-clause-packed : goal.returns-clause-packed
returns-clause-packed g c =
    IfOk-weaker c.pack_from.result _ _
    (λ count packs journal is may.
    packs journal
    (journal_stored g.S.Storage.shows g.S.Storage.may_leave _ journal
    (subst (λ (p : DurablePublisher g.row.S.Denot). ShowsJournal g.S.Storage.shows g.S.Storage.may_leave p journal)
    (sym c.self.view_is) is)) may) c.pack_from.ensures.packed

pub returns-clause-refused : goal.returns-clause-refused
returns-clause-refused g c =
    IfErr-weaker c.pack_from.result _ _
    (λ error refuses journal is may.
    refuses journal
    (journal_stored g.S.Storage.shows g.S.Storage.may_leave _ journal
    (subst (λ (p : DurablePublisher g.row.S.Denot). ShowsJournal g.S.Storage.shows g.S.Storage.may_leave p journal)
    (sym c.self.view_is) is)) may) c.pack_from.ensures.refused

pub returns-clause-served : goal.returns-clause-served
returns-clause-served g c =
    let durable = c.self.inside.0.1.0 in
    let new : DurablePublisher g.row.S.Denot = record {
      publisher = c.self.inside.0.0;
      durable = record {
        storage = c.pack_from.new.storage;
        session = durable.session;
        max_message = durable.max_message;
        committed = durable.committed;
        end = durable.end;
        closed = durable.closed;
        waiting = durable.group.messages;
        broken = durable.broken;
      };
      index = c.pack_from.new.self;
    } in
    subst (λ (p : DurablePublisher g.row.S.Denot). WasServed g.S.Storage.shows g.S.Storage.may_leave
    g.S.Storage.moment g.S.Storage.left_since p new) c.self.view_is
    (packed_served g.S.Storage.shows g.S.Storage.may_leave g.S.Storage.moment g.S.Storage.left_since _
    c.pack_from.new.storage c.pack_from.new.self
    (subst (λ (p : DurablePublisher g.row.S.Denot). length p.durable.waiting ≡ 0) (sym c.self.view_is)
    (c.all_committed.ensures.0 c.if-not-all_committed.false))
    c.pack_from.ensures.storage c.pack_from.ensures.kept c.pack_from.ensures.shown)

pub returns-clause-shown : goal.returns-clause-shown
returns-clause-shown g c = λ journal is.
    served_shows g.S.Storage.shows g.S.Storage.may_leave g.S.Storage.moment g.S.Storage.left_since c.args.self.now _
    journal (returns-clause-served g c) is

pub returns-clause-stays : goal.returns-clause-stays
returns-clause-stays g c = λ earlier stayed.
    both_served g.S.Storage.shows g.S.Storage.may_leave g.S.Storage.moment g.S.Storage.left_since earlier
    c.args.self.now _ stayed (returns-clause-served g c)
