use Rattle.std.proofs.Common.{refl, sym, ap, subst}
use Rattle.mold_durable.specs.DurableJournal.{DurableState}
use Rattle.mold_durable.specs.Life.{after}
use Rattle.mold_durable.specs.Life.Moment.{Close}
use Rattle.mold_session.specs.Publisher.{PublisherState}
use Rattle.mold_durable_publisher.specs.DurablePublisher.{Publishes}
use Rattle.mold_durable_publisher.proofs.PublishingLemmas.{close_publishes, failed_publishes, told_during, told_still}
use Rattle.mold_durable_publisher.proofs.durable_publisher.DurablePublisher.close.Goals as goal

pub returns-then-count-gt0-clause-told : goal.returns-then-count-gt0-clause-told
returns-then-count-gt0-clause-told g c = λ life datagram is so.
    told_still g.S.Storage.shows g.S.Storage.may_leave g.S.Storage.moment g.S.Storage.left_since
    g.met.S.Storage.counts_now g.met.S.Storage.only_now c.args.self.now life Close is c.true_stays_law.ensures.message datagram so

pub returns-in-Ok-close-clause-told : goal.returns-in-Ok-close-clause-told
returns-in-Ok-close-clause-told g c = λ life datagram is so.
    told_during g.S.Storage.shows g.S.Storage.may_leave g.S.Storage.moment g.S.Storage.left_since
    g.met.S.Storage.counts_now g.met.S.Storage.only_now c.args.self.now life Close is c.true_stays_law.ensures.message
    c.args.self.now.durable.broken c.close.new.self.storage datagram refl so (c.close.ensures.any_moment life)
    (λ was. ap (λ (d : DurableState g.row.S.Denot). d.storage) (c.close.ensures.unwritten was))

pub returns-in-Err-clause-told : goal.returns-in-Err-clause-told
returns-in-Err-clause-told g c = λ life datagram is so.
    told_during g.S.Storage.shows g.S.Storage.may_leave g.S.Storage.moment g.S.Storage.left_since
    g.met.S.Storage.counts_now g.met.S.Storage.only_now c.args.self.now life Close is c.true_stays_law.ensures.message
    c.args.self.now.durable.broken c.close.new.self.storage datagram refl so (c.close.ensures.any_moment life)
    (λ was. ap (λ (d : DurableState g.row.S.Denot). d.storage) (c.close.ensures.unwritten was))

pub returns-in-Ok-close-clause-acknowledged : goal.returns-in-Ok-close-clause-acknowledged
returns-in-Ok-close-clause-acknowledged g c = λ life is.
    let old = c.args.self.now in
    subst (λ (p : PublisherState). Publishes g.S.Storage.shows g.S.Storage.may_leave
    (record { publisher = p; durable = c.close.new.self; index = old.index }) (after life Close))
    (sym c.in-Ok-close.ensures.closed)
    (close_publishes g.S.Storage.shows g.S.Storage.may_leave old c.close.new.self life is
    (c.in-Ok.ensures.acknowledged life (is.lives c.in-Ok.ensures.intact)) c.in-Ok.ensures.done)

pub returns-in-Err-clause-kept : goal.returns-in-Err-clause-kept
returns-in-Err-clause-kept g c = λ life is.
    let old = c.args.self.now in
    failed_publishes g.S.Storage.shows g.S.Storage.may_leave g.S.Storage.moment g.S.Storage.left_since
    g.met.S.Storage.counts_now g.met.S.Storage.only_now old life Close is old.durable.broken
    (record old { durable = c.close.new.self }) refl (c.close.ensures.any_moment life) c.close.ensures.unwritten refl refl
    c.in-Err.ensures.after
