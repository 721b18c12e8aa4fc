use Rattle.std.proofs.Common.{refl, ap}
use Rattle.mold_durable.specs.DurableJournal.{DurableState}
use Rattle.mold_durable.specs.Life.Moment.{Commit}
use Rattle.mold_durable_publisher.proofs.PublishingLemmas.{commit_on_ok, kept_on_err, told_during}
use Rattle.mold_durable_publisher.proofs.durable_publisher.DurablePublisher.commit.Goals as goal

pub returns-clause-acknowledged : goal.returns-clause-acknowledged
returns-clause-acknowledged g c = λ life is.
    let old = c.args.self.now in
    commit_on_ok g.S.Storage.shows g.S.Storage.may_leave old (record old { durable = c.commit.new.self }) life
    c.commit.result is c.commit.ensures.acknowledged c.commit.ensures.done c.commit.ensures.intact refl refl

pub returns-clause-kept : goal.returns-clause-kept
returns-clause-kept g c = λ life is.
    let old = c.args.self.now in
    kept_on_err g.S.Storage.shows g.S.Storage.may_leave g.S.Storage.moment g.S.Storage.left_since
    g.met.S.Storage.counts_now g.met.S.Storage.only_now old life Commit is (record old { durable = c.commit.new.self })
    c.commit.result (c.commit.ensures.any_moment life) c.commit.ensures.unwritten refl refl c.commit.ensures.after

pub returns-clause-told : goal.returns-clause-told
returns-clause-told g c = λ life datagram is so.
    let old = c.args.self.now in
    told_during g.S.Storage.shows g.S.Storage.may_leave g.S.Storage.moment g.S.Storage.left_since
    g.met.S.Storage.counts_now g.met.S.Storage.only_now old life Commit is c.true_stays_law.ensures.message
    old.durable.broken c.commit.new.self.storage datagram refl so (c.commit.ensures.any_moment life)
    (λ was. ap (λ (d : DurableState g.row.S.Denot). d.storage) (c.commit.ensures.unwritten was))
