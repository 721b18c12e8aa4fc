use Rattle.std.proofs.Common.{◌+◌, [], ◌∷◌, ◌++◌, true, length}
use Rattle.mold_durable.specs.Life.{after}
use Rattle.mold_durable.specs.Life.Moment.{Close, Commit}
use Rattle.mold_durable.proofs.LifeLemmas.{life_of, lives, settled_of}
use Rattle.mold_durable.proofs.CrashLemmas.{append_live, commit_live, commit_moments}
use Rattle.mold_durable.proofs.crash.take_step.Goals as goal

pub returns-in-Append-clause-live : goal.returns-in-Append-clause-live
returns-in-Append-clause-live g c = λ session messages live.
    append_live g.S.Storage.shows g.S.Storage.may_leave session messages c.args.journal.now c.append.new.self
    (c.args.journal.now.waiting ++ c.deref.result.now ∷ []) c.append.result c.append.ensures.added c.append.ensures.same
    live

pub returns-in-Commit-clause-live : goal.returns-in-Commit-clause-live
returns-in-Commit-clause-live g c = λ session messages live.
    let old = c.args.journal.now in
    commit_live g.S.Storage.shows g.S.Storage.may_leave session messages g.S.Storage.moment g.S.Storage.left_since
    g.met.S.Storage.counts_now g.met.S.Storage.only_now old c.commit.new.self old.closed
    (old.committed + length old.waiting) c.commit.result
    (λ ms settled. settled_of g.S.Storage.shows g.S.Storage.may_leave c.commit.new.self (after (life_of old ms) Commit)
    c.commit.result (c.commit.ensures.acknowledged (life_of old ms)
    (lives g.S.Storage.shows g.S.Storage.may_leave old ms settled)))
    (λ ms settled. c.commit.ensures.any_moment (life_of old ms)
    (lives g.S.Storage.shows g.S.Storage.may_leave old ms settled))
    c.commit.ensures.done c.commit.ensures.unwritten c.commit.ensures.after live

pub returns-in-Commit-clause-any_moment : goal.returns-in-Commit-clause-any_moment
returns-in-Commit-clause-any_moment g c = λ session messages live.
    let old = c.args.journal.now in
    commit_moments g.S.Storage.shows g.S.Storage.may_leave session messages g.S.Storage.moment g.S.Storage.left_since
    g.met.S.Storage.counts_now g.met.S.Storage.only_now old c.commit.new.self old.closed
    (old.committed + length old.waiting) c.commit.result
    (λ ms settled. settled_of g.S.Storage.shows g.S.Storage.may_leave c.commit.new.self (after (life_of old ms) Commit)
    c.commit.result (c.commit.ensures.acknowledged (life_of old ms)
    (lives g.S.Storage.shows g.S.Storage.may_leave old ms settled)))
    (λ ms settled. c.commit.ensures.any_moment (life_of old ms)
    (lives g.S.Storage.shows g.S.Storage.may_leave old ms settled))
    c.commit.ensures.done c.commit.ensures.unwritten c.commit.ensures.after live

pub returns-in-Close-clause-live : goal.returns-in-Close-clause-live
returns-in-Close-clause-live g c = λ session messages live.
    let old = c.args.journal.now in
    commit_live g.S.Storage.shows g.S.Storage.may_leave session messages g.S.Storage.moment g.S.Storage.left_since
    g.met.S.Storage.counts_now g.met.S.Storage.only_now old c.close.new.self true
    (old.committed + length old.waiting) c.close.result
    (λ ms settled. settled_of g.S.Storage.shows g.S.Storage.may_leave c.close.new.self (after (life_of old ms) Close)
    c.close.result (c.close.ensures.acknowledged (life_of old ms)
    (lives g.S.Storage.shows g.S.Storage.may_leave old ms settled)))
    (λ ms settled. c.close.ensures.any_moment (life_of old ms)
    (lives g.S.Storage.shows g.S.Storage.may_leave old ms settled))
    c.close.ensures.done c.close.ensures.unwritten c.close.ensures.after live

pub returns-in-Close-clause-any_moment : goal.returns-in-Close-clause-any_moment
returns-in-Close-clause-any_moment g c = λ session messages live.
    let old = c.args.journal.now in
    commit_moments g.S.Storage.shows g.S.Storage.may_leave session messages g.S.Storage.moment g.S.Storage.left_since
    g.met.S.Storage.counts_now g.met.S.Storage.only_now old c.close.new.self true
    (old.committed + length old.waiting) c.close.result
    (λ ms settled. settled_of g.S.Storage.shows g.S.Storage.may_leave c.close.new.self (after (life_of old ms) Close)
    c.close.result (c.close.ensures.acknowledged (life_of old ms)
    (lives g.S.Storage.shows g.S.Storage.may_leave old ms settled)))
    (λ ms settled. c.close.ensures.any_moment (life_of old ms)
    (lives g.S.Storage.shows g.S.Storage.may_leave old ms settled))
    c.close.ensures.done c.close.ensures.unwritten c.close.ensures.after live
