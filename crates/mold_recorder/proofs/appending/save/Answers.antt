use Rattle.mold_recorder.proofs.AppendingLemmas.{commit_outcome, commit_saved}
use Rattle.mold_recorder.proofs.appending.save.Goals as goal

pub returns-clause-committed : goal.returns-clause-committed
returns-clause-committed g c =
    commit_outcome g.S.Storage.shows g.S.Storage.may_leave g.S.Storage.moment g.S.Storage.left_since
    g.met.S.Storage.only_now c.args.journal.now c.commit.new.self c.commit.result c.commit.ensures.done
    c.commit.ensures.acknowledged c.commit.ensures.any_moment c.commit.ensures.after

pub returns-clause-saved : goal.returns-clause-saved
returns-clause-saved g c =
    commit_saved c.args.journal.now c.commit.new.self c.commit.result c.commit.ensures.done c.commit.ensures.after
