use Rattle.std.proofs.Common.{ap}
use Rattle.mold_durable.specs.DurableJournal.{DurableState}
use Rattle.mold_recorder.proofs.AppendingLemmas.{some_commit}
use Rattle.mold_recorder.proofs.appending.commit.Goals as goal

pub returns-in-Err-clause-some : goal.returns-in-Err-clause-some
returns-in-Err-clause-some g c =
    some_commit g.S.Storage.shows g.S.Storage.may_leave g.S.Storage.moment g.S.Storage.left_since c.args.journal.now
    c.commit.new.self (ap (λ (j : DurableState g.row.S.Denot). j.broken) c.in-Err.ensures.after)
    c.commit.ensures.any_moment
