use Rattle.std.proofs.Common.{Bool, [], subst, sym, ◌∙◌}
use Rattle.mold_recorder.specs.Recording.{LeavesFiles}
use Rattle.mold_recorder.proofs.EndingLemmas.{files_close, files_commit}
use Rattle.mold_recorder.proofs.feed_recorder.end_journal.Goals as goal

pub returns-in-Ok-clause-leaves : goal.returns-in-Ok-clause-leaves
returns-in-Ok-clause-leaves g c =
    subst (λ (b : Bool). LeavesFiles g.S.Storage.shows g.S.Storage.may_leave g.S.Storage.moment g.S.Storage.left_since
    c.args.journal.now c.close.new.self [] b) (sym c.if-is_finished.true ∙ c.is_finished.ensures)
    (files_close g.S.Storage.shows g.S.Storage.may_leave g.S.Storage.moment g.S.Storage.left_since c.args.journal.now
    c.close.new.self c.close.ensures.any_moment)

pub returns-in-Err-clause-leaves : goal.returns-in-Err-clause-leaves
returns-in-Err-clause-leaves g c =
    subst (λ (b : Bool). LeavesFiles g.S.Storage.shows g.S.Storage.may_leave g.S.Storage.moment g.S.Storage.left_since
    c.args.journal.now c.close.new.self [] b) (sym c.if-is_finished.true ∙ c.is_finished.ensures)
    (files_close g.S.Storage.shows g.S.Storage.may_leave g.S.Storage.moment g.S.Storage.left_since c.args.journal.now
    c.close.new.self c.close.ensures.any_moment)

pub returns-in-Ok-commit-clause-leaves : goal.returns-in-Ok-commit-clause-leaves
returns-in-Ok-commit-clause-leaves g c =
    files_commit g.S.Storage.shows g.S.Storage.may_leave g.S.Storage.moment g.S.Storage.left_since c.args.journal.now
    c.commit.new.self _ c.commit.ensures.any_moment

pub returns-in-Err-commit-clause-leaves : goal.returns-in-Err-commit-clause-leaves
returns-in-Err-commit-clause-leaves g c =
    files_commit g.S.Storage.shows g.S.Storage.may_leave g.S.Storage.moment g.S.Storage.left_since c.args.journal.now
    c.commit.new.self _ c.commit.ensures.any_moment
