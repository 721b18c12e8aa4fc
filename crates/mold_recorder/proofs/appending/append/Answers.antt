use Rattle.std.proofs.Common.{[], ◌∷◌, subst, sym}
use Rattle.std.proofs.lemmas.Result.{on_err_weaker, on_ok_weaker}
use Rattle.mold_durable.specs.DurableJournal.{DurableState}
use Rattle.mold_recorder.specs.Appending.{HasAppendedSome}
use Rattle.mold_recorder.proofs.AppendingLemmas.{appended_one, appended_then, some_none, some_then}
use Rattle.mold_recorder.proofs.appending.append.Goals as goal

pub returns-then-is_large-clause-appended : goal.returns-then-is_large-clause-appended
returns-then-is_large-clause-appended g c =
    on_ok_weaker c.commit.result
    (appended_then g.S.Storage.shows g.S.Storage.may_leave g.S.Storage.moment g.S.Storage.left_since
    g.met.S.Storage.only_now c.args.journal.now c.append.new.self c.commit.new.journal (c.args.message.now ∷ []) []
    (appended_one g.S.Storage.shows g.S.Storage.may_leave g.S.Storage.moment g.S.Storage.left_since
    g.met.S.Storage.only_now c.args.journal.now c.append.new.self c.args.message.now c.in-Ok.ensures.added
    (λ life lives. (c.in-Ok.ensures.appended life lives).1)))
    c.commit.ensures.appended

pub returns-then-is_large-clause-some : goal.returns-then-is_large-clause-some
returns-then-is_large-clause-some g c =
    on_err_weaker c.commit.result
    (some_then g.S.Storage.shows g.S.Storage.may_leave g.S.Storage.moment g.S.Storage.left_since
    g.met.S.Storage.only_now c.args.journal.now c.append.new.self c.commit.new.journal (c.args.message.now ∷ []) []
    (appended_one g.S.Storage.shows g.S.Storage.may_leave g.S.Storage.moment g.S.Storage.left_since
    g.met.S.Storage.only_now c.args.journal.now c.append.new.self c.args.message.now c.in-Ok.ensures.added
    (λ life lives. (c.in-Ok.ensures.appended life lives).1)))
    c.commit.ensures.some

pub returns-in-Err-clause-some : goal.returns-in-Err-clause-some
returns-in-Err-clause-some g c =
    subst (λ (j : DurableState g.row.S.Denot). HasAppendedSome g.S.Storage.shows g.S.Storage.may_leave
    g.S.Storage.moment g.S.Storage.left_since c.args.journal.now j (c.args.message.now ∷ []))
    (sym c.in-Err.ensures.same)
    (some_none g.S.Storage.shows g.S.Storage.may_leave g.S.Storage.moment g.S.Storage.left_since
    g.met.S.Storage.only_now c.args.journal.now (c.args.message.now ∷ []))
