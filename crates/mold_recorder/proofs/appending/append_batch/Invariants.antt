use Rattle.mold_recorder.proofs.AppendingLemmas.{AppendsFront}
use Rattle.mold_recorder.specs.CommitPlan.{IsPlanOf}
use Rattle.mold_recorder.proofs.appending.append_batch.Given as goal

-- The messages so far are appended. The iterator has the remaining ones.
abbrev pub invariant-loop-message : goal.invariant-loop-message
invariant-loop-message g l = record {
  appends : AppendsFront g.S.Storage.shows g.S.Storage.may_leave g.S.Storage.moment g.S.Storage.left_since
      l.fn.journal l.journal l.batch.messages l.message-iterator;
  plan : IsPlanOf l.plan l.journal.waiting;
}
