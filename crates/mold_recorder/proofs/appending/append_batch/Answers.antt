use Rattle.std.proofs.Common.{◌∙◌}
use Rattle.mold_receive.proofs.CallLemmas.{on_err_of}
use Rattle.mold_recorder.proofs.AppendingLemmas.{front_all, front_more, front_none, front_stopped}
use Rattle.mold_recorder.proofs.appending.append_batch.Goals as goal

pub loop-message-init : goal.loop-message-init
loop-message-init g c = record {
  appends = front_none g.S.Storage.shows g.S.Storage.may_leave g.S.Storage.moment g.S.Storage.left_since
      g.met.S.Storage.only_now c.args.journal.now c.args.batch.now.messages c.into_iter-message-iterator.result
      (c.into_iter-message-iterator.ensures.into_iter_gives ∙ c.iter-message-items.ensures);
  plan = c.requires.plan;
}

pub loop-message-preserved : goal.loop-message-preserved
loop-message-preserved g c = record {
  appends = front_more g.S.Storage.shows g.S.Storage.may_leave g.S.Storage.moment g.S.Storage.left_since
      g.met.S.Storage.only_now c.args.journal.now c.loop-message.journal c.append.new.journal
      c.args.batch.now.messages c.loop-message.message-iterator c.in-Some.message.now c.next.new.self
      c.in-Some.ensures.steps c.loop-message.invariant.appends c.in_ok-append.ensures.appended;
  plan = c.in_ok-append.ensures.plan;
}

pub returns-in_err-append-clause-some : goal.returns-in_err-append-clause-some
returns-in_err-append-clause-some g c =
    on_err_of c.from_residual.result
    (front_stopped g.S.Storage.shows g.S.Storage.may_leave g.S.Storage.moment g.S.Storage.left_since
    g.met.S.Storage.only_now c.args.journal.now c.loop-message.journal c.append.new.journal c.args.batch.now.messages
    c.loop-message.message-iterator c.in-Some.message.now c.next.new.self c.in-Some.ensures.steps
    c.loop-message.invariant.appends c.in_err-append.ensures.some)

pub returns-clause-appended : goal.returns-clause-appended
returns-clause-appended g c =
    front_all g.S.Storage.shows g.S.Storage.may_leave g.S.Storage.moment g.S.Storage.left_since
    c.args.journal.now c.loop-message.journal c.args.batch.now.messages c.loop-message.message-iterator
    c.in-None.ensures.steps.0 c.loop-message.invariant.appends
