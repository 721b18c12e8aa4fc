use Rattle.std.proofs.Common.{refl, sym, ap, subst, ◌∙◌, Ok}
use Rattle.std.specs.Prelude.{Result, IsOk, is_ok, OnErr, Err}
use Rattle.mold_rounds.proofs.FilledLemmas.{batch_follows}
use Rattle.mold_rounds.proofs.StartLemmas.{AnswersRequests, Wants, begins, one_plan, plan_made, rounding_ahead, rounding_batch}
use Rattle.mold_rounds.proofs.StartLemmas.{rounding_done, rounding_more, rounding_shorter}
use Rattle.mold_rounds.proofs.StartLemmas.{rounding_stopped, starts, wants}
use Rattle.mold_rounds.proofs.rounding.take_round.Goals.{After-plan}
use Rattle.mold_rounds.proofs.rounding.take_round.Goals as goal
use Rattle.mold_session.specs.Answer.{PlanState}
use Rattle.mold_session.specs.Server.{counted_if}
use Rattle.mold_session.specs.declared.error.AnswerError.{AnswerError}

-- The receiver wants messages that the journal has.
wanting : (c : After-plan) → Wants c.args.receiver.now c.args.journal.now c.args.request.now
wanting c =
    wants c.wanted_law.ensures.asks c.wanted_law.ensures.gap c.args.receiver.now c.args.journal.now c.args.request.now
    c.requires.wanted c.requires.well_formed c.requires.session c.requires.known

answering : After-plan → AnswersRequests
answering c = record {
  asked = c.answered_law.ensures.asked;
  planned_so = c.answered_law.ensures.planned;
  plan_is = c.answered_law.ensures.plan;
  answers = c.answered_law.ensures.answer;
  first = c.answer_not_empty_law.ensures.first;
}

pub unwrap-plan-requires : goal.unwrap-plan-requires
unwrap-plan-requires c =
    let wants_it = wanting (goal.at.unwrap-plan-requires c).After-plan in
    let laws = answering (goal.at.unwrap-plan-requires c).After-plan in
    subst (λ (r : Result PlanState AnswerError). IsOk r)
    (sym (c.plan.ensures.planned ∙ plan_made laws c.args.receiver.now c.args.journal.now c.args.server.now.burst
    c.args.request.now c.encode.result wants_it c.encode.ensures)) refl

pub loop-init : goal.loop-init
loop-init c =
    let wants_it = wanting (goal.at.loop-init c).After-plan in
    let laws = answering (goal.at.loop-init c).After-plan in
    let made =
    plan_made laws c.args.receiver.now c.args.journal.now c.args.server.now.burst c.args.request.now c.encode.result
    wants_it c.encode.ensures
    in
    record {
      start = starts laws
          (record {
            front_is = c.front_law.ensures.front;
            part = c.first_part_law.ensures;
            first = c.packing_law.ensures.first;
          })
          (record {
            skip = c.ranges_walk_law.ensures.skip;
            run = c.ranges_walk_law.ensures.run;
            same = c.ranges_walk_law.ensures.same;
          })
          c.args.receiver.now c.args.batch.now c.args.journal.now c.args.server.now c.args.request.now wants_it
          c.plan.ensures.server
          (c.answer_not_empty_law.ensures.fit c.args.journal.now c.args.server.now c.plan.ensures.journal
          c.plan.ensures.server c.requires.longest);
      answered = c.plan.ensures.counted
          ∙ ap (λ (r : Result PlanState AnswerError). counted_if (is_ok r) c.args.server.now) c.unwrap-plan.ensures;
      so_far = begins laws c.args.receiver.now c.args.batch.now c.args.journal.now c.args.server.now c.args.request.now
          c.unwrap-plan.result wants_it
          (one_plan c.plan.result c.unwrap-plan.result _ c.unwrap-plan.ensures (c.plan.ensures.planned ∙ made));
    }

pub take_next-requires-clause-follows : goal.take_next-requires-clause-follows
take_next-requires-clause-follows c =
    let is = c.loop.invariant in
    batch_follows c.followed_law.ensures.follows c.args.receiver.now c.loop.receiver c.args.journal.now.messages
    c.args.batch.now c.loop.batch
    (rounding_ahead c.args.receiver.now c.args.batch.now c.args.journal.now c.args.server.now c.loop.receiver
    c.loop.receiver c.loop.batch c.loop.plan c.loop.server is refl)
    c.requires.follows is.so_far.batch

pub loop-smaller : goal.loop-smaller
loop-smaller c =
    rounding_shorter c.args.receiver.now c.args.batch.now c.args.journal.now c.args.server.now c.loop.receiver
    c.take_next.new.receiver c.loop.batch c.take_next.new.batch c.loop.plan c.take_next.new.plan c.loop.server
    c.loop.invariant (rw c.if-branch.true at c.in_ok-take_next.ensures.taken)

pub loop-preserved : goal.loop-preserved
loop-preserved c =
    rounding_more c.followed_law.ensures.twice c.args.receiver.now c.args.batch.now c.args.journal.now
    c.args.server.now c.loop.receiver c.take_next.new.receiver c.loop.batch c.take_next.new.batch c.loop.plan
    c.take_next.new.plan c.loop.server c.take_next.new.server c.loop.invariant
    (rw c.if-branch.true at c.in_ok-take_next.ensures.taken) c.take_next.ensures.server

pub returns-clause-round : goal.returns-clause-round
returns-clause-round c =
    rounding_done c.args.receiver.now c.args.batch.now c.args.journal.now c.args.server.now c.loop.receiver
    c.take_next.new.receiver c.loop.batch c.take_next.new.batch c.loop.plan c.take_next.new.plan c.loop.server
    c.loop.invariant (rw c.if-branch.false at c.in_ok-take_next.ensures.taken)

pub returns-clause-ahead : goal.returns-clause-ahead
returns-clause-ahead c =
    let none = rw c.if-branch.false at c.in_ok-take_next.ensures.taken in
    rounding_ahead c.args.receiver.now c.args.batch.now c.args.journal.now c.args.server.now c.loop.receiver
    c.take_next.new.receiver c.loop.batch c.loop.plan c.loop.server c.loop.invariant none.view

pub returns-clause-batch : goal.returns-clause-batch
returns-clause-batch c =
    let none = rw c.if-branch.false at c.in_ok-take_next.ensures.taken in
    rounding_batch c.args.receiver.now c.args.batch.now c.args.journal.now c.args.server.now c.loop.receiver
    c.take_next.new.receiver c.loop.batch c.take_next.new.batch c.loop.plan c.loop.server c.loop.invariant none.view
    none.batch

pub returns-in_err-take_next-clause-ahead : goal.returns-in_err-take_next-clause-ahead
returns-in_err-take_next-clause-ahead c =
    rounding_ahead c.args.receiver.now c.args.batch.now c.args.journal.now c.args.server.now c.loop.receiver
    c.take_next.new.receiver c.loop.batch c.loop.plan c.loop.server c.loop.invariant
    c.in_err-take_next.ensures.receiver

pub returns-in_err-take_next-clause-batch : goal.returns-in_err-take_next-clause-batch
returns-in_err-take_next-clause-batch c =
    rounding_batch c.args.receiver.now c.args.batch.now c.args.journal.now c.args.server.now c.loop.receiver
    c.take_next.new.receiver c.loop.batch c.take_next.new.batch c.loop.plan c.loop.server c.loop.invariant
    c.in_err-take_next.ensures.receiver c.in_err-take_next.ensures.batch

on_err : {T E : Type 0} {P : Type 0} (r : Result T E) → P → OnErr r P
on_err (Ok x) p = tt
on_err (Err e) p = p

pub returns-in_err-take_next-clause-part : goal.returns-in_err-take_next-clause-part
returns-in_err-take_next-clause-part c =
    on_err c.from_residual.result
    (rounding_stopped c.args.receiver.now c.args.batch.now c.args.journal.now c.args.server.now c.loop.receiver
    c.take_next.new.receiver c.loop.batch c.loop.plan c.loop.server c.loop.invariant
    c.in_err-take_next.ensures.left c.in_err-take_next.ensures.receiver)
