use Rattle.std.proofs.Common.{ap, arith, refl, ◌∙◌}
use Rattle.mold_devices.proofs.LineLemmas.{on_err}
use Rattle.mold_durable_publisher.specs.declared.durable_publisher.DurablePublisher.{DurablePublisher}
use Rattle.mold_feeder.specs.Gathering.{with_waiting}
use Rattle.mold_feeder.proofs.GatheringLemmas.{gathered_end, gathered_fault, gathered_more, gathered_nothing}
use Rattle.mold_feeder.proofs.GatheringLemmas.{gathered_refused, grown_so_far}
use Rattle.mold_feeder.proofs.gathering.gather.Goals as goal

pub loop-message-init : goal.loop-message-init
loop-message-init g c = record {
  gathered = λ life is.
      gathered_nothing g.S.Storage.shows g.S.Storage.may_leave g.M.MessageReader.input_kind life c.args.publisher.now _
      is;
  storage = refl;
  intact = refl;
  longest = refl;
}

pub returns-in-Fault-clause-gathered : goal.returns-in-Fault-clause-gathered
returns-in-Fault-clause-gathered g c = λ life is.
    rw (c.kind-kind.ensures, c.from_fault-why.ensures, c.is_closed.ensures)
    (gathered_fault g.S.Storage.shows g.S.Storage.may_leave g.M.MessageReader.input_kind life c.loop-message._message
    c.args.most c.args.publisher.now c.loop-message.publisher _ _ _ (g.M.MessageReader.found c.advance.new.self)
    c.in-Fault.why (omega (arith, c.loop-message-test.true)) (c.loop-message.invariant.gathered life is)
    (rw c.in-Fault.is at c.in_ok-advance.ensures.next))

pub returns-in-End-clause-gathered : goal.returns-in-End-clause-gathered
returns-in-End-clause-gathered g c = λ life is.
    gathered_end g.S.Storage.shows g.S.Storage.may_leave g.M.MessageReader.input_kind life c.loop-message._message
    c.args.most c.args.publisher.now c.loop-message.publisher _ _ _ (g.M.MessageReader.found c.advance.new.self)
    (omega (arith, c.loop-message-test.true)) (c.loop-message.invariant.gathered life is)
    (rw c.in-End.is at c.in_ok-advance.ensures.next)

pub returns-in-Some-clause-gathered : goal.returns-in-Some-clause-gathered
returns-in-Some-clause-gathered g c = λ life is.
    let so_far = c.loop-message.invariant.gathered life is in
    gathered_refused g.S.Storage.shows g.S.Storage.may_leave g.M.MessageReader.input_kind life c.loop-message._message
    c.args.most c.args.publisher.now c.loop-message.publisher c.join_waiting.new.publisher _ _ _
    (g.M.MessageReader.found c.advance.new.self) c.in-Some.refusal (omega (arith, c.loop-message-test.true)) so_far
    (rw c.in-Message.is at c.in_ok-advance.ensures.next)
    (rw (c.in-Some.is, c.kind-kind.ensures, c.message.ensures) at
    (c.in_ok-refusal.ensures.joined (with_waiting life so_far.messages) so_far.publishes))

pub loop-message-preserved : goal.loop-message-preserved
loop-message-preserved g c = record {
  gathered = λ life is.
      let so_far = c.loop-message.invariant.gathered life is in
      gathered_more g.S.Storage.shows g.S.Storage.may_leave g.M.MessageReader.input_kind life c.loop-message._message
      c.args.publisher.now c.loop-message.publisher c.join_waiting.new.publisher _ _ _
      (g.M.MessageReader.found c.advance.new.self) so_far (rw c.in-Message.is at c.in_ok-advance.ensures.next)
      (rw (c.in_default.is, c.kind-kind.ensures, c.message.ensures) at
      (c.in_ok-refusal.ensures.joined (with_waiting life so_far.messages) so_far.publishes));
  storage = c.join_waiting.ensures.storage ∙ c.loop-message.invariant.storage;
  intact = c.join_waiting.ensures.intact ∙ c.loop-message.invariant.intact;
  longest = c.join_waiting.ensures.longest ∙ c.loop-message.invariant.longest;
}

pub returns-in_err-advance-clause-grows : goal.returns-in_err-advance-clause-grows
returns-in_err-advance-clause-grows g c = λ life is.
    on_err _
    (grown_so_far g.S.Storage.shows g.S.Storage.may_leave g.M.MessageReader.input_kind life c.loop-message._message
    c.args.publisher.now c.loop-message.publisher c.loop-message.publisher _ _
    (c.loop-message.invariant.gathered life is) refl)

pub returns-in_err-refusal-clause-grows : goal.returns-in_err-refusal-clause-grows
returns-in_err-refusal-clause-grows g c = λ life is.
    on_err _
    (grown_so_far g.S.Storage.shows g.S.Storage.may_leave g.M.MessageReader.input_kind life c.loop-message._message
    c.args.publisher.now c.loop-message.publisher c.join_waiting.new.publisher _ _
    (c.loop-message.invariant.gathered life is) (ap (λ (p : DurablePublisher g.row.S.Denot). p.publisher) c.in_err-refusal.ensures.same))
