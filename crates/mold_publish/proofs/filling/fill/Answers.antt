use Rattle.std.proofs.Common.{arith, refl, ◌∙◌}
use Rattle.mold_publish.proofs.PublishingLemmas.{filled_nothing, filled_end, filled_refused, filled_full, filled_more}
use Rattle.mold_publish.proofs.PublishingLemmas.{filled_fault}
use Rattle.mold_publish.proofs.filling.fill.Goals as goal

pub messages-init : goal.messages-init
messages-init g c = record { filled = filled_nothing _ _ _ c.requires; work = omega arith; failed = refl }

pub returns-in-End-clause-filled : goal.returns-in-End-clause-filled
returns-in-End-clause-filled g c =
    filled_end _ _ _ _ _ _ (g.M.MessageReader.found c.advance.new.self) c.messages.invariant.filled
    (rw c.in-End.is at c.in_ok-advance.ensures.next)

pub returns-in-Fault-clause-filled : goal.returns-in-Fault-clause-filled
returns-in-Fault-clause-filled g c =
    rw (c.kind-kind.ensures, c.from_fault-why.ensures, c.is_closed.ensures)
    (filled_fault _ _ _ _ _ _ (g.M.MessageReader.found c.advance.new.self) c.in-Fault.why c.messages.invariant.filled
    (rw c.in-Fault.is at c.in_ok-advance.ensures.next))

pub returns-in-Some-clause-filled : goal.returns-in-Some-clause-filled
returns-in-Some-clause-filled g c =
    filled_refused _ _ _ _ _ _ _ _ c.message.result.now c.in-Some.refusal c.messages.invariant.filled
    (rw c.in-Message.is at c.in_ok-advance.ensures.next) c.message.ensures
    (rw (c.in-Some.is, c.kind-kind.ensures) at c.in_ok-refusal.ensures.value)

pub returns-then-is_full-clause-filled : goal.returns-then-is_full-clause-filled
returns-then-is_full-clause-filled g c =
    filled_full _ _ _ _ _ _ _ _ c.message.result.now c.messages.invariant.filled
    (rw c.in-Message.is at c.in_ok-advance.ensures.next) c.message.ensures
    (rw (c.in_default.is, c.kind-kind.ensures) at c.in_ok-refusal.ensures.value)
    (λ limit message. (c.packet_length_law.ensures.alone limit message).0) c.is_full.ensures.publisher
    (c.is_full.ensures.full.0 c.if-is_full.true)

pub messages-preserved : goal.messages-preserved
messages-preserved g c = record {
  filled =
      filled_more _ _ _ _ _ _ _ _ c.message.result.now c.messages.invariant.filled
      (rw c.in-Message.is at c.in_ok-advance.ensures.next) c.message.ensures
      (rw (c.in_default.is, c.kind-kind.ensures) at c.in_ok-refusal.ensures.value) c.is_full.result c.is_full.ensures.full c.if-is_full.false;
  work = let less = c.in_ok-advance.ensures.work c.in-Message.is in omega (arith, less, c.messages.invariant.work);
  failed = c.in_ok-advance.ensures.failures ∙ c.messages.invariant.failed;
}
