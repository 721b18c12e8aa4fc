use Rattle.std.proofs.Common.{inl, inr, arith, ap, length}
use Rattle.mold_session.specs.Answer.{SendsNext}
use Rattle.mold_rounds.proofs.PacketLemmas.{Comes, comes, never_refused, takes_one}
use Rattle.mold_rounds.proofs.rounding.take_next.Goals.{In-Some}
use Rattle.mold_rounds.proofs.rounding.take_next.Goals as goal

-- The datagram is the next packet of the plan.
sends_next : (c : In-Some) → SendsNext c.args.journal.now.messages c.args.server.now.limit c.args.plan.now
sends_next c =
    let sent = c.in-Some.ensures in
    c.planned_law.ensures.next c.args.journal.now.messages c.args.server.now.limit c.args.plan.now
    (c.answer_not_empty_law.ensures.fit c.args.journal.now c.args.server.now sent.journal sent.server
    c.requires.longest) sent.plan c.requires.awaits.held sent.more

-- It reaches the receiver in its gap.
comes_next : (c : In-Some) →
    Comes c.args.receiver.now c.args.journal.now c.args.server.now.limit c.args.plan.now c.in-Some.datagram.now
comes_next c =
    let sent = c.in-Some.ensures in
    comes c.round_law.ensures.gap c.one_spelling_law.ensures.one_packet c.true_packet_law.ensures.carried
    c.args.receiver.now c.args.journal.now c.args.server.now.limit c.args.plan.now c.in-Some.datagram.now
    c.requires.awaits sent.more (sends_next c) sent.spelled sent.truth

pub unreachable-requires : goal.unreachable-requires
unreachable-requires c =
    let next = comes_next (goal.at.unreachable-requires c).In-Some in
    elim c.in-Err.ensures.refused [
      | inl memory ↦ c.in_default-error.not-Memory memory.0
      | inr refused ↦
          never_refused c.args.receiver.now c.in-Some.datagram.now next.taken.reception c.in-Err.error
          next.taken.received refused
    ]

pub returns-in-Ok-clause-taken : goal.returns-in-Ok-clause-taken
returns-in-Ok-clause-taken c =
    takes_one c.args.receiver.now c.take.new.self c.args.batch.now c.take.new.batch c.args.journal.now
    c.args.server.now.limit c.args.plan.now c.datagram.new.plan c.in-Some.datagram.now c.in-Ok.field-0
    (comes_next (goal.at.returns-in-Ok-clause-taken c).In-Some) c.in-Ok.ensures.taken c.in-Some.ensures.moved

pub returns-in-Memory-clause-left : goal.returns-in-Memory-clause-left
returns-in-Memory-clause-left c =
    let sends = sends_next (goal.at.returns-in-Memory-clause-left c).In-Some in
    omega (arith, ap length sends.sent)
