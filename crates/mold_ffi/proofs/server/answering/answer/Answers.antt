use Rattle.std.proofs.Common.{◌≡◌, ◌≤◌, ◌∙◌, Bor, List, ℕ, length, subst, arith}
use Rattle.mold_session.specs.Answer.{next_packet, next_part}
use Rattle.mold_session.specs.Server.{ServerState, counted}
use Rattle.mold_ffi.proofs.BelowLemmas.{Laws, answers_below, has_written, written_next}
use Rattle.mold_ffi.proofs.server.answering.answer.Goals as goal

pub returns-in-Ok : goal.returns-in-Ok
returns-in-Ok c =
    let server = c.args.server.now in
    let journal = c.served.inside.journal.now in
    let plan = c.in-Ok.plan in
    let laws : Laws = record {
      answerable = c.answered_law.ensures.answerable;
      plan = c.answered_law.ensures.plan;
      below = c.answered_law.ensures.below;
      next = c.planned_law.ensures.next;
      fit = c.answer_not_empty_law.ensures.fit;
    } in
    let longest : journal.max_message ≤ server.max_message =
    omega (arith, c.if-max_message.false, c.max_message.ensures, c.max_message-2.ensures.value) in
    let long : server.limit ≤ length c.args.buffer.now =
    omega (arith, c.if-buffer-limit.false, c.limit-limit.ensures.value) in
    let counts : c.datagram.follows.lender-at-none ≡ counted server =
    c.datagram.follows.holds-at-none ∙ c.in-Ok.ensures.counted in
    let found = has_written (λ (b : Bor (List ℕ)). b.now) c.datagram.result
    (next_packet journal.messages c.plan_below.new.self.limit plan)
    (length (next_part journal.messages c.plan_below.new.self.limit plan)) plan
    c.datagram.new.plan c.args.buffer.now c.copy_if_some-code.new.buffer c.copy_if_some-code.result
    c.copy_if_some-code.new.size c.datagram.ensures.none c.datagram.ensures.same c.datagram.ensures.more
    c.datagram.ensures.moved c.datagram.ensures.spelled c.copy_if_some-code.ensures.absent
    c.copy_if_some-code.ensures.put in
    let written = subst (λ (s : ServerState). written_next s journal c.args.buffer.now c.copy_if_some-code.new.buffer
    c.copy_if_some-code.result c.copy_if_some-code.new.size c.datagram.new.plan plan) c.in-Ok.ensures.counted found in
    answers_below server c.datagram.follows.lender-at-none c.args.served.now journal c.served.inside.below
    (length (next_part journal.messages server.limit plan)) c.args.request.now
    c.args.buffer.now c.copy_if_some-code.new.buffer c.args.number.now c.copy_if_some-code.result
    c.copy_if_some-code.new.size plan c.datagram.new.plan c.served.view_is laws c.in-Ok.ensures.journal
    c.in-Ok.ensures.server longest long c.in-Ok.ensures.planned written counts
