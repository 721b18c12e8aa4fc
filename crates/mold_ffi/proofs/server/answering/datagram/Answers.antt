use Rattle.std.proofs.Common.{◌≤◌, ◌∙◌, Bor, List, ℕ, length, ap, sym, arith}
use Rattle.std.proofs.lemmas.Bool.{not-false}
use Rattle.std.proofs.lemmas.Slice.Eq.{bytes_eq-Decides}
use Rattle.std.specs.Str.{bytes_eq}
use Rattle.mold_wire.specs.declared.session.Session.{Session}
use Rattle.mold_session.specs.Answer.{next_packet, next_part}
use Rattle.mold_ffi.proofs.BelowLemmas.{CanSend, has_written, serves_below}
use Rattle.mold_ffi.proofs.server.answering.datagram.Goals as goal

-- A session, from its bytes.
abbrev named : List ℕ → Session
named bytes = record { 0 = bytes }

pub returns-clause-serves : goal.returns-clause-serves
returns-clause-serves c =
    let server = c.args.server.now in
    let journal = c.served.inside.journal.now in
    let below = c.served.inside.below in
    let plan = c.in-Some.plan in
    let longest : journal.max_message ≤ server.max_message =
    omega (arith, c.if-max_message.false, c.max_message.ensures, c.max_message-2.ensures.value) in
    let can : CanSend server journal below plan = record {
      is = c.to.ensures.plan;
      suits = longest;
      session = sym c.session.ensures
          ∙ ap (λ (b : List ℕ). named b)
          ((bytes_eq-Decides c.session.result.0 c.session-else-max_message.result.0).0
          (not-false (bytes_eq c.session.result.0 c.session-else-max_message.result.0) (sym c.if-ne.ensures)))
          ∙ c.session-else-max_message.ensures;
      to = omega (arith, c.if-to-served.false, c.to.ensures.value);
      left = omega (arith, c.if-left-burst.false, c.left.ensures, c.burst.ensures);
    } in
    let long : server.limit ≤ length c.args.buffer.now =
    omega (arith, c.if-buffer-limit.false, c.limit-limit.ensures.value) in
    let written = has_written (λ (b : Bor (List ℕ)). b.now) c.datagram.result
    (next_packet journal.messages server.limit plan) (length (next_part journal.messages server.limit plan)) plan
    c.datagram.new.plan c.args.buffer.now c.copy_if_some-code.new.buffer c.copy_if_some-code.result
    c.copy_if_some-code.new.size c.datagram.ensures.none c.datagram.ensures.same c.datagram.ensures.more
    c.datagram.ensures.moved c.datagram.ensures.spelled c.copy_if_some-code.ensures.absent
    c.copy_if_some-code.ensures.put in
    serves_below server c.args.served.now journal below c.args.fields.now c.write.new.self c.args.buffer.now
    c.copy_if_some-code.new.buffer c.args.size.now c.copy_if_some-code.result c.copy_if_some-code.new.size plan
    c.datagram.new.plan c.served.view_is c.served.invariant c.in-Some.ensures.plan can long c.write.ensures written
