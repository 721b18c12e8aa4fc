use Rattle.std.proofs.Common.{◌∙◌, ◌-◌, arith, ap, refl}
use Rattle.mold_session.specs.Publisher.{PublisherState}
use Rattle.mold_turns.proofs.RunLemmas.{none_answered, none_ok}
use Rattle.mold_send.proofs.PublishLoopLemmas.{empty_room, left_behind, many_messages, none_sent, run_printed, run_refused}
use Rattle.mold_send.proofs.PublishLoopLemmas.{run_unread, run_unsaved}
use Rattle.mold_send.proofs.SendingLemmas.{sends_same}
use Rattle.mold_send.proofs.publication.Publication.publish.Goals as goal

pub send_messages-requires-clause-room : goal.send_messages-requires-clause-room
send_messages-requires-clause-room g c =
    empty_room c.args.self.now.publisher.now c.publisher_holds.ensures.published c.requires.empty
    (omega (arith, c.packet_length_law.ensures.none, c.publisher_holds.ensures.limited))

pub returns-in_err-refusal-clause-run : goal.returns-in_err-refusal-clause-run
returns-in_err-refusal-clause-run g c modeled =
    run_unread c.args.self.now.two_lines.a.now c.args.self.now.two_lines.b.now c.args.closing.beats c.args.closing.ends
    c.args.self.now.publisher.now _ _ _ c.from_residual.result _ _ _ _ _ _ _
    c.requires.quiet
    (none_sent c.args.self.now.publisher.now c.publisher_holds.ensures.published c.requires.empty)
    c.from_residual.ensures.0
    (c.send_messages.ensures.sends modeled)

pub returns-in_err-print_message_refused-clause-run : goal.returns-in_err-print_message_refused-clause-run
returns-in_err-print_message_refused-clause-run g c modeled =
    run_unread c.args.self.now.two_lines.a.now c.args.self.now.two_lines.b.now c.args.closing.beats c.args.closing.ends
    c.args.self.now.publisher.now _ _ _
    c.from_residual-in_err-print_message_refused.result _ _ _ _ _ _ _
    c.requires.quiet
    (none_sent c.args.self.now.publisher.now c.publisher_holds.ensures.published c.requires.empty)
    c.from_residual-in_err-print_message_refused.ensures.0
    (c.send_messages.ensures.sends modeled)

pub returns-in_err-send-clause-run : goal.returns-in_err-send-clause-run
returns-in_err-send-clause-run g c modeled =
    run_refused c.args.self.now.two_lines.a.now c.args.self.now.two_lines.b.now c.args.closing.beats c.args.closing.ends
    c.args.self.now.publisher.now c.send_messages.new.self.publisher.now _
    c.in-Some.refusal c.from_residual-in_err-send.result _ _ _ c.print_message_refused.new.outgoing _ _ _ _ _ c.next-number.result
    c.requires.quiet
    (none_sent c.args.self.now.publisher.now c.publisher_holds.ensures.published c.requires.empty)
    c.requires.unclosed
    (rw c.in-Some.is at (c.in_ok-refusal.ensures.sends modeled))
    (rw c.journal.ensures at c.next-number.ensures.value)
    c.in_ok-print_message_refused.ensures
    c.send.ensures.front
    (none_answered c.from_residual-in_err-send.result _ c.from_residual-in_err-send.ensures.0)

pub returns-in-Some-clause-run : goal.returns-in-Some-clause-run
returns-in-Some-clause-run g c modeled =
    run_refused c.args.self.now.two_lines.a.now c.args.self.now.two_lines.b.now c.args.closing.beats c.args.closing.ends
    c.args.self.now.publisher.now c.send_messages.new.self.publisher.now _
    c.in-Some.refusal _ _ _ _ c.print_message_refused.new.outgoing _ _ _ _ _ c.next-number.result
    c.requires.quiet
    (none_sent c.args.self.now.publisher.now c.publisher_holds.ensures.published c.requires.empty)
    c.requires.unclosed
    (rw c.in-Some.is at (c.in_ok-refusal.ensures.sends modeled))
    (rw c.journal.ensures at c.next-number.ensures.value)
    c.in_ok-print_message_refused.ensures
    c.send.ensures.front
    (c.in_ok-send.ensures.whole, refl)

pub returns-in_err-save_journal-clause-run : goal.returns-in_err-save_journal-clause-run
returns-in_err-save_journal-clause-run g c modeled =
    run_unsaved c.args.self.now.two_lines.a.now c.args.self.now.two_lines.b.now c.args.closing.beats c.args.closing.ends
    c.args.self.now.publisher.now c.send_messages.new.self.publisher.now _
    c.from_residual-in_err-save_journal.result _ _ _ c.send_close.new.self.two_lines.outgoing.now c.send_messages.new.self.datagrams _ _ _ _ _
    c.journal-2.result.now
    c.requires.quiet
    (none_sent c.args.self.now.publisher.now c.publisher_holds.ensures.published c.requires.empty)
    c.requires.unclosed
    (rw c.in_default.is at (c.in_ok-refusal.ensures.sends modeled))
    (λ unclosed. sends_same g.D.Datagrams.port _ c.args.self.now.two_lines c.send_messages.new.self.two_lines
    c.send_close.new.self.two_lines c.in_ok-refusal.ensures.same.two_lines
    (c.send_close.ensures.sends modeled unclosed))
    (c.journal-2.ensures ∙ ap (λ (p : PublisherState). p.journal) c.send_close.ensures.closed)
    c.from_residual-in_err-save_journal.ensures.0
    c.save_journal.ensures.front

pub returns-in_err-push_published-clause-run : goal.returns-in_err-push_published-clause-run
returns-in_err-push_published-clause-run g c modeled =
    run_unsaved c.args.self.now.two_lines.a.now c.args.self.now.two_lines.b.now c.args.closing.beats c.args.closing.ends
    c.args.self.now.publisher.now c.send_messages.new.self.publisher.now _
    c.from_residual-in_err-push_published.result _ _ _ c.send_close.new.self.two_lines.outgoing.now c.send_messages.new.self.datagrams _ _ _ _ _
    c.journal-2.result.now
    c.requires.quiet
    (none_sent c.args.self.now.publisher.now c.publisher_holds.ensures.published c.requires.empty)
    c.requires.unclosed
    (rw c.in_default.is at (c.in_ok-refusal.ensures.sends modeled))
    (λ unclosed. sends_same g.D.Datagrams.port _ c.args.self.now.two_lines c.send_messages.new.self.two_lines
    c.send_close.new.self.two_lines c.in_ok-refusal.ensures.same.two_lines
    (c.send_close.ensures.sends modeled unclosed))
    (c.journal-2.ensures ∙ ap (λ (p : PublisherState). p.journal) c.send_close.ensures.closed)
    c.from_residual-in_err-push_published.ensures.0
    c.save_journal.ensures.front

pub returns-in_err-send-2-clause-run : goal.returns-in_err-send-2-clause-run
returns-in_err-send-2-clause-run g c modeled =
    let closed = ap (λ (p : PublisherState). p.journal) c.send_close.ensures.closed in
    let failed = c.from_residual-in_err-send-2.ensures.0 in
    run_printed c.args.self.now.two_lines.a.now c.args.self.now.two_lines.b.now c.args.closing.beats c.args.closing.ends
    c.args.self.now.publisher.now c.send_messages.new.self.publisher.now _
    c.from_residual-in_err-send-2.result _ _ _ c.send_close.new.self.two_lines.outgoing.now c.push_published.new.outgoing
    c.send_messages.new.self.datagrams (c.next-messages.result - 1) _ _ _ _ _ _ c.journal-2.result.now
    c.requires.quiet
    (none_sent c.args.self.now.publisher.now c.publisher_holds.ensures.published c.requires.empty)
    c.requires.unclosed
    (rw c.in_default.is at (c.in_ok-refusal.ensures.sends modeled))
    (λ unclosed. sends_same g.D.Datagrams.port _ c.args.self.now.two_lines c.send_messages.new.self.two_lines
    c.send_close.new.self.two_lines c.in_ok-refusal.ensures.same.two_lines
    (c.send_close.ensures.sends modeled unclosed))
    (c.journal-2.ensures ∙ closed)
    (many_messages _ _ _ c.next-messages.ensures.value (c.journal-3.ensures ∙ closed))
    (rw c.send_close.ensures.datagrams at c.in_ok-push_published.ensures)
    (none_answered c.from_residual-in_err-send-2.result _ failed)
    c.send-2.ensures.front
    (none_ok c.from_residual-in_err-send-2.result _ failed)
    c.save_journal.ensures.front

pub returns-clause-run : goal.returns-clause-run
returns-clause-run g c modeled =
    let closed = ap (λ (p : PublisherState). p.journal) c.send_close.ensures.closed in
    run_printed c.args.self.now.two_lines.a.now c.args.self.now.two_lines.b.now c.args.closing.beats c.args.closing.ends
    c.args.self.now.publisher.now c.send_messages.new.self.publisher.now _
    _ _ _ _ c.send_close.new.self.two_lines.outgoing.now c.push_published.new.outgoing c.send_messages.new.self.datagrams (c.next-messages.result - 1)
    _ _ _ _ _ _ c.journal-2.result.now
    c.requires.quiet
    (none_sent c.args.self.now.publisher.now c.publisher_holds.ensures.published c.requires.empty)
    c.requires.unclosed
    (rw c.in_default.is at (c.in_ok-refusal.ensures.sends modeled))
    (λ unclosed. sends_same g.D.Datagrams.port _ c.args.self.now.two_lines c.send_messages.new.self.two_lines
    c.send_close.new.self.two_lines c.in_ok-refusal.ensures.same.two_lines
    (c.send_close.ensures.sends modeled unclosed))
    (c.journal-2.ensures ∙ closed)
    (many_messages _ _ _ c.next-messages.ensures.value (c.journal-3.ensures ∙ closed))
    (rw c.send_close.ensures.datagrams at c.in_ok-push_published.ensures)
    (c.in_ok-send-2.ensures.whole, refl)
    c.send-2.ensures.front
    c.in_ok-save_journal.ensures.whole
    c.save_journal.ensures.front

pub returns-in-Some-clause-journal : goal.returns-in-Some-clause-journal
returns-in-Some-clause-journal g c modeled =
    left_behind c.args.self.now.two_lines.a.now c.args.self.now.two_lines.b.now c.args.self.now.publisher.now c.send_messages.new.self.publisher.now _ _ _ _ _ _
    (rw c.in-Some.is at (c.in_ok-refusal.ensures.sends modeled)) refl

pub returns-clause-journal : goal.returns-clause-journal
returns-clause-journal g c modeled =
    left_behind c.args.self.now.two_lines.a.now c.args.self.now.two_lines.b.now c.args.self.now.publisher.now c.send_messages.new.self.publisher.now _ _ _ _ _ _
    (rw c.in_default.is at (c.in_ok-refusal.ensures.sends modeled))
    (ap (λ (p : PublisherState). p.journal) c.send_close.ensures.closed)
