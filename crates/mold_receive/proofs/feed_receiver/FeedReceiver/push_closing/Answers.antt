use Rattle.std.proofs.Common.{List, ap, append_assoc, sym, ◌++◌, ◌==◌, ◌∙◌, ℕ}
use Rattle.mold_input.specs.declared.message_format.MessageFormat.{MessageFormat}
use Rattle.mold_listen.specs.Text.{mark_text}
use Rattle.mold_receive.specs.Receiving.{last_line, last_status}
use Rattle.mold_repair.specs.declared.repairer.Repairer.{Repairer}
use Rattle.mold_turns.specs.Outgoing.{OutgoingState, note_text}
use Rattle.mold_receive.proofs.CallLemmas.{end_parts, kept_after, on_err_of}
use Rattle.mold_receive.proofs.feed_receiver.FeedReceiver.push_closing.Goals as goal

pub returns-clause-text : goal.returns-clause-text
returns-clause-text g c =
    let old = c.args.self.now in
    let mid = c.push_end.new.self.outgoing in
    let note = note_text old.outgoing.format (last_line old.repairer (g.D.PortSet.state old.ports).failures) in
    let mark : MessageFormat → ℕ → List ℕ = λ f status. mark_text f (status == 0) in
    ap (λ (o : OutgoingState). o.text) c.in_ok-push_mark.ensures.mark
    ∙ ap (λ (t : List ℕ). t ++ mark mid.format c.last_status-status.result) c.in_ok-push_end.ensures.line
    ∙ append_assoc old.outgoing.text note (mark mid.format c.last_status-status.result)
    ∙ ap (λ (f : MessageFormat). old.outgoing.text ++ (note ++ mark f c.last_status-status.result))
    c.in_ok-push_end.ensures.format
    ∙ ap (λ (n : ℕ). old.outgoing.text ++ (note ++ mark old.outgoing.format n))
    (c.last_status-status.ensures ∙ ap (λ (r : Repairer). last_status r) c.push_end.ensures.repairer)
    ∙ ap (λ (t : List ℕ). old.outgoing.text ++ t) (sym (end_parts old.outgoing.format
    (last_status old.repairer == 0) (last_line old.repairer (g.D.PortSet.state old.ports).failures)))

pub returns-in_err-push_mark-clause-kept : goal.returns-in_err-push_mark-clause-kept
returns-in_err-push_mark-clause-kept g c =
    on_err_of c.from_residual-in_err-push_mark.result
    (kept_after c.args.self.now.outgoing.text c.push_end.new.self.outgoing.text c.push_mark.new.outgoing.text _
    c.in_ok-push_end.ensures.line c.in_err-push_mark.ensures.kept)
