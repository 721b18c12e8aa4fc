use Rattle.std.proofs.Common.{◌≡◌, ◌∙◌, ◌++◌, None, ap, sym}
use Rattle.mold_listen.specs.Listening.{is_finished, last_line, progress}
use Rattle.mold_listen.specs.Text.{mark_text, reports_text}
use Rattle.mold_listen.proofs.TurnLemmas.{marked, none_stopped}
use Rattle.mold_turns.specs.Outgoing.{OutgoingState, with_more, with_note}
use Rattle.mold_turns.proofs.OutgoingLemmas.{note_twice}
use Rattle.mold_turns.proofs.RunLemmas.{begins_trans}
use Rattle.mold_listen.proofs.ending.push_end.Goals as goal

pub returns-clause-lines : goal.returns-clause-lines
returns-clause-lines c =
    let old = c.args.outgoing.now in
    let e = progress c.args.arbiter.now old in
    let note = reports_text c.args.reporting c.args.arbiter.now.reports c.args.arbiter.now.view.known ++ last_line e in
    let lines : c.push_last.new.outgoing ≡ with_note note old =
    c.in_ok-status.ensures.line
    ∙ ap (λ (out : OutgoingState). with_note (last_line (progress c.args.arbiter.now out)) out)
    c.in_ok-push_reports.ensures.lines
    ∙ note_twice (reports_text c.args.reporting c.args.arbiter.now.reports c.args.arbiter.now.view.known) (last_line e)
    old in
    let none : old.stopped ≡ None =
    ap (λ (o : OutgoingState). o.stopped) (sym c.outgoing.view_is)
    ∙ none_stopped c.outgoing.inside.stopped c.in_default.not-Some in
    c.in_ok-push_mark.ensures.mark
    ∙ ap (λ (out : OutgoingState). with_more (mark_text out.format (is_finished (progress c.args.arbiter.now out))) out)
    lines
    ∙ marked (is_finished e) note old none

pub returns-clause-prints : goal.returns-clause-prints
returns-clause-prints c =
    begins_trans c.push_reports.ensures.prints (begins_trans c.push_last.ensures.prints c.push_mark.ensures.prints)
