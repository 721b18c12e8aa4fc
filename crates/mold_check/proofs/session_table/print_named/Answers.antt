use Rattle.mold_check.specs.EachCheck.{session_line}
use Rattle.mold_check.proofs.MovedLemmas.{front_line, sent_line}
use Rattle.mold_check.proofs.ReportLemmas.{front_none}
use Rattle.mold_check.proofs.session_table.print_named.Goals as goal

pub returns-in_err-push_session-clause-front : goal.returns-in_err-push_session-clause-front
returns-in_err-push_session-clause-front g c = front_none _ _

pub returns-in_err-status-clause-front : goal.returns-in_err-status-clause-front
returns-in_err-status-clause-front g c =
    front_line _ _ c.args.text.now.items (session_line c.args.session.now) _ _ c.in_ok-push_session.ensures c.print.ensures.front

pub returns-clause-whole : goal.returns-clause-whole
returns-clause-whole g c = (
  sent_line _ _ c.args.text.now.items (session_line c.args.session.now) _ _ c.in_ok-push_session.ensures
      c.in_ok-status.ensures.whole.0,
  c.in_ok-status.ensures.whole.1,
)

pub returns-clause-front : goal.returns-clause-front
returns-clause-front g c =
    front_line _ _ c.args.text.now.items (session_line c.args.session.now) _ _ c.in_ok-push_session.ensures
    c.in_ok-status.ensures.front
