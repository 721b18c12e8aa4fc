use Rattle.mold_turns.proofs.OutgoingLemmas.{note_none}
use Rattle.mold_turns.proofs.RunLemmas.{begins_trans, begins_whole}
use Rattle.mold_listen.proofs.ending.push_reports.Goals as goal

pub returns-then-not-reporting-clause-prints : goal.returns-then-not-reporting-clause-prints
returns-then-not-reporting-clause-prints c = begins_whole _

pub returns-clause-prints : goal.returns-clause-prints
returns-clause-prints c = begins_trans c.push_report.ensures.prints c.push_report-2.ensures.prints

pub returns-then-not-reporting-clause-lines : goal.returns-then-not-reporting-clause-lines
returns-then-not-reporting-clause-lines c = rw c.if-not-reporting.true (note_none c.args.outgoing.now)
