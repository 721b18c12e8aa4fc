use Rattle.std.proofs.Common.{refl}
use Rattle.mold_check.proofs.MovedLemmas.{front_as, sent_as}
use Rattle.mold_check.proofs.ReportLemmas.{front_none}
use Rattle.mold_check.proofs.session_table.print_none.Goals as goal

pub returns-in_err-push_none-clause-front : goal.returns-in_err-push_none-clause-front
returns-in_err-push_none-clause-front g c = front_none _ _

pub returns-in_err-send-clause-front : goal.returns-in_err-send-clause-front
returns-in_err-send-clause-front g c = front_as _ _ _ _ c.in_ok-push_none.ensures c.in_err-send.ensures.front

pub returns-clause-whole : goal.returns-clause-whole
returns-clause-whole g c = (sent_as _ _ _ _ c.in_ok-push_none.ensures c.in_ok-send.ensures.whole, refl)

pub returns-clause-front : goal.returns-clause-front
returns-clause-front g c = front_as _ _ _ _ c.in_ok-push_none.ensures c.in_ok-send.ensures.front
