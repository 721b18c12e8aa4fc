use Rattle.mold_check.proofs.SessionLemmas.{each_status_is, each_text_is}
use Rattle.mold_check.proofs.laws.each_check_law.Goals as goal

pub returns-clause-text : goal.returns-clause-text
returns-clause-text c = each_text_is

pub returns-clause-status : goal.returns-clause-status
returns-clause-status c = each_status_is
