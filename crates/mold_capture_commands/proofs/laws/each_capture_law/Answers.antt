use Rattle.mold_capture_commands.proofs.CheckLemmas.{each_status_is, each_text_is}
use Rattle.mold_capture_commands.proofs.TargetLemmas.{each_other_is}
use Rattle.mold_capture_commands.proofs.laws.each_capture_law.Goals as goal

pub returns-clause-text : goal.returns-clause-text
returns-clause-text c = each_text_is c.each_check_law.ensures.text

pub returns-clause-status : goal.returns-clause-status
returns-clause-status c = each_status_is c.each_check_law.ensures.status

pub returns-clause-other : goal.returns-clause-other
returns-clause-other c = each_other_is
