use Rattle.mold_check.proofs.LineLemmas.{input_status, input_text}
use Rattle.mold_check.proofs.SessionLemmas.{each_input_status, each_input_text}
use Rattle.mold_check.proofs.laws.line_check_law.Goals as goal

pub returns-clause-text : goal.returns-clause-text
returns-clause-text c = input_text

pub returns-clause-status : goal.returns-clause-status
returns-clause-status c = input_status

pub returns-clause-each_text : goal.returns-clause-each_text
returns-clause-each_text c = each_input_text

pub returns-clause-each_status : goal.returns-clause-each_status
returns-clause-each_status c = each_input_status
