use Rattle.mold_check.proofs.JudgementLemmas.{all_status, all_text}
use Rattle.mold_check.proofs.laws.datagram_check_law.Goals as goal

pub returns-clause-text : goal.returns-clause-text
returns-clause-text c = all_text

pub returns-clause-status : goal.returns-clause-status
returns-clause-status c = all_status
