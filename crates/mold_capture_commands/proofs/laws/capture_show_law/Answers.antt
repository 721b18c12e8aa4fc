use Rattle.mold_capture_commands.proofs.ShowLemmas.{show_status_is, show_text_is}
use Rattle.mold_capture_commands.proofs.laws.capture_show_law.Goals as goal

pub returns-clause-text : goal.returns-clause-text
returns-clause-text c = show_text_is

pub returns-clause-status : goal.returns-clause-status
returns-clause-status c = show_status_is
