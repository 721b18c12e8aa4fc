use Rattle.mold_capture_commands.proofs.SessionLemmas.{status_is, text_is}
use Rattle.mold_capture_commands.proofs.session_laws.sessions_law.Goals as goal

pub returns-clause-text : goal.returns-clause-text
returns-clause-text c = text_is

pub returns-clause-status : goal.returns-clause-status
returns-clause-status c = status_is
