use Rattle.mold_capture_commands.proofs.CheckLemmas.{status_is, text_is}
use Rattle.mold_capture_commands.proofs.TargetLemmas.{other_target_is}
use Rattle.mold_capture_commands.proofs.laws.capture_check_law.Goals as goal
use Rattle.mold_capture_commands.specs.Captures.{payloads_of}

pub returns-clause-text : goal.returns-clause-text
returns-clause-text c = text_is c.datagram_check_law.ensures.text

pub returns-clause-status : goal.returns-clause-status
returns-clause-status c = status_is c.datagram_check_law.ensures.status

pub returns-clause-other : goal.returns-clause-other
returns-clause-other c = other_target_is

pub returns-clause-outcome : goal.returns-clause-outcome
returns-clause-outcome c = λ filter files are. c.lines_outcome_law.ensures.datagrams (payloads_of filter files) are
