use Rattle.mold_refusals.proofs.answering.push_answer_refusal.Goals as goal

pub returns-in-RequestLength-clause-text : goal.returns-in-RequestLength-clause-text
returns-in-RequestLength-clause-text c = rw c.in-RequestLength.is c.push_line_with.ensures.line

pub returns-in-WrongSession-clause-text : goal.returns-in-WrongSession-clause-text
returns-in-WrongSession-clause-text c = rw c.in-WrongSession.is c.push_line_with-in-WrongSession.ensures.line
