use Rattle.mold_text.proofs.refusal.push_refusal.Goals as goal

pub returns-in-EndConflict-clause-text : goal.returns-in-EndConflict-clause-text
returns-in-EndConflict-clause-text c = rw c.in-EndConflict.is c.push_numbered.ensures.text
