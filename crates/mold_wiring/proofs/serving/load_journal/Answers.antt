use Rattle.mold_wiring.proofs.serving.load_journal.Goals as goal

pub returns-in-Ok-refusal_of-clause-refused : goal.returns-in-Ok-refusal_of-clause-refused
returns-in-Ok-refusal_of-clause-refused g c =
    c.in-Ok-refusal_of.ensures.refused _ _ (rw c.longest_message.ensures at c.in-Err.ensures.refused)

pub returns-in-Ok-refusal_of-clause-failures : goal.returns-in-Ok-refusal_of-clause-failures
returns-in-Ok-refusal_of-clause-failures g c = c.in-Ok-refusal_of.ensures.failures _ _ c.in-Err.ensures.failures

pub returns-in-Err-refusal_of-clause-failures : goal.returns-in-Err-refusal_of-clause-failures
returns-in-Err-refusal_of-clause-failures g c = c.in-Err-refusal_of.ensures.failures _ _ c.in-Err.ensures.failures
