use Rattle.mold_feeder.proofs.feed_text.push_compared.Goals as goal

pub returns-in-End-clause-text : goal.returns-in-End-clause-text
returns-in-End-clause-text c = rw c.in-End.is c.push_named-in-End.ensures.text
