use Rattle.mold_send.proofs.publication.push_published.Goals as goal

pub returns : goal.returns
returns c = rw c.failures.ensures at c.push_line.ensures.line
