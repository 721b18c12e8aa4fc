use Rattle.std.proofs.Common.{subst}
use Rattle.mold_show.specs.Dump.{CountsEnd}
use Rattle.mold_show.proofs.dump.end_lines.Goals as goal

pub returns-in-Some-clause-failures : goal.returns-in-Some-clause-failures
returns-in-Some-clause-failures g c = λ old new counts.
    c.end_refused.ensures.failures old new (subst (CountsEnd old new) c.in-Some.is counts)
