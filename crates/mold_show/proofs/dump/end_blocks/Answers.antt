use Rattle.std.proofs.Common.{inr}
use Rattle.mold_show.proofs.dump.end_blocks.Goals as goal

pub returns-clause-failures : goal.returns-clause-failures
returns-clause-failures g c = λ old new counts.
    inr (c.end_lines.ensures.failures old new counts, c.in-Ok.ensures.failures)
