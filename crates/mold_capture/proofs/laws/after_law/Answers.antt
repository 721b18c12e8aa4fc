use Rattle.mold_capture.proofs.SumLemmas.{after_more}
use Rattle.mold_capture.proofs.laws.after_law.Goals as goal

pub returns : goal.returns
returns c = after_more c.reading_law.ensures.read
