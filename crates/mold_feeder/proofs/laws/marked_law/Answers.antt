use Rattle.mold_feeder.proofs.MarkedLemmas.{marked_entries}
use Rattle.mold_feeder.proofs.laws.marked_law.Goals as goal

pub returns : goal.returns
returns c = marked_entries
