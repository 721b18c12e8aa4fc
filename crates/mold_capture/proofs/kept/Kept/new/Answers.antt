use Rattle.mold_capture.proofs.KeptLemmas.{pieces_none}
use Rattle.mold_capture.proofs.kept.Kept.new.Goals as goal

pub returns : goal.returns
returns c = pieces_none c.new.result c.new-2.result.items c.new.ensures
