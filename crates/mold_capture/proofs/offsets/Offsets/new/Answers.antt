use Rattle.mold_capture.proofs.OffsetLemmas.{offsets_none}
use Rattle.mold_capture.proofs.offsets.Offsets.new.Goals as goal

pub returns : goal.returns
returns c = offsets_none c.new.result.items c.new-2.result.items c.new-2.ensures.items
