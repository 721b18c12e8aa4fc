use Rattle.std.proofs.Common.{refl}
use Rattle.mold_capture.proofs.EndLemmas.{ends_none}
use Rattle.mold_capture.proofs.ends.Ends.new.Goals as goal

pub returns : goal.returns
returns c = ends_none 0 0 c.new.result refl c.new.ensures
