use Rattle.std.proofs.Common.{◌∙◌, sym}
use Rattle.mold_repair.proofs.auditing.find_contradiction.Goals as goal

pub returns : goal.returns
returns c = record {
  packet = c.in-Ok.packet;
  read = sym c.decode.ensures.exact ∙ c.in-Ok.is;
  compared = rw c.in-Data.is c.check.ensures;
}
