use Rattle.std.proofs.Common.{refl}
use Rattle.mold_audit.specs.Digest.{stepped}
use Rattle.mold_audit.proofs.digest.step.Goals as goal

pub returns : goal.returns
unfolding stepped
returns c = refl
