use Rattle.std.proofs.Common.{refl}
use Rattle.mold_session.specs.Records.{magic_3}
use Rattle.mold_durable.proofs.head.magic.Goals as goal

pub returns : goal.returns
unfolding magic_3
returns c = refl
