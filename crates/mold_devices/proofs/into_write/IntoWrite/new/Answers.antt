use Rattle.std.proofs.Common.{refl}
use Rattle.mold_devices.proofs.into_write.IntoWrite.new.Goals as goal

pub returns-clause-failures : goal.returns-clause-failures
returns-clause-failures g c = refl
