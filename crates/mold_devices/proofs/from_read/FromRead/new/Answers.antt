use Rattle.std.proofs.Common.{refl}
use Rattle.mold_devices.proofs.from_read.FromRead.new.Goals as goal

pub returns-clause-calls_left : goal.returns-clause-calls_left
returns-clause-calls_left g c = refl
